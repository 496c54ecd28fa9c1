use Rattle.std.proofs.Common.{sym, ◌∙◌}
use Rattle.fm_plain_frame.proofs.ReadingLaws.{len_nowhere, len_ports, len_here}
use Rattle.fm_plain_frame.proofs.reading.variable_len.Goals as goal

pub returns-in-None : goal.returns-in-None
returns-in-None c = len_nowhere c.args.variables.now c.args.memory.now c.args.place c.in-None.ensures

pub returns-then-holds_ports : goal.returns-then-holds_ports
returns-then-holds_ports c = len_ports c.args.variables.now c.args.memory.now c.args.place c.in-Some.variable.now c.in-Some.ensures (sym c.holds_ports.ensures ∙ c.if-holds_ports.true)

pub returns-else-holds_ports : goal.returns-else-holds_ports
returns-else-holds_ports c =
    len_here c.args.variables.now c.args.memory.now c.args.place c.variable_words.result.now c.in-Some.variable.now c.in-Some.ensures (sym c.holds_ports.ensures ∙ c.if-holds_ports.false) c.variable_words.ensures
