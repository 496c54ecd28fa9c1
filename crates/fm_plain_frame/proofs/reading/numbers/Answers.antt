use Rattle.std.proofs.Common.{sym, ◌∙◌}
use Rattle.fm_plain_frame.proofs.ReadingLaws.{span_nowhere, span_ports, span_here}
use Rattle.fm_plain_frame.proofs.reading.numbers.Goals as goal

pub returns-in-None : goal.returns-in-None
returns-in-None c = span_nowhere c.args.variables.now c.args.memory.now c.args.span c.part.result.now c.in-None.ensures c.part.ensures

pub returns-then-holds_ports : goal.returns-then-holds_ports
returns-then-holds_ports c =
    span_ports c.args.variables.now c.args.memory.now c.args.span c.part-then-holds_ports.result.now c.in-Some.variable.now c.in-Some.ensures (sym c.holds_ports.ensures ∙ c.if-holds_ports.true) c.part-then-holds_ports.ensures

pub returns-else-holds_ports : goal.returns-else-holds_ports
returns-else-holds_ports c =
    span_here c.args.variables.now c.args.memory.now c.args.span c.part-else-holds_ports.result.now c.variable_words.result.now c.in-Some.variable.now c.in-Some.ensures (sym c.holds_ports.ensures ∙ c.if-holds_ports.false)
    c.variable_words.ensures c.part-else-holds_ports.ensures
