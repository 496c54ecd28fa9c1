use Rattle.std.proofs.Common.{sym, ap, ◌∙◌}
use Rattle.std.specs.Option.{option_copied}
use Rattle.fm_plain_frame.proofs.ReadingLaws.{port_nowhere, port_of_words, port_past, port_here}
use Rattle.fm_plain_frame.proofs.reading.port_at.Goals as goal

pub returns-in_err-variable : goal.returns-in_err-variable
returns-in_err-variable c = ap option_copied c.from_residual.ensures ∙ port_nowhere c.args.variables.now c.args.memory.now c.args.span c.in_err-variable.ensures

pub returns-then-not-holds_ports : goal.returns-then-not-holds_ports
returns-then-not-holds_ports c =
    port_of_words c.args.variables.now c.args.memory.now c.args.span c.in_ok-variable.variable.now c.in_ok-variable.ensures (sym c.holds_ports.ensures ∙ c.if-not-holds_ports.true)

pub returns-in_err-item_at : goal.returns-in_err-item_at
returns-in_err-item_at c =
    ap option_copied c.from_residual-in_err-item_at.ensures
    ∙ port_past c.args.variables.now c.args.memory.now c.args.span c.in_ok-variable.variable.now c.variable_words.result.now c.in_ok-variable.ensures (sym c.holds_ports.ensures ∙ c.if-not-holds_ports.false)
    c.variable_words.ensures c.in_err-item_at.ensures

pub returns : goal.returns
returns c =
    port_here c.args.variables.now c.args.memory.now c.args.span c.in_ok-variable.variable.now c.variable_words.result.now c.in_ok-item_at.field-0.now (option_copied c.port.result) c.in_ok-variable.ensures
    (sym c.holds_ports.ensures ∙ c.if-not-holds_ports.false) c.variable_words.ensures c.in_ok-item_at.ensures c.port.ensures
