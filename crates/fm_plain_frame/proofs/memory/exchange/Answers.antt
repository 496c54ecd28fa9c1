use Rattle.std.proofs.Common.{sym, ap, ◌∙◌}
use Rattle.fm_plain_frame.proofs.MemoryLaws.{exchanged_nowhere, exchange_put, no_exchange}
use Rattle.fm_plain_frame.proofs.memory.exchange.Goals as goal

pub returns-in-None-clause-memory : goal.returns-in-None-clause-memory
returns-in-None-clause-memory c = sym (ap (λ r. r.0) (exchanged_nowhere c.args.variables.now c.args.memory.now c.args.variable c.args.element c.args.port (sym c.in-None.ensures)))

pub returns-in-None-clause-port : goal.returns-in-None-clause-port
returns-in-None-clause-port c = sym (ap (λ r. r.1) (exchanged_nowhere c.args.variables.now c.args.memory.now c.args.variable c.args.element c.args.port (sym c.in-None.ensures)))

pub returns-then-holds_ports-clause-memory : goal.returns-then-holds_ports-clause-memory
returns-then-holds_ports-clause-memory c =
    (exchange_put c.args.variables.now c.args.memory.now c.replace_word.new.memory c.args.variable c.args.element c.args.port c.replace_word.result c.in-Some.variable.now c.requires (sym c.in-Some.ensures)
    (sym c.holds_ports.ensures ∙ c.if-holds_ports.true) (rw c.of_port.ensures at c.replace_word.ensures.memory) (rw c.of_port.ensures at c.replace_word.ensures.word)).0

pub returns-then-holds_ports-clause-port : goal.returns-then-holds_ports-clause-port
returns-then-holds_ports-clause-port c =
    c.into_port.ensures
    ∙ (exchange_put c.args.variables.now c.args.memory.now c.replace_word.new.memory c.args.variable c.args.element c.args.port c.replace_word.result c.in-Some.variable.now c.requires (sym c.in-Some.ensures)
    (sym c.holds_ports.ensures ∙ c.if-holds_ports.true) (rw c.of_port.ensures at c.replace_word.ensures.memory) (rw c.of_port.ensures at c.replace_word.ensures.word)).1

pub returns-else-holds_ports-clause-memory : goal.returns-else-holds_ports-clause-memory
returns-else-holds_ports-clause-memory c =
    sym (ap (λ r. r.0) (no_exchange c.args.variables.now c.args.memory.now c.args.variable c.args.element c.args.port c.in-Some.variable.now (sym c.in-Some.ensures) (sym c.holds_ports.ensures ∙ c.if-holds_ports.false)))

pub returns-else-holds_ports-clause-port : goal.returns-else-holds_ports-clause-port
returns-else-holds_ports-clause-port c =
    sym (ap (λ r. r.1) (no_exchange c.args.variables.now c.args.memory.now c.args.variable c.args.element c.args.port c.in-Some.variable.now (sym c.in-Some.ensures) (sym c.holds_ports.ensures ∙ c.if-holds_ports.false)))
