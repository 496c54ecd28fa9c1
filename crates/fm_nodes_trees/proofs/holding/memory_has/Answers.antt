use Rattle.std.proofs.Common.{List, refl, sym, ◌∙◌, arith}
use Rattle.fm_base.specs.Channels.{item_ports, message_ports}
use Rattle.fm_plain_frame.specs.Memory.{item_in, values_of}
use Rattle.fm_symbols.specs.declared.names.Variable.{Variable}
use Rattle.fm_nodes_trees.proofs.HoldLaws.{has_later, has_next, has_none}
use Rattle.fm_nodes_trees.proofs.holding.memory_has.Goals as goal

pub returns-then-variable_has : goal.returns-then-variable_has
returns-then-variable_has c = has_next (λ (x : Variable). item_ports (item_in c.args.memory.now x)) (λ (xs : List Variable). message_ports (values_of xs c.args.memory.now)) (λ (x : Variable) (xs : List Variable). refl) refl c.args.port.now c.args.variables.now c.variables.variable-index c.variable-item.result c.variables-test.true c.variable-item.is (sym c.variable_has.ensures ∙ c.if-variable_has.true) c.variables.invariant

pub variables-preserved : goal.variables-preserved
variables-preserved c = has_later (λ (x : Variable). item_ports (item_in c.args.memory.now x)) (λ (xs : List Variable). message_ports (values_of xs c.args.memory.now)) (λ (x : Variable) (xs : List Variable). refl) refl c.args.port.now c.args.variables.now c.variables.variable-index c.variable-item.result c.variables-test.true c.variable-item.is (sym c.variable_has.ensures ∙ c.if-variable_has.false) c.variables.invariant

pub returns : goal.returns
returns c = has_none (λ (x : Variable). item_ports (item_in c.args.memory.now x)) (λ (xs : List Variable). message_ports (values_of xs c.args.memory.now)) (λ (x : Variable) (xs : List Variable). refl) refl c.args.port.now c.args.variables.now c.variables.variable-index (omega (arith, c.variables-test.false)) c.variables.invariant
