use Rattle.std.proofs.Common.{refl}
use Rattle.fm_tree.specs.declared.port_type.Kind.TheVariants as kinds
use Rattle.fm_nodes_trees.proofs.HoldLaws.{ports_among, words_among}
use Rattle.fm_nodes_trees.proofs.holding.variable_has.Goals as goal

pub returns-in-Integer : goal.returns-in-Integer
returns-in-Integer c = words_among c.args.port.now c.args.memory.now c.args.variable.now kinds.Integer c.in-Integer.is refl

pub returns-in-Logical : goal.returns-in-Logical
returns-in-Logical c = words_among c.args.port.now c.args.memory.now c.args.variable.now kinds.Logical c.in-Logical.is refl

pub returns-in-In : goal.returns-in-In
returns-in-In c = ports_among c.args.port.now c.args.memory.now c.args.variable.now _ c.in-In.is refl c.part-words.result.now c.part-words.ensures _ c.words_have.ensures

pub returns-in-Out : goal.returns-in-Out
returns-in-Out c = ports_among c.args.port.now c.args.memory.now c.args.variable.now _ c.in-Out.is refl c.part-words.result.now c.part-words.ensures _ c.words_have-in-Out.ensures
