use Rattle.std.proofs.Common.{arith, ap}
use Rattle.fm_tree.specs.Tree.{node_count}
use Rattle.fm_tree.proofs.Nodes.{in_list}
use Rattle.fm_gen_operands.proofs.counting.+counting.Goals as goal

pub references-references_in-requires : goal.references-references_in-requires
references-references_in-requires t c =
    let below = in_list c.args.trees.now c.trees.tree-index c.tree-item.result c.trees-test.true in
    let item = ap node_count c.tree-item.is in
    (omega (arith, below, item, c.decreases), tt)
