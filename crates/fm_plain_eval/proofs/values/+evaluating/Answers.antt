use Rattle.std.proofs.Common.{arith, ap}
use Rattle.fm_tree.specs.Tree.{node_count}
use Rattle.fm_tree.proofs.Nodes.{in_list}
use Rattle.fm_plain_eval.proofs.values.+evaluating.Goals as goal

pub numbers-value-requires : goal.numbers-value-requires
numbers-value-requires t c =
    let below = in_list c.args.trees.now c.trees.tree-index c.tree-item.result c.trees-test.true in
    let item = ap node_count c.tree-item.is in
    (omega (arith, below, item, c.decreases), tt)
