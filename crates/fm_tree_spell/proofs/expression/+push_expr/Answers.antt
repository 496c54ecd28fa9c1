use Rattle.std.proofs.Common.{arith, ap}
use Rattle.fm_tree.specs.Tree.{node_count, node_counts, trees_from, Tree}
use Rattle.std.proofs.Common.{List}
use Rattle.fm_tree.proofs.Nodes.{in_list}
use Rattle.fm_tree_spell.proofs.expression.+push_expr.Goals as goal

pub push_list-push_expr-requires-in-loop-expr : goal.push_list-push_expr-requires-in-loop-expr
push_list-push_expr-requires-in-loop-expr t c =
    let below = in_list c.in-Some.rest.now c.loop-expr.expr-index c.expr-item.result c.loop-expr-test.true in
    let item = ap node_count c.expr-item.is in
    let whole = ap (λ (ts : List Tree). node_counts (trees_from ts)) c.in-Some.ensures.cases.0 in
    (omega (arith, below, item, whole, c.decreases), tt)
