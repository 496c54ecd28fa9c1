use Rattle.std.proofs.Common.{arith, ap}
use Rattle.fm_tree.specs.Tree.{node_count}
use Rattle.fm_tree.proofs.Nodes.{in_list}
use Rattle.fm_stmt.proofs.names.+expressions.Goals as goal

pub any_expr_long-expr_long-requires : goal.any_expr_long-expr_long-requires
any_expr_long-expr_long-requires t c =
    let below = in_list c.args.exprs.now c.exprs.expr-index c.expr-item.result c.exprs-test.true in
    let item = ap node_count c.expr-item.is in
    (omega (arith, below, item, c.decreases), tt)
