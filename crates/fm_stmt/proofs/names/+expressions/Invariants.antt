use Rattle.std.proofs.Common.{◌≡◌, drop}
use Rattle.fm_stmt.specs.Names.{has_long, trees_names}
use Rattle.fm_tree.specs.Tree.{node_count, node_counts, trees_from}
use Rattle.fm_stmt.proofs.names.+expressions.Given as goal

-- what is left decides
abbrev pub invariant-any_expr_long-exprs : goal.invariant-any_expr_long-exprs
invariant-any_expr_long-exprs l = has_long (trees_names (trees_from (drop l.expr-index l.exprs))) ≡ has_long (trees_names (trees_from l.exprs))

abbrev pub decreases-expr_long : goal.decreases-expr_long
decreases-expr_long l = node_count l.expr.now

abbrev pub decreases-any_expr_long : goal.decreases-any_expr_long
decreases-any_expr_long l = node_counts (trees_from l.exprs.now)
