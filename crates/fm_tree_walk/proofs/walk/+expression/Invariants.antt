use Rattle.std.proofs.Common.{◌≡◌, drop}
use Rattle.fm_tree.specs.Tree.{node_count, node_counts, trees_from}
use Rattle.fm_tree.specs.References.{applied_each}
use Rattle.fm_rules.specs.Applied.{visited}
use Rattle.fm_tree_walk.proofs.walk.+expression.Given as goal

abbrev pub decreases-visit_expr : goal.decreases-visit_expr
decreases-visit_expr g l = node_count l.expr.now

abbrev pub decreases-visit_exprs : goal.decreases-visit_exprs
decreases-visit_exprs g l = node_counts (trees_from l.exprs.now)

abbrev pub invariant-visit_exprs-exprs : goal.invariant-visit_exprs-exprs
invariant-visit_exprs-exprs g l = visited g.V.Visitor.after l.visitor (applied_each (trees_from (drop l.expr-index l.exprs))) ≡ visited g.V.Visitor.after l.fn.visitor (applied_each (trees_from l.exprs))
