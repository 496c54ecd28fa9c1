use Rattle.std.proofs.Common.{drop}
use Rattle.fm_tree.specs.Tree.{node_count, node_counts, trees_from}
use Rattle.fm_tree.specs.References.{applied_each}
use Rattle.fm_tree_reference.specs.declared.walk.Found.{Found}
use Rattle.fm_tree_reference.specs.Found.{IsFound}
use Rattle.fm_tree_reference.proofs.walk.+expression.Given as goal

abbrev pub decreases-find_expr : goal.decreases-find_expr
decreases-find_expr l = node_count l.expr.now

abbrev pub decreases-find_exprs : goal.decreases-find_exprs
decreases-find_exprs l = node_counts (trees_from l.exprs.now)

abbrev pub invariant-find_exprs-exprs : goal.invariant-find_exprs-exprs
invariant-find_exprs-exprs l = (r : Found) → IsFound (applied_each (trees_from (drop l.expr-index l.exprs))) l.left r → IsFound (applied_each (trees_from l.exprs)) l.fn.place r
