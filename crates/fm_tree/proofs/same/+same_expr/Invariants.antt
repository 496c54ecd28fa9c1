use Rattle.fm_tree.specs.Tree.{node_count, node_counts, trees_from}
use Rattle.fm_tree.proofs.same.+same_expr.Given as goal

abbrev pub decreases-same_expr : goal.decreases-same_expr
decreases-same_expr l = node_count l.left.now

abbrev pub decreases-same_exprs : goal.decreases-same_exprs
decreases-same_exprs l = node_counts (trees_from l.left.now)
