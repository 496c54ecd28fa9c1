use Rattle.std.proofs.Common.{◌≡◌, ◌++◌, drop}
use Rattle.fm_tree.specs.Tree.{node_count, node_counts, trees_from}
use Rattle.fm_tree.specs.Spelling.{tail_spelling}
use Rattle.fm_tree_spell.proofs.expression.+push_expr.Given as goal

abbrev pub decreases-push_expr : goal.decreases-push_expr
decreases-push_expr l = node_count l.expr.now

abbrev pub decreases-push_list : goal.decreases-push_list
decreases-push_list l = node_counts (trees_from l.exprs.now)

-- what is written so far and the spelling of what is left are the whole
abbrev pub invariant-push_list-loop-expr : goal.invariant-push_list-loop-expr
invariant-push_list-loop-expr l =
    l.out.items ++ tail_spelling (trees_from (drop l.expr-index l.rest)) ≡ l.initial.out.items ++ tail_spelling (trees_from l.rest)
