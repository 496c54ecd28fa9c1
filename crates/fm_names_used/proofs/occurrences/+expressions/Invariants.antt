use Rattle.std.proofs.Common.{◌≡◌, drop}
use Rattle.fm_tree.specs.Tree.{node_count, node_counts, trees_from}
use Rattle.fm_rules.specs.Arrays.{is_array}
use Rattle.fm_rules.specs.Occurrences.{in_trees}
use Rattle.fm_names_used.specs.Seen.{with_names}
use Rattle.fm_names_used.proofs.occurrences.+expressions.Given as goal

abbrev pub invariant-meet_exprs-exprs : goal.invariant-meet_exprs-exprs
invariant-meet_exprs-exprs l =
    with_names l.line l.seen (in_trees (is_array l.arrays) (trees_from (drop l.expr-index l.exprs)))
    ≡ with_names l.line l.fn.seen (in_trees (is_array l.arrays) (trees_from l.exprs))

abbrev pub decreases-meet_expr : goal.decreases-meet_expr
decreases-meet_expr l = node_count l.expr.now

abbrev pub decreases-meet_exprs : goal.decreases-meet_exprs
decreases-meet_exprs l = node_counts (trees_from l.exprs.now)
