use Rattle.std.proofs.Common.{arith, ap, refl}
use Rattle.fm_tree.specs.Tree.{node_count, trees_from}
use Rattle.fm_tree.proofs.Nodes.{in_list}
use Rattle.fm_rules.specs.Arrays.{is_array}
use Rattle.fm_rules.specs.Occurrences.{in_tree, in_trees}
use Rattle.fm_names_used.proofs.Meetings.{names_more}
use Rattle.fm_names_used.proofs.occurrences.+expressions.Goals as goal

pub meet_exprs-meet_expr-requires : goal.meet_exprs-meet_expr-requires
meet_exprs-meet_expr-requires t c =
    let below = in_list c.args.exprs.now c.exprs.expr-index c.expr-item.result c.exprs-test.true in
    let item = ap node_count c.expr-item.is in
    (omega (arith, below, item, c.decreases), tt)

pub meet_exprs-exprs-preserved : goal.meet_exprs-exprs-preserved
meet_exprs-exprs-preserved t c =
    let array = is_array c.args.arrays.now in
    names_more (in_tree array) (λ es. in_trees array (trees_from es)) (λ x xs. refl) c.args.line c.args.exprs.now c.exprs.expr-index c.expr-item.result c.exprs.seen c.meet_expr.new.seen _
    c.exprs-test.true c.expr-item.is c.in_ok-meet_expr.ensures c.exprs.invariant
