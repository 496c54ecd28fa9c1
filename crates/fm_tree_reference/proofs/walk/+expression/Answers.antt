use Rattle.std.proofs.Common.{arith, ap, refl, List}
use Rattle.fm_tree.specs.Tree.{Tree, node_count, trees_from}
use Rattle.fm_tree.specs.References.{applied, applied_each}
use Rattle.fm_tree.proofs.Nodes.{in_list}
use Rattle.fm_tree_reference.specs.declared.walk.Found.TheVariants.{Here, Behind}
use Rattle.fm_tree_reference.proofs.Finding.{one_here, one_more, none_left}
use Rattle.fm_tree_reference.proofs.walk.+expression.Goals as goal

pub find_exprs-find_expr-requires : goal.find_exprs-find_expr-requires
find_exprs-find_expr-requires t c =
    let below = in_list c.args.exprs.now c.exprs.expr-index c.expr-item.result c.exprs-test.true in
    let item = ap node_count c.expr-item.is in
    (omega (arith, below, item, c.decreases), tt)

pub find_exprs-returns-in-Here : goal.find_exprs-returns-in-Here
find_exprs-returns-in-Here t c =
    c.exprs.invariant (Here c.in-Here.name) (one_here applied (λ (es : List Tree). applied_each (trees_from es)) c.args.exprs.now c.exprs.expr-index c.expr-item.result c.exprs.left
    c.in-Here.name.now (λ y ys. refl) (omega arith) c.expr-item.is c.in-Here.ensures)

pub find_exprs-exprs-preserved : goal.find_exprs-exprs-preserved
find_exprs-exprs-preserved t c =
    one_more applied (λ (es : List Tree). applied_each (trees_from es)) c.args.exprs.now c.exprs.expr-index c.expr-item.result c.args.place c.exprs.left c.in-Behind.behind
    (λ y ys. refl) (omega arith) c.expr-item.is c.in-Behind.ensures c.exprs.invariant

pub find_exprs-returns : goal.find_exprs-returns
find_exprs-returns t c = c.exprs.invariant (Behind c.exprs.left) (none_left (λ (es : List Tree). applied_each (trees_from es)) c.args.exprs.now c.exprs.expr-index c.exprs.left refl (omega arith))
