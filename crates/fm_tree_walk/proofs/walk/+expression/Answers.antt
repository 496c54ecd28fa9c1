use Rattle.std.proofs.Common.{arith, ap, refl, List}
use Rattle.fm_tree.specs.Tree.{Tree, node_count, trees_from}
use Rattle.fm_tree.specs.References.{applied, applied_each}
use Rattle.fm_tree.proofs.Nodes.{in_list}
use Rattle.fm_tree_walk.proofs.Applied.{applied_more}
use Rattle.fm_tree_walk.proofs.walk.+expression.Goals as goal

pub visit_exprs-visit_expr-requires : goal.visit_exprs-visit_expr-requires
visit_exprs-visit_expr-requires g t c =
    let below = in_list c.args.exprs.now c.exprs.expr-index c.expr-item.result c.exprs-test.true in
    let item = ap node_count c.expr-item.is in
    λ κs outlives. (omega (arith, below, item, c.decreases), outlives)

pub visit_exprs-exprs-preserved : goal.visit_exprs-exprs-preserved
visit_exprs-exprs-preserved g t c =
    applied_more g.V.Visitor.after applied (λ (es : List Tree). applied_each (trees_from es)) c.exprs.visitor c.visit_expr.new.visitor _ c.args.exprs.now c.exprs.expr-index c.expr-item.result
    (λ y ys. refl) (omega arith) c.expr-item.is c.in_ok-visit_expr.ensures c.exprs.invariant
