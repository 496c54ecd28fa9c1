use Rattle.std.proofs.Common.{arith, refl}
use Rattle.std.specs.List.{flat_map}
use Rattle.fm_tree_walk.proofs.Applied.{applied_more}
use Rattle.fm_tree_walk.proofs.walk.visit_all.Goals as goal

pub items-preserved : goal.items-preserved
items-preserved g c =
    applied_more g.V.Visitor.after g.T.Applies.applied (flat_map g.T.Applies.applied) c.items.visitor c.accept.new.visitor _ c.args.items.now c.items.item-index c.item-item.result
    (λ y ys. refl) (omega arith) c.item-item.is c.in_ok-accept.ensures c.items.invariant
