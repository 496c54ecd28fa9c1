use Rattle.std.proofs.Common.{arith, refl}
use Rattle.std.specs.List.{flat_map}
use Rattle.fm_tree_reference.specs.declared.walk.Found.TheVariants.{Here, Behind}
use Rattle.fm_tree_reference.proofs.Finding.{one_here, one_more, none_left}
use Rattle.fm_tree_reference.proofs.walk.find_all.Goals as goal

pub returns-in-Here : goal.returns-in-Here
returns-in-Here g c =
    c.items.invariant (Here c.in-Here.name) (one_here g.T.Applies.applied (flat_map g.T.Applies.applied) c.args.items.now c.items.item-index c.item-item.result c.items.left
    c.in-Here.name.now (λ y ys. refl) (omega arith) c.item-item.is c.in-Here.ensures)

pub items-preserved : goal.items-preserved
items-preserved g c =
    one_more g.T.Applies.applied (flat_map g.T.Applies.applied) c.args.items.now c.items.item-index c.item-item.result c.args.place c.items.left c.in-Behind.behind
    (λ y ys. refl) (omega arith) c.item-item.is c.in-Behind.ensures c.items.invariant

pub returns : goal.returns
returns g c = c.items.invariant (Behind c.items.left) (none_left (flat_map g.T.Applies.applied) c.args.items.now c.items.item-index c.items.left refl (omega arith))
