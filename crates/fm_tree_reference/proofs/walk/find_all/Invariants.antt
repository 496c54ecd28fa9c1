use Rattle.std.proofs.Common.{drop}
use Rattle.std.specs.List.{flat_map}
use Rattle.fm_tree_reference.specs.declared.walk.Found.{Found}
use Rattle.fm_tree_reference.specs.Found.{IsFound}
use Rattle.fm_tree_reference.proofs.walk.find_all.Given as goal

abbrev pub invariant-items : goal.invariant-items
invariant-items g l = (r : Found) → IsFound (flat_map g.T.Applies.applied (drop l.item-index l.items)) l.left r → IsFound (flat_map g.T.Applies.applied l.items) l.fn.place r
