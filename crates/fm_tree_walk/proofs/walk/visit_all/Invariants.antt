use Rattle.std.proofs.Common.{◌≡◌, drop}
use Rattle.std.specs.List.{flat_map}
use Rattle.fm_rules.specs.Applied.{visited}
use Rattle.fm_tree_walk.proofs.walk.visit_all.Given as goal

abbrev pub invariant-items : goal.invariant-items
invariant-items g l = visited g.V.Visitor.after l.visitor (flat_map g.T.Applies.applied (drop l.item-index l.items)) ≡ visited g.V.Visitor.after l.fn.visitor (flat_map g.T.Applies.applied l.items)
