use Rattle.std.proofs.Common.{◌≡◌, ◌++◌, take}
use Rattle.std.specs.List.{flat_map}
use Rattle.fm_report.proofs.several.push_each.Given as goal

abbrev pub invariant-items : goal.invariant-items
invariant-items g l = l.out.items ≡ l.fn.out.items ++ flat_map g.T.HasText.text (take l.item-index l.items)
