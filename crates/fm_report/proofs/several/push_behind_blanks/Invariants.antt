use Rattle.std.proofs.Common.{◌≡◌, ◌++◌, ◌∷◌, take}
use Rattle.std.specs.List.{flat_map}
use Rattle.fm_report.proofs.several.push_behind_blanks.Given as goal

abbrev pub invariant-items : goal.invariant-items
invariant-items g l = l.out.items ≡ l.fn.out.items ++ flat_map (λ x. 32 ∷ g.T.HasText.text x) (take l.item-index l.items)
