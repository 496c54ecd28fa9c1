use Rattle.std.proofs.Common.{◌≡◌, ◌↔◌, length}
use Rattle.fm_same.proofs.same_items.Given as goal

abbrev pub invariant-items : goal.invariant-items
invariant-items g l = (l.left ≡ l.right) ↔ (l.first ≡ l.second)

abbrev pub decreases-items : goal.decreases-items
decreases-items g l = length l.left
