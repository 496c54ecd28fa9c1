-- The loops of a frame once more.
use Rattle.std.proofs.Common.{◌≡◌, ℕ, List}
use Rattle.std.specs.List.{AllZip}
use Rattle.std.proofs.lemmas.Map.Entries.{entries_from_clone}
use Rattle.fm_plain_frame.specs.declared.frame.Trips.{Trips}

-- a clone of a number or of trips is the same one
pub same_entries : (es fs : List (ℕ × Trips)) → AllZip (λ p q. (q.0 ≡ p.0) × (q.1 ≡ p.1)) es fs → fs ≡ es
same_entries es fs each = entries_from_clone (λ x y. y ≡ x) (λ v w. w ≡ v) (λ x y e. e) (λ v w e. e) es fs each
