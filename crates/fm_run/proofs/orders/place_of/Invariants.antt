use Rattle.std.proofs.Common.{◌≢◌, ◌<◌, ℕ, Some}
use Rattle.std.specs.Prelude.{slice_get}
use Rattle.fm_run.proofs.orders.place_of.Given as goal

-- it isn't at a place before
abbrev pub invariant-places : goal.invariant-places
invariant-places l = (k : ℕ) → k < l.place → slice_get l.numbers.items k ≢ Some l.number
