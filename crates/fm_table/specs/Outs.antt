-- Where a process stands among those that are out, and lists of which some go behind the others.
-- Source: this profile.
use Rattle.std.specs.Prelude.{◌≡◌, ◌<◌, ℕ, not, Option, Some, None, List, ◌++◌, filter, slice_get}
use Rattle.fm_run.specs.Orders.{Among, is_among}
use Rattle.fm_table.specs.Told.{Out, numbers_out}

-- the first place of a number, or none where it isn't there
abbrev pub IsPlaceOut : List Out → ℕ → Option ℕ → Type 0
IsPlaceOut out n None = Among n (numbers_out out) → ⊥
IsPlaceOut out n (Some k) = (slice_get (numbers_out out) k ≡ Some n) × ((i : ℕ) → i < k → slice_get (numbers_out out) i ≡ Some n → ⊥)

-- the others of a list, and behind them these
abbrev pub behind : List ℕ → List ℕ → List ℕ
behind ns queue = filter (λ n. not (is_among ns n)) queue ++ ns
