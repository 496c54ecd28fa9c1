-- What becomes of the rows once a value that they lent has been changed.
-- Source: this profile.
use Rattle.std.specs.Prelude.{◌≡◌, ℕ, Option, Some, List}
use Rattle.std.specs.Borrow.{Fml, RattleType, MutBor, LendsSo}
use Rattle.std.specs.FinMap.{insert}
use Rattle.fm_finmap.specs.Rows.{Place, numbered_map, place_at, places}
use Rattle.fm_finmap.specs.contracts.path_table.PathTable.{the_row}

-- the same places, of which one has another value
pub record Changes {T : Type 0} (old new : List (Place × T)) (p : Place) (x : T) : Type 0 where
  pub map_is : numbered_map new ≡ insert (numbered_map old) p x
  pub places_are : places new ≡ places old

-- the place of the number has the last value that was written, and past the numbers nothing has changed
abbrev pub lends_value : (T : RattleType) → MutBor (List (Place × T.Denot)) → ℕ → Option (MutBor T.Denot) → Fml
lends_value T rows n r =
    LendsSo (the_row T) T rows r
    (λ now x. (p : Place) → place_at rows.now n ≡ Some p → Changes rows.now now p x) (λ now. now ≡ rows.now)
