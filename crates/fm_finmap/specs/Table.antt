-- Entries of a name and its value, in the order in which the names came.
-- Source: this profile.
use Rattle.std.specs.Prelude.{ℕ, is_some, if◌then◌else◌, Option, List, [], ◌∷◌, ◌++◌}
use Rattle.std.specs.FinMap.{find}
use Rattle.std.specs.Ordering.{nat_cmp}
use Rattle.std.specs.Cmp.Lexicographic.{slice_cmp}

module _ {V : Type 0} where
  -- the value of the first entry with this name
  abbrev pub look_up : List (List ℕ × V) → List ℕ → Option V
  look_up es name = find (slice_cmp nat_cmp) name es

  -- with a value for the name behind the others, unless the name is there
  abbrev pub added : List (List ℕ × V) → List ℕ → V → List (List ℕ × V)
  added es name v = if is_some (look_up es name) then es else es ++ (name, v) ∷ []
