-- Sums over the values of a finite map.
-- Source: this profile.
use Rattle.std.specs.Prelude.{ℕ, ◌+◌, Option, Some, None, List, [], ◌∷◌}
use Rattle.std.specs.FinMap.{FinMap, get, entries}
use Rattle.std.specs.declared.cmp.Ordering.{Ordering}
use Rattle.fm_finmap.specs.Changes.{Change}

-- the sum of f over the values of the entries
abbrev pub sum_values : {K X : Type 0} → (X → ℕ) → List (K × X) → ℕ
sum_values f [] = 0
sum_values f (e ∷ es) = f e.1 + sum_values f es

-- the sum of f over the values of the map
unfoldable pub total : {K X : Type 0} {R : K → K → Ordering} → (X → ℕ) → FinMap R X → ℕ
total f m = sum_values f (entries m)

-- what f gives of the value, and 0 where there is none
abbrev pub value_or_zero : {X : Type 0} → (X → ℕ) → Option X → ℕ
value_or_zero f None = 0
value_or_zero f (Some x) = f x

module _ {K X : Type 0} {R : K → K → Ordering} (f : X → ℕ) (m : FinMap R X) where
  -- the sum over what the map has at the keys of the changes
  abbrev pub sum_before : List (Change K X) → ℕ
  sum_before [] = 0
  sum_before (w ∷ ws) = value_or_zero f (get m w.0) + sum_before ws

  -- the sum over what the changes make of it
  abbrev pub sum_after : List (Change K X) → ℕ
  sum_after [] = 0
  sum_after (w ∷ ws) = value_or_zero f (w.1 (get m w.0)) + sum_after ws
