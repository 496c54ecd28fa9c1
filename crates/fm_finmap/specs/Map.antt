-- A list of entries as a finite map, and finite maps whose values are read through a function.
-- Source: this profile.
use Rattle.std.specs.Prelude.{List, map}
use Rattle.std.specs.FinMap.{FinMap, entries, from_entries, from_sorted}
use Rattle.std.specs.declared.cmp.Ordering.{Ordering}

-- the finite map of the entries
unfoldable pub map_of : {K X : Type 0} (R : K → K → Ordering) → List (K × X) → FinMap R X
map_of R es = from_entries {R = R} es

-- the same keys, each with what the function gives of its value
unfoldable pub map_values : {K X Y : Type 0} {R : K → K → Ordering} → (X → Y) → FinMap R X → FinMap R Y
map_values {R = R} f m = from_sorted {R = R} (map (λ e. (e.0, f e.1)) (entries m))
