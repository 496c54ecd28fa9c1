-- Rows of a place and the value there, with numbers from 0 in the order in which they came.
-- Source: this profile.
use Rattle.std.specs.Prelude.{◌≡◌, ℕ, Option, Some, None, List, map, length, slice_get}
use Rattle.std.specs.Arc.{arc_value}
use Rattle.std.specs.FinMap.{FinMap, get}
use Rattle.std.specs.List.{IsDistinct}
use Rattle.std.specs.Ordering.{eq_by_cmp}
use Rattle.std.specs.declared.alloc.Global.{Global}
use Rattle.std.specs.declared.sync.Arc.{Arc}
use Rattle.fm_base.specs.PathOrder.{path_cmp}
use Rattle.fm_base.specs.declared.path.Path.{Path}
use Rattle.fm_finmap.specs.Map.{map_of}

-- where a process stands: the pairs of block and index that lead to it from main
abbrev pub Place : Type 0
Place = List (ℕ × ℕ)

-- the places of paths
abbrev pub places_in : List (Arc Path Global) → List Place
places_in paths = map (λ (path : Arc Path Global). arc_value path) paths

-- no place is there twice
abbrev pub AreDistinct : List Place → Type 0
AreDistinct ps = IsDistinct (eq_by_cmp path_cmp) ps

module _ {T : Type 0} where
  -- a value for each place, and each place once
  pub record HasRows (ps : List Place) (values : List T) : Type 0 where
    pub each : length values ≡ length ps
    pub once : AreDistinct ps

  -- the places, in the order of the numbers
  abbrev pub places : List (Place × T) → List Place
  places rows = map (λ (row : Place × T). row.0) rows

  -- the values by their places
  abbrev pub numbered_map : List (Place × T) → FinMap path_cmp T
  numbered_map rows = map_of path_cmp rows

  -- the place of a number
  abbrev pub place_at : List (Place × T) → ℕ → Option Place
  place_at rows n = slice_get (places rows) n

  abbrev pub value_in : FinMap path_cmp T → Option Place → Option T
  value_in m None = None
  value_in m (Some p) = get m p

  -- the value at the place of a number
  abbrev pub value_at : List (Place × T) → ℕ → Option T
  value_at rows n = value_in (numbered_map rows) (place_at rows n)
