-- Waiting processes by the places of their waits, as they are followed.
-- Source: this profile.
use Rattle.std.specs.Prelude.{◌≡◌, ◌<◌, ◌==◌, ℕ, suc, Bool, false, cond, Option, None, Some, option_and_then, List, [], ◌∷◌, length, map, slice_get, slice_index, slice_index_or}
use Rattle.std.specs.FinMap.{FinMap, empty, get, insert}
use Rattle.fm_base.specs.PathOrder.{path_cmp}
use Rattle.fm_wait.specs.Waits.{Pairs, waits_for}
use Rattle.fm_mean.specs.declared.outcome.Outcome.{Outcome}
use Rattle.fm_mean.specs.declared.outcome.Wait.{Wait}

-- the waiting paths, each with the place of its first wait, where the first place is this number
abbrev pub places_from : List Wait → ℕ → FinMap path_cmp ℕ
places_from [] k = empty
places_from (w ∷ ws) k = insert (places_from ws (suc k)) w.path k

-- the place of whom one waits for, if that one waits
abbrev pub place_of : FinMap path_cmp ℕ → Option Pairs → Option ℕ
place_of places p = option_and_then (get places) p

-- for each wait the place of whom it is for
abbrev pub next_places : Outcome → List (Option ℕ)
next_places o = map (λ w. place_of (places_from o.waits 0) (waits_for o w)) o.waits

-- the path that waits at a place
abbrev pub path_at : Outcome → ℕ → Pairs
path_at o i = slice_index_or (map (λ w. w.path) o.waits) i []

-- a place that is the first one of its path
pub record IsFirst (o : Outcome) (i : ℕ) : Type 0 where
  pub below : i < length o.waits
  pub placed : get (places_from o.waits 0) (path_at o i) ≡ Some i

abbrev pub unless_is : ℕ → Option ℕ → Option ℕ
unless_is start None = None
unless_is start (Some j) = cond (j == start) None (Some j)

-- the next place, unless it is the start
abbrev pub place_behind : List (Option ℕ) → (start : ℕ) → ℕ → Option ℕ
place_behind next start i = unless_is start (slice_index_or next i None)

abbrev pub is_name : ℕ → Option ℕ → Bool
is_name c None = false
is_name c (Some d) = d == c

-- whether one leads to a place of the same component
abbrev pub leads_back : List ℕ → ℕ → Option ℕ → Bool
leads_back names i None = false
leads_back names i (Some j) = is_name (slice_index names i) (slice_get names j)

-- a place is on a ring where the next one is in its component
abbrev pub is_on_ring : List (Option ℕ) → List ℕ → ℕ → Bool
is_on_ring next names i = leads_back names i (slice_index_or next i None)
