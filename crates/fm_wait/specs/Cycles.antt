-- Cycles of processes that wait for each other.
-- Source: this profile.
use Rattle.std.specs.Prelude.{◌≡◌, ℕ, zero, suc, cond, Option, Some, None, option_map, option_and_then, List, [], ◌∷◌, ◌++◌, length, map, Contains}
use Rattle.std.specs.List.{IsDistinct, filter_map, list_all}
use Rattle.std.specs.Ordering.{eq_by_cmp, is_lt}
use Rattle.std.specs.FinMap.{keys}
use Rattle.std.specs.declared.cmp.Ordering.TheVariants.{Less}
use Rattle.fm_base.specs.PathOrder.{path_cmp}
use Rattle.fm_wait.specs.Waits.{Pairs, first_waits, next_path}
use Rattle.fm_mean.specs.declared.outcome.Outcome.{Outcome}

-- a list of distinct paths that begins with its least, in which each waits for the one behind it and the last for the first
pub record IsCycleFrom (o : Outcome) (p : Pairs) (ps : List Pairs) : Type 0 where
  pub distinct : IsDistinct (eq_by_cmp path_cmp) (p ∷ ps)
  pub follow : map (next_path o) (p ∷ ps) ≡ map Some (ps ++ p ∷ [])
  pub least : (q : Pairs) → Contains ps q → path_cmp p q ≡ Less

-- a cycle, from its least path
abbrev pub IsCycle : Outcome → List Pairs → Type 0
IsCycle o [] = ⊥
IsCycle o (p ∷ ps) = IsCycleFrom o p ps

-- the paths from one on to another, the other left out; none where so few don't lead there
abbrev pub way : (Pairs → Option Pairs) → ℕ → Pairs → Pairs → Option (List Pairs)
way next zero p to = None
way next (suc n) p to = cond (eq_by_cmp path_cmp p to) (Some []) (option_and_then (λ q. option_map (λ ps. p ∷ ps) (way next n q to)) (next p))

-- where following leads from a path back to it, the other paths on this ring, in order. A ring is no longer than the list of waits.
abbrev pub others_on_ring : Outcome → Pairs → Option (List Pairs)
others_on_ring o p = option_and_then (λ q. way (next_path o) (length o.waits) q p) (next_path o p)

-- the ring, if its least path is this one
abbrev pub from_least : Pairs → List Pairs → Option (List Pairs)
from_least p ps = cond (list_all (λ q. is_lt (path_cmp p q)) ps) (Some (p ∷ ps)) None

-- the cycle that is listed from a path
abbrev pub cycle_from : Outcome → Pairs → Option (List Pairs)
cycle_from o p = option_and_then (from_least p) (others_on_ring o p)

-- all cycles: those that are listed from the waiting paths, in path order
abbrev pub cycles_of : Outcome → List (List Pairs)
cycles_of o = filter_map (cycle_from o) (keys (first_waits o.waits))

-- by their first paths
abbrev pub BeginsBefore : List Pairs → List Pairs → Type 0
BeginsBefore [] qs = ⊥
BeginsBefore (p ∷ ps) [] = ⊥
BeginsBefore (p ∷ ps) (q ∷ qs) = path_cmp p q ≡ Less

-- each list begins before those behind it
abbrev pub AreInOrder : List (List Pairs) → Type 0
AreInOrder [] = Unit {0}
AreInOrder (ps ∷ pss) = ((qs : List Pairs) → Contains pss qs → BeginsBefore ps qs) × AreInOrder pss
