-- What was put into a lane, and who took it. An item's ticket is the number of items that were put before it.
-- Source: work stealing, as in R. D. Blumofe and C. E. Leiserson, Scheduling Multithreaded Computations by Work
-- Stealing, J. ACM 46 (1999); that items have tickets is this profile's.
use Rattle.std.specs.Prelude.{◌≡◌, ℕ, ◌+◌, List, [], ◌∷◌, ◌++◌, length, map, IsPermutation, slice_get, Some}
use Rattle.std.specs.List.{enumerate_from}
use Rattle.std.specs.List.Sorted.{IsStrictlyIncreasing}
use mathlib.Core.Option.{some}
use lib.ListN.{get_elem?}
use Rattle.fm_steal.specs.declared.hand.Hand.{Hand}

module _ {T : Type 0} where
  abbrev pub hand : ℕ → List T → List (ℕ × T) → Hand T
  hand parts put got = record { parts = parts; put = put; got = got }

  -- the pairs are the items of `put` with their tickets, each once: so their tickets are the numbers below the number of puts
  abbrev pub AreAll : List T → List (ℕ × T) → Type 0
  AreAll put pairs = IsPermutation (enumerate_from 0 put) pairs

  -- the tickets rise
  abbrev pub Rises : List (ℕ × T) → Type 0
  Rises got = IsStrictlyIncreasing (map (λ (p : ℕ × T). p.0) got)

  -- all that was put had been taken, by the one who took `got` or by others
  abbrev pub AreTaken : List T → List (ℕ × T) → Type 0
  AreTaken put got = (others : List (ℕ × T)) × AreAll put (got ++ others)

  -- the pair was the first of the lane: all that had been put before its item had been taken
  abbrev pub IsFirst : List (ℕ × T) → ℕ × T → Type 0
  IsFirst got pair = (earlier : List T) × (length earlier ≡ pair.0) × AreTaken earlier got

  -- what all passes have taken
  abbrev pub taken_of : List (Hand T) → List (ℕ × T)
  taken_of [] = []
  taken_of (v ∷ vs) = v.got ++ taken_of vs

  abbrev pub parts_of : List (Hand T) → ℕ
  parts_of [] = 0
  parts_of (v ∷ vs) = v.parts + parts_of vs

  -- the owner knows what was put, and a pass with no part has taken nothing
  abbrev pub Fits : List T → ℕ → Hand T → Type 0
  Fits put port v = (port ≡ 0 → v.put ≡ put) × (v.parts ≡ 0 → v.got ≡ [])

  -- the lane holds the later items with their tickets, and the passes have taken the earlier ones, each once
  abbrev pub IsDealt : List (ℕ × T) → List (Hand T) → Type 0
  IsDealt items views =
      (earlier : List T) × (later : List T)
      × (items ≡ enumerate_from (length earlier) later)
      × AreAll earlier (taken_of views)
      × (parts_of views ≡ 64)
      × ((port : ℕ) (v : Hand T) → get_elem? views port ≡ some v → Fits (earlier ++ later) port v)

  -- the items join what was put
  abbrev pub HavePut : Hand T → List (ℕ × T) → Hand T → Type 0
  HavePut v pairs w = w ≡ hand v.parts (v.put ++ map (λ (p : ℕ × T). p.1) pairs) v.got

  -- the pair joins what was taken, and was the first of the lane
  abbrev pub HasTaken : Hand T → List (ℕ × T) → Hand T → Type 0
  HasTaken v pairs w = (w ≡ hand v.parts v.put (v.got ++ pairs)) × ((p : ℕ × T) → pairs ≡ p ∷ [] → IsFirst v.got p)

  -- the item stands in `put` at its ticket
  abbrev pub HasTicket : List T → ℕ × T → Type 0
  HasTicket put pair = slice_get put pair.0 ≡ Some pair.1

  -- the same by the owner, who knows what was put
  abbrev pub HasPopped : Hand T → List (ℕ × T) → Hand T → Type 0
  HasPopped v pairs w = HasTaken v pairs w × ((p : ℕ × T) → pairs ≡ p ∷ [] → HasTicket v.put p)

  -- the lane was empty at a moment when the pass knew no more than this
  abbrev pub WasEmpty : Hand T → Type 0
  WasEmpty v = (port : ℕ) × (views : List (Hand T)) × IsDealt [] views × (get_elem? views port ≡ some v)

  -- the lane was empty: all that was put had been taken, and where the owner has all parts, by it
  abbrev pub IsUsedUp : Hand T → Type 0
  IsUsedUp v = AreTaken v.put v.got × (v.parts ≡ 64 → AreAll v.put v.got)

  -- who has all parts knows that the lane holds what it has not taken
  abbrev pub HoldsRest : Hand T → List (ℕ × T) → Type 0
  HoldsRest v items = AreAll v.put (v.got ++ items)
