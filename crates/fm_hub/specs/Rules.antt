-- The rule of the word and the table behind it, what each seat has seen and made, and what each step tells.
-- Source: this profile. A word that counts and whose lowest bit says who may write is a sequence lock, as in
-- H.-J. Boehm, Can Seqlocks Get Along with Programming Language Memory Models?, MSPC 2012.
use Rattle.std.specs.Prelude.{◌≡◌, ◌≢◌, ◌⊎◌, ℕ, ◌+◌, ◌*◌, ◌%◌, ◌<◌, ◌≤◌, All, List, [], ◌∷◌, ◌++◌, length, map, drop, leb, cond, Option, Some, None, slice_get}
use Rattle.std.specs.List.{enumerate_from}
use Rattle.std.specs.List.Sorted.{IsStrictlyIncreasing}
use mathlib.Core.Option.{some, none}
use mathlib.Core.List.{IsPrefix}
use lib.ListN.{get_elem?}
use Rattle.atomic_table.specs.Table.{State, Me, Step}
use Rattle.fm_base.specs.declared.schedule.Turn.{Turn}
use Rattle.fm_hub.specs.declared.view.SeatView.{SeatView}
use Rattle.fm_hub.specs.Histories.{start_in}

abbrev pub view : List Turn → List (ℕ × Turn) → ℕ → ℕ → Option (List Turn) → List Turn → SeatView
view seen mine tries last held told =
    record { seen = seen; mine = mine; tries = tries; last = last; held = held; told = told }

-- it has seen so much, and played nothing
abbrev pub newcomer : List Turn → SeatView
newcomer seen = view seen [] 0 0 None []

-- it tried for the turn, and found this word
abbrev pub tried : SeatView → ℕ → SeatView
tried v word = view v.seen v.mine (v.tries + 1) word v.held v.told

-- it has the turn, at this history
abbrev pub holding : SeatView → ℕ → List Turn → SeatView
holding v word log = view v.seen v.mine (v.tries + 1) word (Some log) v.told

-- what came to a history since, each entry with its place
abbrev pub added_since : List Turn → List Turn → List (ℕ × Turn)
added_since start log = enumerate_from (length start) (drop (length start) log)

-- it gave the turn back at this history: what came to it while it had the turn, it played
abbrev pub freed : SeatView → List Turn → SeatView
freed v log = view log (v.mine ++ added_since (start_in v.held) log) v.tries v.last None v.told

abbrev pub longer : List Turn → List Turn → List Turn
longer xs ys = cond (leb (length xs) (length ys)) ys xs

abbrev pub shorter : List Turn → List Turn → List Turn
shorter xs ys = cond (leb (length xs) (length ys)) xs ys

-- it has seen the longer of both beginnings, and is told the shorter
abbrev pub joined : SeatView → SeatView → SeatView
joined v w = view (longer v.seen w.seen) v.mine v.tries v.last v.held (shorter v.seen w.seen)

abbrev pub untold : SeatView → SeatView
untold v = view v.seen v.mine v.tries v.last v.held []

-- the history begins with what was seen and with what was told, and what the seat played stands in what it has seen,
-- each entry at its place, once
pub record Fits (log : List Turn) (v : SeatView) : Type 0 where
  pub seen : IsPrefix v.seen log
  pub told : IsPrefix v.told log
  pub mine : All (λ p. slice_get v.seen p.0 ≡ Some p.1) v.mine
  pub once : IsStrictlyIncreasing (map (λ (p : ℕ × Turn). p.0) v.mine)

-- the turn is free: the table is at home, and no seat has the turn
pub record IsFree {T : Type 0} (history_of : T → List Turn) (s : State (Option T) SeatView) : Type 0 where
  pub table : T
  pub words : s.words ≡ 2 * length (history_of table) ∷ []
  pub homes : s.homes ≡ some (Some table) ∷ []
  pub fits : (id : ℕ) (v : SeatView) → get_elem? s.views id ≡ some v → Fits (history_of table) v × (v.held ≡ None)

-- this seat is the one that has the turn, at this history, or it is another one
abbrev pub HoldsAt : List Turn → ℕ → ℕ → SeatView → Type 0
HoldsAt log seat id v = ((id ≡ seat) × (v.held ≡ Some log)) ⊎ ((id ≢ seat) × (v.held ≡ None))

-- one seat has the turn, and the table is out with it
pub record IsTaken {T : Type 0} (s : State (Option T) SeatView) : Type 0 where
  pub log : List Turn
  pub seat : ℕ
  pub seated : seat < length s.views
  pub words : s.words ≡ (2 * length log + 1) ∷ []
  pub homes : s.homes ≡ none ∷ []
  pub fits : (id : ℕ) (v : SeatView) → get_elem? s.views id ≡ some v → Fits log v × HoldsAt log seat id v

-- what a seat carries: its view, and the slots that are out with it
abbrev pub Seated : Type 0 → Type 0
Seated T = Me (Option T) SeatView

module _ {T : Type 0} (history_of : T → List Turn) where
  -- the rule
  abbrev pub SeatRule : State (Option T) SeatView → Type 0
  SeatRule s = IsFree history_of s ⊎ IsTaken s

  -- the turn was won, at the history of the table that comes with it
  abbrev pub Wins : Seated T → ℕ → Seated T → Type 0
  Wins m n w =
      (t : T) × (n ≡ 2 * length (history_of t)) × IsPrefix m.0.seen (history_of t)
      × (w ≡ (holding m.0 n (history_of t), (0, Some t) ∷ m.1))

  -- the word was odd, or the turn was won
  abbrev pub Tries : Step (Option T) → Seated T → ℕ → Seated T → Type 0
  Tries st m n w = ((n % 2 ≡ 1) × (w ≡ (tried m.0 n, m.1))) ⊎ Wins m n w

  -- the turn is given back with the table
  abbrev pub Frees : Step (Option T) → Seated T → ℕ → Seated T → Type 0
  Frees st m n w = (t : T) → m.1 ≡ (0, Some t) ∷ [] → w ≡ (freed m.0 (history_of t), [])

module _ {T : Type 0} where
  -- of two beginnings the shorter begins the longer
  abbrev pub Compares : Step (Option T) → Seated T → ℕ → Seated T → Type 0
  Compares st m n w =
      (w ≡ (untold m.0, m.1)) × (length m.0.told ≤ length m.0.seen → IsPrefix m.0.told m.0.seen)
