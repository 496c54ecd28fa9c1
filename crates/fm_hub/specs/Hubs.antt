-- What a clause says of a hub and of the places of its seats.
-- Source: this profile.
use Rattle.std.specs.Prelude.{◌≡◌, ◌⊎◌, ℕ, ◌+◌, ◌*◌, ◌%◌, List, [], ◌∷◌, ◌++◌, Option, length}
use mathlib.Core.List.{IsPrefix}
use Rattle.atomic_table.specs.declared.shared.Seat.{Seat}
use Rattle.fm_base.specs.declared.schedule.Turn.{Turn}
use Rattle.fm_hub.specs.declared.view.SeatView.{SeatView}
use Rattle.fm_hub.specs.declared.handles.Hub.{Hub}
use Rattle.fm_hub.specs.declared.handles.HubSeat.{HubSeat}
use Rattle.fm_hub.specs.Histories.{start_in}
use Rattle.fm_hub.specs.Rules.{tried, added_since}

module _ {T : Type 0} where
  -- the place is one at this hub
  abbrev pub IsAt : Hub T → Seat (Option T) SeatView → Type 0
  IsAt hub place = place.table_id ≡ hub.shelf.shared.table_id

  -- what the seat at this place has seen and made
  abbrev pub view_at : Seat (Option T) SeatView → SeatView
  view_at place = place.me.0

  -- what the seat at this place has made of this history since it won the turn, each entry with its place
  abbrev pub made_at : Seat (Option T) SeatView → List Turn → List (ℕ × Turn)
  made_at place log = added_since (start_in (view_at place).held) log

  -- the seat is one of this hub
  abbrev pub IsSeatOf : Hub T → HubSeat T → Type 0
  IsSeatOf hub seat = IsAt hub seat.place

  -- what the seat has seen and made
  abbrev pub view_of : HubSeat T → SeatView
  view_of seat = view_at seat.place

-- the turn was won at this history, which begins with what was seen: one try more, and nothing else has changed
abbrev pub IsHeld : SeatView → SeatView → List Turn → Type 0
IsHeld old new log =
    (log ≡ start_in new.held) × IsPrefix old.seen log × (new.seen ≡ old.seen) × (new.mine ≡ old.mine)
    × (new.tries ≡ old.tries + 1) × (new.last ≡ 2 * length log)

-- the word was odd: one try more, and nothing else has changed
abbrev pub IsRefused : SeatView → SeatView → ℕ → Type 0
IsRefused old new word = (word % 2 ≡ 1) × (new ≡ tried old word)

-- all of the history is seen, and what came to it since the turn was won is the seat's own, each entry at its place
abbrev pub IsReleased : SeatView → SeatView → List Turn → Type 0
IsReleased old new log = (new.seen ≡ log) × (new.mine ≡ old.mine ++ added_since (start_in old.held) log)

-- both have been seen, and what the first seat played and tried stays
abbrev pub IsJoined : SeatView → SeatView → SeatView → Type 0
IsJoined old other new =
    IsPrefix old.seen new.seen × IsPrefix other.seen new.seen × (new.mine ≡ old.mine) × (new.tries ≡ old.tries)

-- at most one pair has come to what a seat has made: an entry, at the place that ended this history
abbrev pub HasMade : List Turn → List (ℕ × Turn) → List (ℕ × Turn) → Type 0
HasMade log old new = (new ≡ old) ⊎ ((t : Turn) × (new ≡ old ++ (length log, t) ∷ []))

-- the word of a history that some seat has, and that begins with what was seen
abbrev pub IsBusy : List Turn → ℕ → Type 0
IsBusy seen word = (log : List Turn) × IsPrefix seen log × (word ≡ 2 * length log + 1)
