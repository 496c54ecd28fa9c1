-- What processes do, among the others of a state.
-- Source: this profile.
use Rattle.std.specs.Prelude.{◌≡◌, ℕ, ◌+◌, ◌<◌, ◌≤◌, Bool, true, false, is_some, Option, Some, None, List, [], length}
use Rattle.std.specs.List.{AllByRecursion}
use Rattle.std.specs.FinMap.{get, insert}
use Rattle.fm_base.specs.Channels.{Chans}
use Rattle.fm_finmap.specs.Changes.{alters}
use Rattle.fm_net.specs.Language.{Language, language_step}
use Rattle.fm_net.specs.Machine.{Place, State, start_changes}
use Rattle.fm_net.specs.Starts.{child_places, starts_at}
use Rattle.fm_net_procs.specs.declared.piece.Advanced.{Advanced}
use Rattle.fm_net_procs.specs.declared.piece.Stop.{Stop}
use Rattle.fm_net_procs.specs.declared.piece.Stop.TheVariants.{Pauses, Meets}
use Rattle.fm_net_procs.specs.Pieces.{IsFull, IsNewAt, Makes, after_steps, is_local_at, most_steps}

-- the state where the process at a place is this one, and so are the channels
abbrev pub changed_at : {X : Type 0} → State X → Place → X → Chans → State X
changed_at s p z cs = record { procs = insert s.procs p z; chans = cs }

module _ {X : Type 0} (language : Language X) where
  -- the same, with children in the next block of who stood there
  abbrev pub started_at : State X → Place → (before after : X) → (starts : List X) → Chans → State X
  started_at s p y z xs cs = record { procs = alters (start_changes p (language.next_block y) 1 xs) (insert s.procs p z); chans = cs }

  -- a process can step, among these channels: it stands at this place of a state to which the memory fits
  pub record CanStep (Fits : State X → Type 0) (p : Place) (y : X) (cs : Chans) : Type 0 where
    pub state : State X
    pub here : get state.procs p ≡ Some y
    pub chans_are : state.chans ≡ cs
    pub fits : Fits state
    pub can : is_some (language_step language state p) ≡ true
    pub new : IsNewAt language state p

  -- its step, in a state where it stands: itself, the children that start, the channels and the cost. Who waits for children then waits for
  -- these, which wait for nobody
  pub record StepsTo (awaits : X → Option (ℕ × ℕ)) (Fits : State X → Type 0) (s : State X) (p : Place) (y z : X) (xs : List X) (cs : Chans) (cost : ℕ) : Type 0 where
    pub step : language_step language s p ≡ Some (started_at s p y z xs cs, cost)
    pub starts : starts_at language s p ≡ child_places p (language.next_block y) 1 (length xs)
    pub waits : (b n : ℕ) → awaits z ≡ Some (b, n) → (b ≡ language.next_block y) × (n ≡ length xs)
    pub run : AllByRecursion (λ (v : X). awaits v ≡ None) xs
    pub fits : Fits (started_at s p y z xs cs)

  -- where steps that concern itself alone may stop: at an event, which concerns others, with room for it; else they are full
  abbrev pub StopsSo : {E L : Type 0} → (is_local : X → Bool) → (IsNext : X → L → Type 0) → (MeetsIt : X → E → Type 0) → (slice : ℕ) → (spare : Bool) → State X → Place → X → (steps : ℕ) → Stop E L → Type 0
  StopsSo is_local IsNext MeetsIt slice spare s p z steps (Pauses l) = IsNext z l × (1 ≤ steps) × IsFull language is_local slice spare s p steps
  StopsSo is_local IsNext MeetsIt slice spare s p z steps (Meets e) =
      MeetsIt z e × (is_local z ≡ false) × ((k : ℕ) → k < steps → is_local_at is_local (after_steps language s p k) p ≡ true) × (steps ≤ slice) × (steps + 1 ≤ most_steps slice spare)

  -- several steps, in a state where it stands, which start nobody
  pub record Advances {E L : Type 0} (is_local : X → Bool) (awaits : X → Option (ℕ × ℕ)) (IsNext : X → L → Type 0) (MeetsIt : X → E → Type 0) (Fits : State X → Type 0)
      (slice : ℕ) (spare : Bool) (s : State X) (p : Place) (y z : X) (a : Advanced E L) (cs : Chans) : Type 0 where
    pub makes : Makes language s p a.steps (changed_at s p z cs) a.cost []
    pub stops : StopsSo is_local IsNext MeetsIt slice spare s p z a.steps a.stop
    pub waits : awaits z ≡ awaits y
    pub fits : Fits (changed_at s p z cs)
