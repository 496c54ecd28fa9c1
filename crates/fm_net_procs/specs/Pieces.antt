-- Pieces of a run: several steps of one process.
-- Source: this profile.
use Rattle.std.specs.Prelude.{◌≡◌, ◌⊎◌, ℕ, ◌+◌, ◌<◌, ◌≤◌, Bool, true, false, Option, Some, None, List, replicate}
use Rattle.std.specs.FinMap.{get}
use Rattle.fm_base.specs.Channels.{Chans}
use Rattle.fm_sched.specs.Schedule.{play, IsLegal, Leads}
use Rattle.fm_net.specs.Language.{Language, language_step}
use Rattle.fm_net.specs.Machine.{Place, State, New, child}
use Rattle.fm_net.specs.Starts.{child_places, starts_along, starts_at}
use Rattle.fm_net_procs.specs.declared.piece.Piece.{Piece}
use Rattle.fm_net_procs.specs.Waiting.{need_of}

-- the most steps of a piece: the slice's, and where it has one to spare, one more
abbrev pub most_steps : (slice : ℕ) → (spare : Bool) → ℕ
most_steps slice true = slice + 1
most_steps slice false = slice

module _ {X : Type 0} (is_local : X → Bool) where
  abbrev pub is_local_in : Option X → Bool
  is_local_in None = false
  is_local_in (Some y) = is_local y

  -- whether a process, if it's there, has a step that concerns itself alone
  abbrev pub is_local_at : State X → Place → Bool
  is_local_at s p = is_local_in (get s.procs p)

module _ {X : Type 0} (language : Language X) where
  -- the state after so many steps of one process
  abbrev pub after_steps : State X → Place → (steps : ℕ) → State X
  after_steps s p n = play (language_step language) s (replicate n p)

  -- the channel that a process makes, if it makes one, isn't there yet
  abbrev pub MakesNew : Place → X → Chans → Type 0
  MakesNew p y cs = (number writers : ℕ) → need_of language y ≡ Some (New number writers) → get cs (record { maker = p; number = number }) ≡ None

  -- nor are the children of its next block
  pub record IsNewAt (s : State X) (p : Place) : Type 0 where
    pub channel : (y : X) → get s.procs p ≡ Some y → MakesNew p y s.chans
    pub children : (y : X) → get s.procs p ≡ Some y → (i : ℕ) → get s.procs (child p (language.next_block y) i) ≡ None

  -- wherever its steps lead
  abbrev pub IsNewAlong : State X → Place → Type 0
  IsNewAlong s p = (k : ℕ) → IsLegal (language_step language) s (replicate k p) → IsNewAt (after_steps s p k) p

  -- so many steps of one process: where they lead at what cost, and whom they start
  pub record Makes (s : State X) (p : Place) (steps : ℕ) (t : State X) (cost : ℕ) (starts : List Place) : Type 0 where
    pub leads : Leads (language_step language) s (replicate steps p) t cost
    pub starts_are : starts_along language s (replicate steps p) ≡ starts

  -- one step more behind so many, and whom it starts
  pub record Steps (s : State X) (p : Place) (steps cost : ℕ) (r : Piece) (t : State X) : Type 0 where
    pub paid : ℕ
    pub leads : language_step language s p ≡ Some (t, paid)
    pub starts : starts_at language s p ≡ child_places p r.block 1 r.started
    pub steps_are : r.steps ≡ steps + 1
    pub cost_is : r.cost ≡ cost + paid

  -- or none, where the process can't step
  pub record Waits (s : State X) (p : Place) (steps cost : ℕ) (r : Piece) (t : State X) : Type 0 where
    pub waits : language_step language s p ≡ None
    pub stays : t ≡ s
    pub piece : r ≡ record { steps = steps; cost = cost; block = 0; started = 0 }

  abbrev pub StepsOrWaits : State X → Place → (steps cost : ℕ) → Piece → State X → Type 0
  StepsOrWaits s p steps cost r t = Steps s p steps cost r t ⊎ Waits s p steps cost r t

  module _ (is_local : X → Bool) where
    -- so many steps are all that a slice lets the process do: the whole slice, where with a step to spare the next one is its own; or up to
    -- a step that concerns others, be it the spare one; or within the slice to where it can't step
    pub record IsFull (slice : ℕ) (spare : Bool) (s : State X) (p : Place) (steps : ℕ) : Type 0 where
      pub can : IsLegal (language_step language) s (replicate steps p)
      pub within : steps ≤ most_steps slice spare
      pub before : (k : ℕ) → k + 1 < steps → is_local_at is_local (after_steps s p k) p ≡ true
      pub stops : ((steps ≡ slice) × (spare ≡ true → is_local_at is_local (after_steps s p steps) p ≡ true))
          ⊎ (((k : ℕ) × (steps ≡ k + 1) × (is_local_at is_local (after_steps s p k) p ≡ false))
          ⊎ ((steps ≤ slice) × (language_step language (after_steps s p steps) p ≡ None)))

    -- a full piece of one step or more
    pub record IsPiece (slice : ℕ) (spare : Bool) (s : State X) (p : Place) (r : Piece) (t : State X) : Type 0 where
      pub makes : Makes s p r.steps t r.cost (child_places p r.block 1 r.started)
      pub some_steps : 1 ≤ r.steps
      pub full : IsFull slice spare s p r.steps
