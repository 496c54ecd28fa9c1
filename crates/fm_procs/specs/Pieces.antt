-- Pieces of a run of stack code: several steps of one process.
-- Source: this profile.
use Rattle.std.specs.Prelude.{◌≡◌, ◌⊎◌, ℕ, Bool, true, false, ◌==◌, ◌&&◌, not, Option, Some, None, List, replicate}
use Rattle.std.specs.FinMap.{get}
use Rattle.fm_sched.specs.Schedule.{IsLegal}
use Rattle.fm_net.specs.Machine.{Place, State, child}
use Rattle.fm_net_procs.specs.declared.piece.Piece.{Piece}
use Rattle.fm_net_procs.specs.Pieces as pieces
use Rattle.fm_proc_language.specs.Processes.{CodeProc, code_language}
use Rattle.fm_proc_language.specs.Needs.{is_local}
use Rattle.fm_proc_events.specs.Performs.{MakesNew}
use Rattle.fm_procs.specs.Readings.{code_step}

-- the state after so many steps of one process
abbrev pub after_steps : State CodeProc → Place → (steps : ℕ) → State CodeProc
after_steps s p n = pieces.after_steps code_language s p n

-- the channel that the process at a place makes, if it makes one, isn't there yet, and neither are the children of its next block
pub record IsNewAt (s : State CodeProc) (p : Place) : Type 0 where
  pub channel : (y : CodeProc) → get s.procs p ≡ Some y → MakesNew p y s.chans
  pub children : (y : CodeProc) → get s.procs p ≡ Some y → (i : ℕ) → get s.procs (child p y.next_block i) ≡ None

-- wherever its steps lead
abbrev pub IsNewAlong : State CodeProc → Place → Type 0
IsNewAlong s p = (k : ℕ) → IsLegal code_step s (replicate k p) → IsNewAt (after_steps s p k) p

-- so many steps of one process: where they lead at what cost, and whom they start
abbrev pub Makes : State CodeProc → Place → (steps : ℕ) → State CodeProc → (cost : ℕ) → (starts : List Place) → Type 0
Makes s p steps t cost starts = pieces.Makes code_language s p steps t cost starts

abbrev pub is_local_in : Option CodeProc → Bool
is_local_in o = pieces.is_local_in is_local o

-- whether a process, if it's there, has a step that concerns itself alone
abbrev pub is_local_at : State CodeProc → Place → Bool
is_local_at s p = pieces.is_local_at is_local s p

-- the most steps of a piece: the slice's, and where it has one to spare, one more
abbrev pub most_steps : (slice : ℕ) → (spare : Bool) → ℕ
most_steps slice spare = pieces.most_steps slice spare

-- the slice is used up, with no step to spare
abbrev pub is_used_up : (steps slice : ℕ) → (spare : Bool) → Bool
is_used_up steps slice spare = (steps == slice) && not spare

-- so many steps are all that a slice lets the process do: the whole slice, where with a step to spare the next one is its own; or up to
-- a step that concerns others, be it the spare one; or within the slice to where it can't step
abbrev pub IsFull : (slice : ℕ) → (spare : Bool) → State CodeProc → Place → (steps : ℕ) → Type 0
IsFull slice spare s p steps = pieces.IsFull code_language is_local slice spare s p steps

-- a full piece of one step or more
abbrev pub IsPiece : (slice : ℕ) → (spare : Bool) → State CodeProc → Place → Piece → State CodeProc → Type 0
IsPiece slice spare s p r t = pieces.IsPiece code_language is_local slice spare s p r t

-- one step more behind so many, and whom it starts
abbrev pub Steps : State CodeProc → Place → (steps cost : ℕ) → Piece → State CodeProc → Type 0
Steps s p steps cost r t = pieces.Steps code_language s p steps cost r t

-- or none, where the process can't step
abbrev pub Waits : State CodeProc → Place → (steps cost : ℕ) → Piece → State CodeProc → Type 0
Waits s p steps cost r t = pieces.Waits code_language s p steps cost r t

abbrev pub StepsOrWaits : State CodeProc → Place → (steps cost : ℕ) → Piece → State CodeProc → Type 0
StepsOrWaits s p steps cost r t = pieces.StepsOrWaits code_language s p steps cost r t

-- or none, where the next one is the process's own
pub record Pauses (s : State CodeProc) (p : Place) (steps cost : ℕ) (r : Piece) (t : State CodeProc) : Type 0 where
  pub own : is_local_at s p ≡ true
  pub stays : t ≡ s
  pub piece : r ≡ record { steps = steps; cost = cost; block = 0; started = 0 }

-- what comes behind statements of a process's own: a step that concerns others, or none
abbrev pub Finishes : State CodeProc → Place → (steps cost : ℕ) → Piece → State CodeProc → Type 0
Finishes s p steps cost r t = ((is_local_at s p ≡ false) × Steps s p steps cost r t) ⊎ (Waits s p steps cost r t ⊎ Pauses s p steps cost r t)
