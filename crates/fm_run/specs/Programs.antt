-- A program as what is run, and what runs are at a program.
-- Source: this profile.
use Rattle.std.specs.Prelude.{ℕ, Bool, is_some, Option, List}
use Rattle.fm_base.specs.declared.schedule.Turn.{Turn}
use Rattle.fm_chan.specs.declared.channels.Channels.{Channels}
use Rattle.fm_net.specs.Machine.{Place, State}
use Rattle.fm_net_procs.specs.declared.piece.Piece.{Piece}
use Rattle.fm_rules.specs.declared.program.Program.{Program}
use Rattle.fm_mean.specs.Actions.{local_step}
use Rattle.fm_mean.specs.Outcome as meaning
use Rattle.fm_mean.specs.Process.{Proc}
use Rattle.fm_mean.specs.Steps as steps
use Rattle.fm_run.specs.Awaited.{awaits}
use Rattle.fm_run.specs.declared.run.Ending.{Ending}
use Rattle.fm_run.specs.declared.run.Run.{Run}
use Rattle.fm_run.specs.Noted as noted
use Rattle.fm_run.specs.Orders as orders
use Rattle.fm_run.specs.Pieces as pieces
pub use Rattle.fm_run.specs.Pieces.{most_steps}
use Rattle.fm_run.specs.Plays.{Play}
use Rattle.fm_run.specs.Runs as runs

-- the language of a program, from the PROGRAM at its first entry on
abbrev pub play_of : Program → Play
play_of p = record {
  Proc = Proc;
  speaks = steps.language p;
  main = steps.first_proc p;
  awaits = awaits;
  is_local = λ x. is_some (local_step p x);
  shows = meaning.outcome_of p;
}

-- ---- pieces

abbrev pub has_local : Program → Proc → Bool
has_local p x = is_some (local_step p x)

abbrev pub Makes : Program → State Proc → Place → (steps : ℕ) → State Proc → (cost : ℕ) → (starts : List Place) → Type 0
Makes p = pieces.Makes (play_of p)

abbrev pub is_local_in : Program → Option Proc → Bool
is_local_in p = pieces.is_local_in (play_of p)

abbrev pub is_local_at : Program → State Proc → Place → Bool
is_local_at p = pieces.is_local_at (play_of p)

abbrev pub after_steps : Program → State Proc → Place → (steps : ℕ) → State Proc
after_steps p = pieces.after_steps (play_of p)

abbrev pub IsFull : Program → (slice : ℕ) → (spare : Bool) → State Proc → Place → (steps : ℕ) → Type 0
IsFull p = pieces.IsFull (play_of p)

abbrev pub IsPiece : Program → (slice : ℕ) → (spare : Bool) → State Proc → Place → Piece → State Proc → Type 0
IsPiece p = pieces.IsPiece (play_of p)

-- ---- who can step, and who is noted

abbrev pub can_in : Program → State Proc → Option Place → Bool
can_in p = orders.can_in (play_of p)

abbrev pub can_at : Program → State Proc → List Place → ℕ → Bool
can_at p = orders.can_at (play_of p)

abbrev pub ready_after : Program → State Proc → (places : List Place) → (old : List ℕ) → (own : ℕ) → List ℕ
ready_after p = orders.ready_after (play_of p)

abbrev pub IsNoted : Program → Channels → (number : ℕ) → Proc → Type 0
IsNoted p = noted.IsNoted (play_of p)

-- ---- runs

abbrev pub Stand : Type 0
Stand = runs.Stand Proc

abbrev pub IsFrontWithin : Program → (turns : ℕ) → List Turn → List Place → Type 0
IsFrontWithin p = runs.IsFrontWithin (play_of p)

abbrev pub IsPlayedBy : Program → List Turn → List Place → State Proc → (paid : ℕ) → Type 0
IsPlayedBy p = runs.IsPlayedBy (play_of p)

abbrev pub AreAble : Program → State Proc → List Place → (able : List ℕ) → Type 0
AreAble p = runs.AreAble (play_of p)

abbrev pub IsPlayed : Program → Stand → Channels → (pieces : List Turn) → (parents : List ℕ) → (marks : List Bool) → (paid : ℕ) → Type 0
IsPlayed p = runs.IsPlayed (play_of p)

abbrev pub first_stand : Program → Stand
first_stand p = runs.first_stand (play_of p)

abbrev pub after_entry : Program → Stand → Turn → Stand
after_entry p = runs.after_entry (play_of p)

abbrev pub after_entries : Program → Stand → List Turn → Stand
after_entries p = runs.after_entries (play_of p)

abbrev pub IsNext : Program → (slice : ℕ) → (choice : Option ℕ) → Stand → Turn → Type 0
IsNext p = runs.IsNext (play_of p)

abbrev pub FollowsFrom : Program → (slice : ℕ) → (choices : List ℕ) → (n : ℕ) → Stand → List Turn → Type 0
FollowsFrom p = runs.FollowsFrom (play_of p)

-- the history is that of the choices, in pieces of at most a slice
abbrev pub Follows : Program → (slice : ℕ) → (choices : List ℕ) → List Turn → Type 0
Follows p = runs.Follows (play_of p)

abbrev pub IsEntry : Program → Turn → (s : State Proc) → (places : List Place) → (history : List Turn) → (later : State Proc) → (later_places : List Place) → (later_history : List Turn) → Type 0
IsEntry p = runs.IsEntry (play_of p)

abbrev pub EndsSo : Program → (turns : ℕ) → (choices : List Place) → Ending → Type 0
EndsSo p = runs.EndsSo (play_of p)

-- the history is one of the program, and its run ends so
abbrev pub IsRun : Program → (turns : ℕ) → Run → Type 0
IsRun p = runs.IsRun (play_of p)
