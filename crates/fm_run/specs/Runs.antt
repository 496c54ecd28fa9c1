-- What a run is.
-- Source: this profile.
use Rattle.std.specs.Prelude.{◌≡◌, ℕ, suc, ◌<◌, ◌≤◌, Bool, true, Option, Some, List, [], ◌∷◌, ◌++◌, length, replicate, slice_get, slice_index_or}
use Rattle.fm_base.specs.declared.schedule.Turn.{Turn}
use Rattle.fm_chan.specs.declared.channels.Channels.{Channels}
use Rattle.fm_chan.specs.Bodies.{chans_of}
use Rattle.fm_chan.specs.Woken.{WakesAll}
use Rattle.fm_sched.specs.Schedule.{play, used, IsLegal, IsFinal}
use Rattle.fm_net.specs.Machine.{Place, State}
use Rattle.fm_net.specs.Starts.{starts_along, starts_of, choices_of}
use Rattle.fm_run.specs.declared.run.Ending.{Ending}
use Rattle.fm_run.specs.declared.run.Ending.TheVariants.{Ended, Spent}
use Rattle.fm_run.specs.declared.run.Run.{Run}
use Rattle.fm_run.specs.Entries.{turn_of}
use Rattle.fm_run.specs.Noted.{AreNoted, AreParents}
use Rattle.fm_run.specs.Orders.{Among, AreMarked, EachOnce, places_of, can_at, chosen, ready_first, ready_after}
use Rattle.fm_run.specs.Pieces.{IsFull}
use Rattle.fm_run.specs.Plays.{Play, language, step, first, outcome_of}

-- each entry has at least one step
abbrev pub HaveSteps : List Turn → Type 0
HaveSteps [] = Unit {0}
HaveSteps (t ∷ ts) = (1 ≤ t.steps) × HaveSteps ts

-- the entries before the last one cost at most the turns together
abbrev pub IsFrontWithin : (program : Play) → (turns : ℕ) → List Turn → List Place → Type 0
IsFrontWithin program turns history places = (front : List Turn) (last : Turn) (choices : List Place) →
    history ≡ front ++ last ∷ [] → choices_of front places ≡ Some choices → used (step program) (first program) choices ≤ turns

-- the history is one of the program, leads to this state at this cost, and these are its processes in
-- the order of starting
pub record IsPlayedBy (program : Play) (history : List Turn) (places : List Place) (s : State program.Proc) (paid : ℕ) : Type 0 where
  pub choices : List Place
  pub kept : choices_of history places ≡ Some choices
  pub places_are : places ≡ starts_of (language program) (first program) choices
  pub legal : IsLegal (step program) (first program) choices
  pub there : play (step program) (first program) choices ≡ s
  pub used_is : used (step program) (first program) choices ≡ paid
  pub some_steps : HaveSteps history

-- the numbers are those of the processes that can step, each once
pub record AreAble (program : Play) (s : State program.Proc) (places : List Place) (able : List ℕ) : Type 0 where
  pub within : (n : ℕ) → Among n able → can_at program s places n ≡ true
  pub whole : (n : ℕ) → can_at program s places n ≡ true → Among n able
  pub once : EachOnce able

-- a run between two pieces: its state, its processes in the order of starting, and the numbers of those
-- that can step, in the order in which they are served
pub record Stand (Proc : Type 0) : Type 0 where
  pub state : State Proc
  pub places : List Place
  pub able : List ℕ

abbrev pub stand_at : {Proc : Type 0} → State Proc → List Place → List ℕ → Stand Proc
stand_at s places able = record { state = s; places = places; able = able }

-- the processes have numbers: who started each is told, and whether each is in the queue
pub record AreNumbered (places : List Place) (parents : List ℕ) (marks : List Bool) (able : List ℕ) : Type 0 where
  pub started : AreParents places parents
  pub counted : length parents ≡ length places
  pub marked : AreMarked (length places) marks able

-- a run stands so between two pieces, with these channels, behind these pieces, at this cost
pub record IsPlayed (program : Play) (a : Stand program.Proc) (channels : Channels) (pieces : List Turn) (parents : List ℕ) (marks : List Bool) (paid : ℕ) : Type 0 where
  pub history : IsPlayedBy program pieces a.places a.state paid
  pub able : AreAble program a.state a.places a.able
  pub noted : AreNoted program a.state channels a.places
  pub numbered : AreNumbered a.places parents marks a.able

-- ---- a run that follows its choices

-- main has started, and can step or can't
abbrev pub first_stand : (program : Play) → Stand program.Proc
first_stand program = record { state = first program; places = [] ∷ []; able = ready_first program (first program) ([] ∷ []) }

-- the place of the process that an entry names, and its steps
abbrev pub place_of : List Place → Turn → Place
place_of places t = slice_index_or places t.number []

abbrev pub steps_of : List Place → Turn → List Place
steps_of places t = replicate t.steps (place_of places t)

-- the run after the steps of a process have led to this state, with these processes
abbrev pub moved : (program : Play) → Stand program.Proc → (own : ℕ) → State program.Proc → List Place → Stand program.Proc
moved program a own s places = record { state = s; places = places; able = ready_after program s places a.able own }

-- the run after an entry
abbrev pub after_entry : (program : Play) → Stand program.Proc → Turn → Stand program.Proc
after_entry program a t = moved program a t.number (play (step program) a.state (steps_of a.places t)) (a.places ++ starts_along (language program) a.state (steps_of a.places t))

abbrev pub after_entries : (program : Play) → Stand program.Proc → List Turn → Stand program.Proc
after_entries program a [] = a
after_entries program a (t ∷ ts) = after_entries program (after_entry program a t) ts

-- the entry is of the process that the choice tells among those that can step, or without a choice of
-- the first one, and its piece is full: the slice's local steps, and one more where that isn't local
pub record IsNext (program : Play) (slice : ℕ) (choice : Option ℕ) (a : Stand program.Proc) (t : Turn) : Type 0 where
  pub who : chosen choice a.able ≡ Some t.number
  pub full : IsFull program slice true a.state (place_of a.places t) t.steps

-- each entry from the n-th on, from 0, is the one that the n-th choice tells
abbrev pub FollowsFrom : (program : Play) → (slice : ℕ) → (choices : List ℕ) → (n : ℕ) → Stand program.Proc → List Turn → Type 0
FollowsFrom program slice choices n a [] = Unit {0}
FollowsFrom program slice choices n a (t ∷ ts) = IsNext program slice (slice_get choices n) a t × FollowsFrom program slice choices (suc n) (after_entry program a t) ts

-- the history is that of the choices, in pieces of at most a slice; it goes on behind the choices, each
-- time with the first of those that can step
abbrev pub Follows : (program : Play) → (slice : ℕ) → (choices : List ℕ) → List Turn → Type 0
Follows program slice choices history = FollowsFrom program slice choices 0 (first_stand program) history

-- an entry more: its process can make its steps, and they lead there
pub record IsEntry (program : Play) (t : Turn) (s : State program.Proc) (places : List Place) (history : List Turn) (later : State program.Proc) (later_places : List Place) (later_history : List Turn) : Type 0 where
  pub history_is : later_history ≡ history ++ t ∷ []
  pub can : IsLegal (step program) s (steps_of places t)
  pub state_is : later ≡ play (step program) s (steps_of places t)
  pub places_are : later_places ≡ places ++ starts_along (language program) s (steps_of places t)

-- so many steps of a process that it can make, and they lead there
pub record AreMade (program : Play) (number steps : ℕ) (s : State program.Proc) (places : List Place) (later : State program.Proc) (later_places : List Place) : Type 0 where
  pub can : IsLegal (step program) s (steps_of places (turn_of number steps))
  pub state_is : later ≡ play (step program) s (steps_of places (turn_of number steps))
  pub places_are : later_places ≡ places ++ starts_along (language program) s (steps_of places (turn_of number steps))

-- behind an entry of this process, before it was looked who can step: where the run came from, which was told whole, and the entry;
-- so many processes were there before it
pub record IsMoved (program : Play) (number before : ℕ) (later : State program.Proc) (later_places : List Place) (channels : Channels) (later_history : List Turn) (parents : List ℕ) (marks : List Bool) (able : List ℕ) (paid : ℕ) : Type 0 where
  pub state : State program.Proc
  pub places : List Place
  pub history : List Turn
  pub spent : ℕ
  pub old : Channels
  pub steps : ℕ
  pub kept : IsPlayedBy program history places state spent
  pub exact : AreAble program state places able
  pub among : Among number able
  pub noted : AreNoted program state old places
  pub old_chans : chans_of old ≡ state.chans
  pub entry : IsEntry program (turn_of number steps) state places history later later_places later_history
  pub kept_later : IsPlayedBy program later_history later_places later paid
  pub waking : WakesAll old channels
  pub counted : before ≡ length places
  pub numbered : AreNumbered later_places parents marks able

-- the choices end the program within its turns and with this outcome, or cost more than these
abbrev pub EndsSo : (program : Play) → (turns : ℕ) → (choices : List Place) → Ending → Type 0
EndsSo program turns cs (Ended o) = IsFinal (step program) (play (step program) (first program) cs)
    × (used (step program) (first program) cs ≤ turns)
    × (o ≡ outcome_of program (used (step program) (first program) cs) (play (step program) (first program) cs))
EndsSo program turns cs Spent = turns < used (step program) (first program) cs

-- the history is one of the program, with its processes in the order of starting, and the run ends so
pub record IsRun (program : Play) (turns : ℕ) (run : Run) : Type 0 where
  pub choices : List Place
  pub kept : choices_of run.history.items (places_of run.paths.items) ≡ Some choices
  pub places : places_of run.paths.items ≡ starts_of (language program) (first program) choices
  pub legal : IsLegal (step program) (first program) choices
  pub some_steps : HaveSteps run.history.items
  pub front_within : IsFrontWithin program turns run.history.items (places_of run.paths.items)
  pub ends : EndsSo program turns choices run.ending
