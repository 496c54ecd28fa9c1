-- Schedules in which each process that can step comes before as many entries as there are processes.
-- Source: this profile.
use Rattle.std.specs.Prelude.{◌≡◌, ◌⊎◌, ℕ, zero, suc, Some, List, [], ◌∷◌, length, slice_get}
use Rattle.fm_base.specs.declared.schedule.Turn.{Turn}
use Rattle.fm_sched.specs.Schedule.{Can, play}
use Rattle.fm_net.specs.Machine.{Place, State}
use Rattle.fm_run.specs.Orders.{places_of}
use Rattle.fm_run.specs.Plays.{Play, first, step}
use Rattle.fm_run.specs.Runs.{Follows, IsRun, steps_of}
use Rattle.fm_run.specs.declared.run.Run.{Run}

-- one of the first so many entries is of the process at this place, or there are fewer entries
abbrev pub IsServed : (places : List Place) → Place → (count : ℕ) → List Turn → Type 0
IsServed places q zero ts = ⊥
IsServed places q (suc m) [] = Unit {0}
IsServed places q (suc m) (t ∷ ts) = (slice_get places t.number ≡ Some q) ⊎ IsServed places q m ts

-- each process that can step before an entry is served within as many entries as there are processes
abbrev pub IsFairFrom : (program : Play) → State program.Proc → (places : List Place) → List Turn → Type 0
IsFairFrom program s places [] = Unit {0}
IsFairFrom program s places (t ∷ ts) =
    ((q : Place) → Can (step program) s q → IsServed places q (length places) (t ∷ ts))
    × IsFairFrom program (play (step program) s (steps_of places t)) places ts

abbrev pub IsFair : (program : Play) → List Turn → List Place → Type 0
IsFair program history places = IsFairFrom program (first program) places history

-- a run under these turns in which nobody chose: those that can step are served in turn, each with as many steps as a slice allows
pub record IsRunInTurn (program : Play) (slice turns : ℕ) (run : Run) : Type 0 where
  pub runs : IsRun program turns run
  pub in_turn : Follows program slice [] run.history.items
  pub fair : IsFair program run.history.items (places_of run.paths.items)
