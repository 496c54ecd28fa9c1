-- What a table is seen as: a program, how its run is set up, the schedule that was kept, in which order those that can step are served, and
-- whose pieces are made outside. Where the schedule leads is a function of it.
-- Source: this profile.
use Rattle.std.specs.Prelude.{ℕ, ◌<◌, ◌≤◌, ◌==◌, Bool, true, false, cond, not, nat_lt, ◌⊎◌, ◌≡◌, Option, Some, None, List, [], ◌∷◌, ◌++◌, map, filter, slice_get}
use Rattle.std.specs.FinMap.{get}
use Rattle.fm_base.specs.declared.schedule.Setup.{Setup}
use Rattle.fm_base.specs.declared.schedule.Turn.{Turn}
use Rattle.fm_sched.specs.Schedule.{used}
use Rattle.fm_net.specs.Machine.{Place}
use Rattle.fm_rules.specs.declared.program.Program.{Program}
use Rattle.fm_mean.specs.Outcome.{outcome_of}
use Rattle.fm_mean.specs.Process.{Proc}
use Rattle.fm_mean.specs.Steps.{first, step}
use Rattle.fm_code.specs.declared.body.Body.{Body}
use Rattle.fm_run.specs.declared.run.Ending.{Ending}
use Rattle.fm_run.specs.declared.run.Ending.TheVariants as ending
use Rattle.fm_run.specs.Orders.{Among, EachOnce, is_among}
use Rattle.fm_run.specs.Programs.{AreAble, IsFrontWithin, IsPlayedBy, Stand, after_entries, after_entry, first_stand}
use Rattle.fm_proc_simulation.specs.Corresponds.{BodyStands}
use Rattle.fm_run_code.specs.Played.{choices_in}
use Rattle.fm_proc_language.specs.Slots.{Slots}
use Rattle.fm_workers.specs.declared.shared.Phase.{Phase}
use Rattle.fm_workers.specs.declared.shared.Phase.TheVariants.{Going, Ended, Spent}

-- a process whose piece is made outside: its number, and its body as it was taken
pub record Out : Type 0 where
  pub number : ℕ
  pub start : Body

-- what a table tells
pub record Told : Type 0 where
  pub program : Program
  pub setup : Setup
  pub history : List Turn
  -- those that can step, as they are served, those that are out among them
  pub queue : List ℕ
  -- those whose pieces are made outside, as they were taken
  pub out : List Out

-- where entries lead
abbrev pub led_by : Program → List Turn → Stand
led_by program history = after_entries program (first_stand program) history

-- the table that entries lead to where nobody is out: those that can step are served as the entries give it
abbrev pub told_at : Program → Setup → List Turn → Told
told_at program setup history = record { program = program; setup = setup; history = history; queue = (led_by program history).able; out = [] }

-- nothing was played yet
abbrev pub first_told : Program → Setup → Told
first_told program setup = told_at program setup []

-- where the entries lead: the state, the processes in the order of starting, and those that can step, served in this order
abbrev pub stand_with : Program → List Turn → (queue : List ℕ) → Stand
stand_with program history queue = record { state = (led_by program history).state; places = (led_by program history).places; able = queue }

abbrev pub stand_of : Told → Stand
stand_of a = stand_with a.program a.history a.queue

-- what entries cost
abbrev pub cost_by : Program → List Turn → ℕ
cost_by program history = used (step program) (first program) (choices_in history (led_by program history).places)

abbrev pub cost_of : Told → ℕ
cost_of a = cost_by a.program a.history

-- ---- who is out

abbrev pub numbers_out : List Out → List ℕ
numbers_out = map (λ o. o.number)

abbrev pub is_out : List Out → ℕ → Bool
is_out out n = is_among (numbers_out out) n

-- those of a list that aren't out, in their order
abbrev pub ready_in : List Out → List ℕ → List ℕ
ready_in out = filter (λ n. not (is_out out n))

abbrev pub ready_of : Told → List ℕ
ready_of a = ready_in a.out a.queue

-- the others that are out
abbrev pub without : ℕ → List Out → List Out
without n = filter (λ o. not (o.number == n))

-- the body with which a process was taken, if it is out
abbrev pub start_in : List Out → ℕ → Option Body
start_in [] n = None
start_in (o ∷ os) n = cond (o.number == n) (Some o.start) (start_in os n)

-- with an entry more: its process isn't out any more, and the queue is as it is served behind a piece
abbrev pub with_entry : Told → Turn → Told
with_entry a t = record {
  program = a.program;
  setup = a.setup;
  history = a.history ++ t ∷ [];
  queue = (after_entry a.program (stand_of a) t).able;
  out = without t.number a.out;
}

-- ---- what is so of every table

-- a body of the program's code that stands for the process of this number, whose port words name some slots
abbrev pub IsBodyOf : Program → Stand → (number : ℕ) → Body → Type 0
IsBodyOf program a number start = (q : Place) (x : Proc) → slice_get a.places number ≡ Some q → get a.state.procs q ≡ Some x → (slots : Slots) × BodyStands program slots x start

-- the body with which each one was taken that is out stands for it still
abbrev pub HaveStarts : Program → Stand → List Out → Type 0
HaveStarts program a [] = Unit {0}
HaveStarts program a (o ∷ os) = IsBodyOf program a o.number o.start × HaveStarts program a os

-- the schedule is one of the program, which leads to the stand, where the queue has the processes that can step, each once; those that are out
-- are among them, each once, and were taken with bodies that stand for them still; each entry has a step, and those before the last one cost
-- at most the turns together
pub record IsKept (a : Told) : Type 0 where
  pub played : IsPlayedBy a.program a.history (stand_of a).places (stand_of a).state (cost_of a)
  pub able : AreAble a.program (stand_of a).state (stand_of a).places a.queue
  pub front : IsFrontWithin a.program a.setup.turns a.history (stand_of a).places
  pub out_able : (n : ℕ) → Among n (numbers_out a.out) → Among n a.queue
  pub out_once : EachOnce (numbers_out a.out)
  pub out_start : HaveStarts a.program (stand_of a) a.out

-- ---- phases

-- whether a list has something
abbrev pub has_some : List ℕ → Bool
has_some [] = false
has_some (n ∷ ns) = true

abbrev pub phase_by : (spent can_step : Bool) → Phase
phase_by true can_step = Spent
phase_by false true = Going
phase_by false false = Ended

-- spent where the schedule costs more than the turns; else ended where nobody can step
abbrev pub phase_of : Told → Phase
phase_of a = phase_by (nat_lt a.setup.turns (cost_of a)) (has_some a.queue)

-- no piece can be made: it is spent, or nobody is ready
abbrev pub IsIdle : Told → Type 0
IsIdle a = (a.setup.turns < cost_of a) ⊎ (ready_of a ≡ [])

-- how a table ended in which no piece can be made, and nobody is out: with what it shows, or spent
abbrev pub IsEndingOf : Told → Ending → Type 0
IsEndingOf a (ending.Ended o) = (cost_of a ≤ a.setup.turns) × (a.queue ≡ []) × (o ≡ outcome_of a.program (cost_of a) (stand_of a).state)
IsEndingOf a ending.Spent = a.setup.turns < cost_of a
