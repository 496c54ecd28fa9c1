-- What a turn does to a table, and what an entry does that is handed in.
-- Source: this profile.
use Rattle.std.specs.Prelude.{◌≡◌, ℕ, zero, suc, ◌<◌, ◌≤◌, Option, Some, None, is_some, true, slice_get}
use Rattle.fm_base.specs.declared.schedule.Turn.{Turn}
use Rattle.fm_sched.specs.Schedule.{IsLegal}
use Rattle.fm_net.specs.Machine.{Place}
use Rattle.fm_mean.specs.Steps.{step}
use Rattle.fm_run.specs.Entries.{turn_of}
use Rattle.fm_run.specs.Orders.{Among, chosen}
use Rattle.fm_run.specs.Programs.{IsFull, after_steps}
use Rattle.fm_run.specs.Runs.{place_of, steps_of}
use Rattle.fm_table.specs.Told.{Told, cost_of, ready_of, stand_of, with_entry}

-- the process that the choice tells among those that are ready makes a full piece, which is an entry more
pub record TurnsTo (choice : ℕ) (a b : Told) : Type 0 where
  pub going : cost_of a ≤ a.setup.turns
  pub entry : Turn
  pub who : chosen (Some choice) (ready_of a) ≡ Some entry.number
  pub full : IsFull a.program a.setup.slice true (stand_of a).state (place_of (stand_of a).places entry) entry.steps
  pub told : b ≡ with_entry a entry

-- a process that is ready makes a full piece of a slice of the setup's length or more, which is an entry more
pub record TurnsInside (a b : Told) : Type 0 where
  pub going : cost_of a ≤ a.setup.turns
  pub entry : Turn
  pub who : Among entry.number (ready_of a)
  pub slice : ℕ
  pub long : a.setup.slice ≤ slice
  pub full : IsFull a.program slice true (stand_of a).state (place_of (stand_of a).places entry) entry.steps
  pub told : b ≡ with_entry a entry

-- with so many steps of the process of a number, which are no entry where there are none
abbrev pub with_steps : Told → (number steps : ℕ) → Told
with_steps a number zero = a
with_steps a number (suc n) = with_entry a (turn_of number (suc n))

-- so many steps of the process of a number were made, and are an entry
pub record MakesSteps (number steps : ℕ) (a b : Told) : Type 0 where
  pub there : 1 ≤ steps → is_some (slice_get (stand_of a).places number) ≡ true
  pub can : IsLegal (step a.program) (stand_of a).state (steps_of (stand_of a).places (turn_of number steps))
  pub told : b ≡ with_steps a number steps

-- behind so many steps the process of this number can't step, or there is no such process
abbrev pub CantStepBehind : (number steps : ℕ) → Told → Type 0
CantStepBehind number steps a = (q : Place) → slice_get (stand_of a).places number ≡ Some q → step a.program (after_steps a.program (stand_of a).state q steps) q ≡ None

-- what came of an entry: all its steps were made, or so many, behind which the next one doesn't exist
abbrev pub PlaysTo : Turn → (a b : Told) → Option ℕ → Type 0
PlaysTo t a b None = MakesSteps t.number t.steps a b
PlaysTo t a b (Some k) = (k < t.steps) × MakesSteps t.number k a b × CantStepBehind t.number k a
