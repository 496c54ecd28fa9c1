-- The choices that the entries of a schedule stand for.
-- Source: this profile.
use Rattle.std.specs.Prelude.{◌≡◌, Some, List, ◌++◌, replicate, slice_get}
use Rattle.fm_base.specs.declared.schedule.Turn.{Turn}
use Rattle.fm_sched.specs.Schedule.{IsLegal, play}
use Rattle.fm_net.specs.Machine.{Place}
use Rattle.fm_net.specs.Starts.{choices_of, starts_of}
use Rattle.fm_rules.specs.declared.program.Program.{Program}
use Rattle.fm_mean.specs.Steps.{first, language, step}

-- the entries are steps of the program, one behind the other from its first state: these choices
pub record AreSteps (p : Program) (entries : List Turn) (choices : List Place) : Type 0 where
  pub told : choices_of entries (starts_of (language p) (first p) choices) ≡ Some choices
  pub legal : IsLegal (step p) (first p) choices

-- behind the first choices all of them go on with those of the other entries
pub record GoesOnWith (p : Program) (more : List Turn) (front choices : List Place) : Type 0 where
  pub others : List Place
  pub told : choices_of more (starts_of (language p) (first p) choices) ≡ Some others
  pub whole : choices ≡ front ++ others

-- behind these choices the process of an entry is there, and has as many steps as the entry
pub record HasItsSteps (p : Program) (t : Turn) (choices : List Place) : Type 0 where
  pub place : Place
  pub at : slice_get (starts_of (language p) (first p) choices) t.number ≡ Some place
  pub can : IsLegal (step p) (play (step p) (first p) choices) (replicate t.steps place)
