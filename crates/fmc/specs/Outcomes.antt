-- What sources come to, whatever the command.
-- Source: this profile.
use Rattle.std.specs.Prelude.{◌≡◌, ℕ, ◌≤◌, Bool, true, false, List, [], ◌∷◌, length, codes}
use Rattle.fm_base.specs.declared.schedule.Turn.{Turn}
use Rattle.fm_base.specs.declared.rule.Refusal.{Refusal}
use Rattle.fm_base.specs.Rules.{refusal_text}
use Rattle.fm_base.specs.Verdict.{IsClean, IsLeast}
use Rattle.fm_sched.specs.Schedule.{play, used}
use Rattle.fm_net.specs.Machine.{Place, State}
use Rattle.fm_mean.specs.declared.outcome.FaultAt.{FaultAt}
use Rattle.fm_mean.specs.declared.outcome.Outcome.{Outcome}
use Rattle.fm_mean.specs.Process.{Proc}
use Rattle.fm_mean.specs.Steps.{step, first}
use Rattle.fm_rules.specs.declared.program.Program.{Program}
use Rattle.fm_verdict.specs.Verdict.{IsBroken}
use Rattle.fm_run.specs.declared.run.Ending.{Ending}
use Rattle.fm_run.specs.declared.run.Ending.TheVariants as ending
use Rattle.fmc.specs.declared.answer.Exit.{Exit}
use Rattle.fmc.specs.declared.answer.Exit.TheVariants.{Done, Faulted, Deadlocked, Spent}

abbrev pub usage_text : List ℕ
usage_text = codes "usage: fmc run or trace or replay or check or list or make N or demo N or compile or exec or flow or nodes N\n"

-- the most bytes of a source
abbrev pub source_limit : ℕ
source_limit = 1000000

-- the exit of a run that ended
abbrev pub exit_by : List FaultAt → Bool → Exit
exit_by [] true = Done
exit_by [] false = Deadlocked
exit_by (f ∷ fs) ended = Faulted

abbrev pub exit_of : Outcome → Exit
exit_of o = exit_by o.faults o.main_ended

-- the exit of a run
abbrev pub exit_in : Ending → Exit
exit_in (ending.Ended o) = exit_of o
exit_in ending.Spent = Spent

-- the state that a schedule of a program leads to, and what it costs
abbrev pub state_after : Program → List Place → State Proc
state_after program choices = play (step program) (first program) choices

abbrev pub cost_of : Program → List Place → ℕ
cost_of program choices = used (step program) (first program) choices

-- nothing was played, and this is the text
pub record IsUnplayed (history : List Turn) (places : List Place) (text told : List ℕ) : Type 0 where
  pub no_turns : history ≡ []
  pub no_places : places ≡ []
  pub text_is : text ≡ told

-- the source is refused for this: the least rule that it breaks
abbrev pub IsRefusedFor : List ℕ → Refusal → Type 0
IsRefusedFor source v = IsLeast (IsBroken source) v

-- the source breaks no rule: each command does its work on it
abbrev pub IsAccepted : List ℕ → Type 0
IsAccepted source = IsClean (IsBroken source)

pub record IsRefused (source : List ℕ) (history : List Turn) (places : List Place) (text : List ℕ) : Type 0 where
  pub within : length source ≤ source_limit
  pub refusal : Refusal
  pub refused : IsRefusedFor source refusal
  pub unplayed : IsUnplayed history places text (refusal_text refusal)
