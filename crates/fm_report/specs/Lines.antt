-- That a text has a line for each process that hasn't ended.
-- Source: this profile.
use Rattle.std.specs.Prelude.{◌≡◌, ◌⊎◌, ℕ, Some, List, ◌++◌}
use Rattle.std.specs.FinMap.{get}
use Rattle.fm_base.specs.declared.fault.Fault.{Fault}
use Rattle.fm_net.specs.Machine.{Place, State}
use Rattle.fm_rules.specs.declared.program.Program.{Program}
use Rattle.fm_mean.specs.declared.outcome.At.{At}
use Rattle.fm_mean.specs.declared.outcome.FaultAt.{FaultAt}
use Rattle.fm_mean.specs.declared.outcome.Outcome.{Outcome}
use Rattle.fm_mean.specs.declared.outcome.Wait.{Wait}
use Rattle.fm_mean.specs.Outcome.{line_at}
use Rattle.fm_mean.specs.Process.{Ended, Faulted, Proc}
use Rattle.fm_mean.specs.Telling.{WaitsFor}
use Rattle.fm_report.specs.Report.{fault_line, wait_line}
use Rattle.fm_wait.specs.Waits.{waits_for}

-- the text has this line
abbrev pub HasLine : (text line : List ℕ) → Type 0
HasLine text line = (before : List ℕ) × (after : List ℕ) × (text ≡ before ++ (line ++ after))

abbrev pub fault_of : Place → (line : ℕ) → Fault → FaultAt
fault_of q line fault = record { path = q; line = record { 0 = line }; fault = fault }

-- the process has faulted, and there is a line for it
pub record HasFaultLine (text : List ℕ) (q : Place) (x : Proc) : Type 0 where
  pub line : ℕ
  pub fault : Fault
  pub has_faulted : x.phase ≡ Faulted line fault
  pub written : HasLine text (fault_line (fault_of q line fault))

abbrev pub wait_of : Program → Place → Proc → At → Wait
wait_of p q x at = record { path = q; line = record { 0 = line_at p x }; at = at }

-- the process waits, and there is a line for it
pub record HasWaitLine (p : Program) (s : State Proc) (o : Outcome) (text : List ℕ) (q : Place) (x : Proc) : Type 0 where
  pub waited : At
  pub waits : WaitsFor p s q x waited
  pub written : HasLine text (wait_line (wait_of p q x waited) (waits_for o (wait_of p q x waited)))

-- each process of the state has ended, or there is a line for it
abbrev pub NamesEach : Program → State Proc → Outcome → List ℕ → Type 0
NamesEach p s o text = (q : Place) (x : Proc) → get s.procs q ≡ Some x → (x.phase ≡ Ended) ⊎ (HasFaultLine text q x ⊎ HasWaitLine p s o text q x)
