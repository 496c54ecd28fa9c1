-- What an outcome tells of each process that hasn't ended.
-- Source: the Fortran M report (RECEIVE waits for a message, a process block for its processes), with this profile's report of faults and waits.
use Rattle.std.specs.Prelude.{◌≡◌, ◌⊎◌, ℕ, suc, Some, Contains}
use Rattle.std.specs.FinMap.{get}
use Rattle.fm_base.specs.declared.fault.Fault.{Fault}
use Rattle.fm_net.specs.Machine.{Place, State, child}
use Rattle.fm_rules.specs.declared.program.Program.{Program}
use Rattle.fm_mean.specs.declared.outcome.At.{At}
use Rattle.fm_mean.specs.declared.outcome.At.TheVariants as at
use Rattle.fm_mean.specs.declared.outcome.Outcome.{Outcome}
use Rattle.fm_mean.specs.Process.{Ended, Faulted, Proc}
use Rattle.fm_mean.specs.Outcome.{line_at}
use Rattle.fm_mean.specs.NoStep.{AwaitsMessage, JoinsUnended}

-- what the process waits for: a message of this channel, or the end of this child
abbrev pub WaitsFor : Program → State Proc → Place → Proc → At → Type 0
WaitsFor p s q x (at.Receive c) = (w : AwaitsMessage p s x) × (w.channel ≡ c)
WaitsFor p s q x (at.Join path) = (j : JoinsUnended s q x) × (child q j.block (suc j.number) ≡ path)

-- the process has faulted, and its fault is told with its line
pub record TellsFault (o : Outcome) (q : Place) (x : Proc) : Type 0 where
  pub line : ℕ
  pub fault : Fault
  pub has_faulted : x.phase ≡ Faulted line fault
  pub told : Contains o.faults (record { path = q; line = record { 0 = line }; fault = fault })

-- the process waits, and it is told at which line and for what
pub record TellsWait (p : Program) (s : State Proc) (o : Outcome) (q : Place) (x : Proc) : Type 0 where
  pub waited : At
  pub waits : WaitsFor p s q x waited
  pub told : Contains o.waits (record { path = q; line = record { 0 = line_at p x }; at = waited })

-- each process of the state has ended, or its fault or its wait is told
abbrev pub TellsEach : Program → State Proc → Outcome → Type 0
TellsEach p s o = (q : Place) (x : Proc) → get s.procs q ≡ Some x → (x.phase ≡ Ended) ⊎ (TellsFault o q x ⊎ TellsWait p s o q x)
