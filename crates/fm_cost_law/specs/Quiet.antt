-- Steps of one process that print no line and make no great merger.
-- Source: this profile (costs of statements).
use Rattle.std.specs.Prelude.{◌≡◌, ℕ, zero, suc, Some}
use Rattle.std.specs.FinMap.{get}
use Rattle.fm_sched.specs.Schedule.{next}
use Rattle.fm_net.specs.Machine.{Place, State}
use Rattle.fm_rules.specs.declared.program.Program.{Program}
use Rattle.fm_mean.specs.Actions.{action_of}
use Rattle.fm_mean.specs.Owed.{IsQuiet}
use Rattle.fm_mean.specs.Process.{Proc}
use Rattle.fm_mean.specs.Steps.{step}

-- so is each of the next so many steps of the process at this place
abbrev pub AreQuiet : Program → Place → (steps : ℕ) → State Proc → Type 0
AreQuiet p q zero s = Unit {0}
AreQuiet p q (suc n) s = ((x : Proc) → get s.procs q ≡ Some x → IsQuiet (action_of p x)) × AreQuiet p q n (next (step p) s q)
