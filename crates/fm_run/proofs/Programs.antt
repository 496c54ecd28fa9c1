-- A program is lawful, and what it is as a play is what its meaning says.
use Rattle.std.proofs.Common.{◌≡◌, ◌≤◌, Option, Some, None, List, [], ◌∷◌, refl, ap, arith}
use Rattle.std.specs.FinMap.{empty, get}
use Rattle.fm_base.specs.declared.port.PortValue.{PortValue}
use Rattle.fm_finmap.specs.Sums.{total, value_or_zero}
use Rattle.fm_finmap.proofs.Inserts.{insert_here}
use Rattle.fm_finmap.proofs.Sums.{one_of_total}
use Rattle.fm_sched.specs.Schedule.{IsReached}
use Rattle.fm_net.specs.Lawful.{holds}
use Rattle.fm_net.specs.Machine.{Ask, Go, State, Stop}
use Rattle.fm_net.specs.Owned.{IsOwned, count, opened}
use Rattle.fm_net.proofs.Counts.{count-cons, one_self}
use Rattle.fm_net.proofs.Keys.{path_order}
use Rattle.fm_net_procs.specs.Waiting as waiting
use Rattle.fm_rules.specs.declared.program.Program.{Program}
use Rattle.fm_mean.specs.Outcome as meaning
use Rattle.fm_mean.specs.Process.{Proc}
use Rattle.fm_mean.specs.Steps.{first, first_proc, language, step}
use Rattle.fm_mean.proofs.Laws.{first_owned}
use Rattle.fm_mean.proofs.Lawful as means
use Rattle.fm_run.specs.Plays as plays
use Rattle.fm_run.specs.Plays.{IsLawfulPlay}
use Rattle.fm_run.specs.Programs.{play_of}
use Rattle.fm_run.proofs.Firsts.{none_open}
use Rattle.fm_run.proofs.Steps as along

no_ports : (zs : List PortValue) → ((z : PortValue) → count z zs ≡ 0) → zs ≡ []
no_ports [] none = refl
no_ports (z ∷ zs) none = absurd (omega (arith, none z, count-cons z z zs, one_self z))

-- main holds no port
pub first_holds : (program : Program) → (language program).held (first_proc program) ≡ []
first_holds program = no_ports ((language program).held (first_proc program)) (λ z.
    let m = (first program).procs in
    let part : value_or_zero (holds (language program) z) (get m []) ≤ total (holds (language program) z) m = one_of_total path_order (holds (language program) z) m [] in
    let none : opened (first program).chans z ≡ 0 = none_open (play_of program) z in
    omega (arith, part, ap (value_or_zero (holds (language program) z)) (insert_here path_order empty [] (first_proc program)), (first_owned program).stands z, none))

pub law_of : (program : Program) → IsLawfulPlay (play_of program)
law_of program = record { lawful = means.lawful program; free = first_holds program }

pub owned_reached : (program : Program) (s : State Proc) → IsReached (step program) (first program) s → IsOwned (language program) s
owned_reached program s reached = along.owned_reached (play_of program) (law_of program) s reached

-- ---- the words of the meaning

pub need_is : (k : Ask Proc) → meaning.need_in k ≡ waiting.need_in k
need_is Stop = refl
need_is (Go need f) = refl

pub ended_is : (program : Program) (o : Option Proc) → meaning.ended_at o ≡ plays.ended_at (play_of program) o
ended_is program None = refl
ended_is program (Some x) = refl
