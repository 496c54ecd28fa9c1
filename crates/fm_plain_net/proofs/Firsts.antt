-- Before the first piece no port is held.
use Rattle.std.proofs.Common.{◌≡◌, ◌≤◌, [], subst, sym, arith}
use Rattle.fm_finmap.specs.Sums.{total}
use Rattle.fm_sched.specs.Schedule.{IsReached}
use Rattle.fm_net.specs.Lawful.{holds}
use Rattle.fm_net.specs.Machine.{Procs, State}
use Rattle.fm_net.specs.Owned.{opened}
use Rattle.fm_rules.specs.declared.program.Program.{Program}
use Rattle.fm_mean.specs.Process.{Proc}
use Rattle.fm_mean.specs.Steps.{first, language, step}
use Rattle.fm_plain_net.specs.declared.ports.Ports.{Ports}
use Rattle.fm_run.specs.Programs.{play_of}
use Rattle.fm_run.proofs.Firsts.{none_open}
use Rattle.fm_plain_net.specs.Held.{HeldAreKept}
use Rattle.fm_mean.proofs.Laws.{first_owned}

pub none_held : (program : Program) (ports : Ports) (m : Procs Proc) → m ≡ (first program).procs → HeldAreKept program ports m
none_held program ports m is z h =
    let h' : 1 ≤ total (holds (language program) z) (first program).procs = subst (λ (n : Procs Proc). 1 ≤ total (holds (language program) z) n) is h in
    let none : opened (first program).chans z ≡ 0 = none_open (play_of program) z in
    absurd (omega (arith, h', (first_owned program).stands z, none))

-- the first state is reached
pub first_reached : (program : Program) (s : State Proc) → s ≡ first program → IsReached (step program) (first program) s
first_reached program s is = ([], tt, sym is)
