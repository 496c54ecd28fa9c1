-- The step of a process that did its event, in the words of the table of processes.
use Rattle.std.proofs.Common.{◌≡◌, ◌+◌, ℕ, None, List, [], refl}
use Rattle.std.specs.FinMap.{get}
use Rattle.std.specs.Prelude.{Some}
use Rattle.fm_base.specs.Channels.{Chans}
use Rattle.fm_sched.specs.Schedule.{IsReached}
use Rattle.fm_net.specs.Machine.{Place, State}
use Rattle.fm_net.specs.Starts.{starts_at}
use Rattle.fm_net_procs.specs.Stepping.{StepsTo, started_at}
use Rattle.fm_rules.specs.declared.program.Program.{Program}
use Rattle.fm_mean.specs.Outcome.{need_of}
use Rattle.fm_mean.specs.Process.{Proc}
use Rattle.fm_mean.specs.Steps.{first, language, step}
use Rattle.fm_plain_net.specs.declared.ports.Ports.{Ports}
use Rattle.fm_plain_net.specs.Goes.{Performs, joined_in}
use Rattle.fm_plain_net.specs.Held.{Fits}
use Rattle.fm_run.specs.Awaited.{awaits}
use Rattle.fm_plain_net.proofs.Born.{begun}
use Rattle.fm_plain_net.proofs.Doing.{performed, performed_held, performed_starts}
use Rattle.fm_plain_net.proofs.Families.{run_alone, waits_by_phase}
use Rattle.fm_run.specs.Programs.{play_of}
use Rattle.fm_run.proofs.Steps.{makes_more, makes_none, reached_makes}
use Rattle.fm_run.proofs.Programs.{owned_reached}

-- a step leads from a state that is reached to one
pub reached_step : (program : Program) (s t : State Proc) (p : Place) (cost : ℕ) → IsReached (step program) (first program) s → step program s p ≡ Some (t, cost) → IsReached (step program) (first program) t
reached_step program s t p cost reached goes = reached_makes (play_of program) s t p (0 + 1) (0 + cost) (starts_at (language program) s p) reached (makes_more (play_of program) s s p 0 0 (t, cost) (makes_none (play_of program) s p) goes)

pub steps_to : (program : Program) (s : State Proc) (p : Place) (x : Proc) → get s.procs p ≡ Some x → (ports later : Ports) (y : Proc) (xs : List Proc) (n : Chans) (cost : ℕ) → Performs program p x s.chans [] ports y xs n later cost
    → joined_in (need_of program x) ≡ None → Fits program ports s → StepsTo (language program) awaits (Fits program later) s p x y xs n cost
steps_to program s p x is ports later y xs n cost does none fits =
    let goes = performed program s p x is ports None none later [] y xs n cost refl does (started_at (language program) s p x y xs n).procs refl in
    let young = begun program p x s.chans ports y xs n later cost does none in
    record {
      step = goes;
      starts = performed_starts program s p x is ports None none later [] y xs n cost refl does;
      waits = λ b k awaited. waits_by_phase y.phase x.next_block _ young.0 b k awaited;
      run = run_alone xs young.1;
      fits = record {
        reached = reached_step program s (started_at (language program) s p x y xs n) p cost fits.reached goes;
        held = performed_held program s p x is ports None none later [] y xs n cost refl does (started_at (language program) s p x y xs n).procs refl (owned_reached program s fits.reached) fits.held;
      };
    }
