-- The PROGRAM's process is there along every schedule.
use Rattle.std.proofs.Common.{◌≡◌, Some, []}
use Rattle.std.specs.FinMap.{empty, get}
use Rattle.fm_sched.specs.Schedule.{Throughout}
use Rattle.fm_sched.proofs.Along.{throughout}
use Rattle.fm_finmap.proofs.Inserts.{insert_here}
use Rattle.fm_net.specs.Machine.{State, made}
use Rattle.fm_net.specs.Owned.{IsOwned}
use Rattle.fm_net.proofs.Keys.{path_order}
use Rattle.fm_net.proofs.Meeting.{IsSound}
use Rattle.fm_net.proofs.Parts.{Midway, Part, Run, Discard, Move, end}
use Rattle.fm_net.proofs.Steps.{state_of, step_keeps, step_keeps_fact}
use Rattle.fm_rules.specs.declared.program.Program.{Program}
use Rattle.fm_mean.specs.Process.{Proc, emptied}
use Rattle.fm_mean.specs.Steps.{first, first_proc, language, step}
use Rattle.fm_mean.proofs.EachStep.{still_there}
use Rattle.fm_mean.proofs.Lawful.{lawful}
use Rattle.fm_mean.proofs.Laws.{first_owned}

abbrev pub MainIsThere : State Proc → Type 0
MainIsThere s = (x : Proc) × (get s.procs [] ≡ Some x)

module _ (p : Program) where
  keeps_part : (mid : Midway Proc) (a : Part) → IsSound (language p) mid → MainIsThere (state_of (language p) mid) → (m : Move (language p) mid a) → MainIsThere (state_of (language p) (end (language p) mid a m).0)
  keeps_part mid (Discard z) good kept l = kept
  keeps_part mid (Run q) good kept (h, t) = still_there emptied mid.procs q t.need (t.goes (made q t.need) t.reply) [] kept.0 kept.1

  pub main_along : Throughout (step p) MainIsThere (first p)
  main_along =
      throughout (step p) (λ s. IsOwned (language p) s × MainIsThere s)
      (λ s q good can. (step_keeps (language p) (lawful p) s q good.0 can, step_keeps_fact (language p) (lawful p) MainIsThere keeps_part s q good.0 good.1 can))
      MainIsThere (λ s good. good.1) (first p) (first_owned p, (first_proc p, insert_here path_order empty [] (first_proc p)))
