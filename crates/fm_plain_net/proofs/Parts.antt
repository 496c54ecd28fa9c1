-- Where local steps of a process lead.
use Rattle.std.proofs.Common.{◌≡◌, ℕ, Bool, Some, [], ap, ◌∙◌, arith}
use Rattle.std.specs.FinMap.{get, insert}
use Rattle.fm_finmap.specs.Sums.{value_or_zero}
use Rattle.fm_finmap.proofs.Inserts.{insert_here}
use Rattle.fm_finmap.proofs.Sums.{total-insert}
use Rattle.fm_sched.specs.Schedule.{IsReached}
use Rattle.fm_net.specs.Lawful.{holds}
use Rattle.fm_net.specs.Machine.{Place, Procs, State}
use Rattle.fm_net.specs.Owned.{IsOwned}
use Rattle.fm_net.proofs.Keys.{path_order}
use Rattle.fm_rules.specs.declared.program.Program.{Program}
use Rattle.fm_mean.specs.Process.{Proc}
use Rattle.fm_mean.specs.Steps.{language, step, first}
use Rattle.fm_plain.specs.declared.advancing.Advanced.{Advanced}
use Rattle.fm_plain_net.specs.declared.ports.Ports.{Ports}
use Rattle.fm_plain_net.specs.Held.{HeldAreKept}
use Rattle.fm_plain_net.specs.Advances.{AdvancesAt}
use Rattle.fm_run.specs.Programs.{Makes, play_of}
use Rattle.fm_plain_net.proofs.Steps.{locals_hold, makes_local}
use Rattle.fm_run.proofs.Steps.{reached_makes}
use Rattle.fm_run.proofs.Programs.{owned_reached}

-- the process at a place made local steps, from a state that is reached
module _ (program : Program) (slice : ℕ) (spare : Bool) (s : State Proc) (p : Place) (x : Proc) (is : get s.procs p ≡ Some x) (a : Advanced) (m : Procs Proc) (at : AdvancesAt program slice spare p x a s.procs m) where
  -- where it stopped
  abbrev pub behind : State Proc
  behind = record { procs = insert s.procs p at.advanced.stopped; chans = s.chans }

  -- who stands there then
  pub there_behind : get behind.procs p ≡ Some at.advanced.stopped
  there_behind = insert_here path_order s.procs p at.advanced.stopped

  pub local_steps_make : Makes program s p a.steps behind a.cost []
  local_steps_make = makes_local program a.steps s p x (at.advanced.stopped, a.cost) is at.advanced.made

  -- where its last step was local, this is the state after it
  pub same_behind : at.after ≡ at.advanced.stopped → m ≡ behind.procs
  same_behind e = at.procs_are ∙ ap (insert s.procs p) e

  pub owned_behind : IsReached (step program) (first program) s → IsOwned (language program) behind
  owned_behind reached = owned_reached program behind (reached_makes (play_of program) s behind p a.steps a.cost [] reached local_steps_make)

  -- what is held is kept still
  pub held_behind : (ports : Ports) → HeldAreKept program ports s.procs → HeldAreKept program ports behind.procs
  held_behind ports held z h =
      held z (omega (arith, total-insert path_order (holds (language program) z) s.procs p at.advanced.stopped, ap (value_or_zero (holds (language program) z)) is, locals_hold program z a.steps x (at.advanced.stopped, a.cost) at.advanced.made))
