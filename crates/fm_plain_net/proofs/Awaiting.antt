-- Who can step is under way.
use Rattle.std.proofs.Common.{◌≡◌, true, Some, sym, ap, subst, ◌∙◌}
use Rattle.std.specs.Prelude.{is_some}
use Rattle.std.specs.FinMap.{get}
use Rattle.fm_sched.specs.Schedule.{IsReached}
use Rattle.fm_net.specs.Machine.{Place, State}
use Rattle.fm_net.specs.Owned.{IsOwned}
use Rattle.fm_rules.specs.declared.program.Program.{Program}
use Rattle.fm_mean.specs.Actions.{Rest, action_in, action_of}
use Rattle.fm_net_procs.specs.Waiting.{need_in}
use Rattle.fm_mean.specs.Process.{Proc}
use Rattle.fm_mean.specs.Steps.{ask_for, first, language, step}
use Rattle.fm_mean.proofs.Rests.{AreLive, live_along}
use Rattle.fm_plain.specs.Advance.{IsUnderWay}
use Rattle.fm_run.specs.Programs.{play_of}
use Rattle.fm_run.proofs.Able.{rests}

module _ (program : Program) (s : State Proc) (p : Place) (x : Proc) (is : get s.procs p ≡ Some x) (can : is_some (step program s p) ≡ true) where
  -- who can step doesn't rest
  not_resting : action_of program x ≡ Rest → ⊥
  not_resting does = cc (sym (rests (play_of program) s p x is (ap (λ a. need_in (ask_for program x a)) does)) ∙ can)

  pub under_way : IsReached (step program) (first program) s → IsUnderWay program x
  under_way reached =
      let along : IsOwned (language program) s × AreLive program s = subst (λ (t : State Proc). IsOwned (language program) t × AreLive program t) reached.2 (live_along program reached.0 reached.1) in
      record {
        live = along.1.0 p x is;
        unended = λ ended. not_resting (ap (action_in program x.execution) ended);
        unfaulted = λ fault. not_resting (ap (action_in program x.execution) fault.2);
      }
