-- What holds between two pieces, and what a piece may rest on.
use Rattle.std.proofs.Common.{◌≡◌, ap₂, subst, sym}
use Rattle.fm_base.specs.Channels.{Chans}
use Rattle.fm_chan.specs.Bodies.{chans_of}
use Rattle.fm_sched.specs.Schedule.{IsReached}
use Rattle.fm_net.specs.Machine.{Place, State}
use Rattle.fm_net_procs.specs.Pieces.{IsNewAlong}
use Rattle.fm_net_procs.proofs.News.{new_along}
use Rattle.fm_rules.specs.declared.program.Program.{Program}
use Rattle.fm_mean.specs.Process.{Proc}
use Rattle.fm_mean.specs.Steps.{first, language, step}
use Rattle.fm_mean.proofs.Lawful.{lawful}
use Rattle.fm_plain_net.specs.Held.{AreFamilies, AreLookedAt, Fits, IsSound}
use Rattle.fm_plain_net.specs.Readings.{Processes, Trees, procs_of, state_of}
use Rattle.fm_run.proofs.Programs.{owned_reached}

pub same_state : (program : Program) (old new : Trees) → new.entries ≡ old.entries → chans_of new.channels ≡ chans_of old.channels → state_of program new ≡ state_of program old
same_state program old new entries chans = ap₂ (λ (x : Processes) (cs : Chans). record { procs = procs_of program x; chans = cs }) entries chans

-- it holds where processes, ports and channels are the same
pub sound_same : (program : Program) (old new : Trees) → new.entries ≡ old.entries → new.work ≡ old.work → chans_of new.channels ≡ chans_of old.channels → IsSound program old → IsSound program new
sound_same program old new entries work chans s = record {
  told = subst (λ (x : Processes). AreLookedAt program x) (sym entries) s.told;
  families = subst (λ (x : Processes). AreFamilies program x) (sym entries) s.families;
  fits = subst (λ w. Fits program w (state_of program new)) (sym work) (subst (Fits program old.work) (sym (same_state program old new entries chans)) s.fits);
}

-- what a process makes is new, wherever its steps lead from a state that is reached
pub new_reached : (program : Program) (s : State Proc) (p : Place) → IsReached (step program) (first program) s → IsNewAlong (language program) s p
new_reached program s p reached = new_along (language program) (lawful program) s (owned_reached program s reached) p
