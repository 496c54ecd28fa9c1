-- The processes of a program do and need what its processes of stack code do.
-- Source: this profile.
use Rattle.std.proofs.Common.{◌∙◌}
use Rattle.fm_rules.specs.declared.program.Program.{Program}
use Rattle.fm_mean.specs.Steps.{ask}
use Rattle.fm_proc_simulation.specs.Corresponds.{Corresponds, IsLive}
use Rattle.fm_proc_simulation.proofs.Alike.{correspondence, machines_alike}
use Rattle.fm_proc_simulation.proofs.Asking.{local_alike, needs_alike}
use Rattle.fm_proc_simulation.proofs.Awaiting.{same_children}
use Rattle.fm_run.specs.Programs.{play_of}
use Rattle.fm_run.proofs.Programs.{law_of, need_is}
use Rattle.fm_run_code.specs.Coded.{IsCoded}

pub program_coded : (p : Program) → IsCoded (play_of p) (Corresponds p) (IsLive p)
program_coded p = record {
  alike = machines_alike p;
  lawful = λ s live. law_of p;
  owned = λ s live. live.owned;
  ended = λ x y same. (correspondence p).ended x y same;
  next_block = λ x y same. same.next_block;
  awaits = λ x y same. same_children p x y same;
  local = λ s live q x y is same. local_alike p s live q x is y same;
  needs = λ s live q x y is same. needs_alike p s live q x y is same ∙ need_is (ask p x);
}
