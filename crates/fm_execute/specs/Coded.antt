-- The good processes of an image do and need what its processes of stack code do.
-- Source: this profile.
use Rattle.std.proofs.Common.{sym, ap, ◌∙◌}
use Rattle.fm_object.specs.declared.image.Image.{Image}
use Rattle.fm_proc_language.specs.Needs.{is_local, need_of}
use Rattle.fm_proc_language.specs.Processes.{CodeProc, has_ended}
use Rattle.fm_procs.specs.Readings.{awaits}
use Rattle.fm_execute_image.specs.Play.{IsBare, IsLive, good_play}
use Rattle.fm_execute_image.proofs.Played.{lawful_play, live_alike, needs_alike}
use Rattle.fm_run_code.specs.Coded.{IsCoded}

pub image_coded : (i : Image) → IsCoded (good_play i) (IsBare i) (IsLive i)
image_coded i = record {
  alike = live_alike i;
  lawful = λ s live. lawful_play i live.typed;
  owned = λ s live. live.owned;
  ended = λ g y is. ap has_ended is;
  next_block = λ g y is. ap (λ (z : CodeProc). z.next_block) is;
  awaits = λ g y is. ap awaits is;
  local = λ s live q g y at is. ap is_local is;
  needs = λ s live q g y at is. ap need_of is ∙ sym (needs_alike i g);
}
