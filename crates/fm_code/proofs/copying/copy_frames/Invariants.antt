use Rattle.std.proofs.Common.{◌≡◌, take}
use Rattle.fm_code.proofs.copying.copy_frames.Given as goal

abbrev pub invariant-frames : goal.invariant-frames
invariant-frames l = l.copies.items ≡ take l.frame-index l.frames
