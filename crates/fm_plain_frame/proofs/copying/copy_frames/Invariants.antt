use Rattle.std.proofs.Common.{◌≡◌, map, take}
use Rattle.fm_plain_frame.specs.Frames.{frame_of}
use Rattle.fm_plain_frame.proofs.copying.copy_frames.Given as goal

abbrev pub invariant-frames : goal.invariant-frames
invariant-frames l = map (frame_of l.program) l.all.items ≡ map (frame_of l.program) (take l.frame-index l.frames)
