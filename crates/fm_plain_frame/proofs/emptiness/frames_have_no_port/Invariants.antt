use Rattle.std.proofs.Common.{◌≡◌, drop, map}
use Rattle.fm_mean.specs.Process.{frames_ports}
use Rattle.fm_plain_frame.specs.Frames.{frame_of}
use Rattle.fm_plain_frame.proofs.emptiness.frames_have_no_port.Given as goal

abbrev pub invariant-frames : goal.invariant-frames
invariant-frames l = frames_ports (map (frame_of l.program) (drop l.frame-index l.frames)) ≡ frames_ports (map (frame_of l.program) l.frames)
