use Rattle.std.proofs.Common.{◌≡◌, drop, map}
use Rattle.std.specs.Prelude.{nat_lt}
use Rattle.fm_net.specs.Owned.{count}
use Rattle.fm_mean.specs.Process.{frames_ports}
use Rattle.fm_plain_frame.specs.Frames.{frame_of}
use Rattle.fm_nodes_trees.proofs.holding.frames_have.Given as goal

-- it is among what is left where it is among all
abbrev pub invariant-frames : goal.invariant-frames
invariant-frames l = nat_lt 0 (count l.port (frames_ports (map (frame_of l.program) (drop l.frame-index l.frames)))) ≡ nat_lt 0 (count l.port (frames_ports (map (frame_of l.program) l.frames)))
