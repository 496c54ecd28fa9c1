use Rattle.std.proofs.Common.{◌≡◌, map, drop}
use Rattle.std.specs.Prelude.{reverse}
use Rattle.fm_finmap.specs.Map.{map_of}
use Rattle.fm_mean.specs.Outports.{outport_cmp}
use Rattle.fm_mean.specs.Process.{frames_ports}
use Rattle.fm_plain_frame.specs.Frames.{frame_of}
use Rattle.fm_run.specs.Gathered.{with_held}
use Rattle.fm_plain_net.proofs.holders.put_frames.Given as goal

abbrev pub invariant-frames : goal.invariant-frames
invariant-frames l = map_of outport_cmp l.all ≡ with_held (map_of outport_cmp l.fn.all) l.path (frames_ports (reverse (map (frame_of l.program) (drop l.k l.frames))))
