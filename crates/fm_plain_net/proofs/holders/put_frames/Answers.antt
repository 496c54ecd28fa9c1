use Rattle.std.proofs.Common.{◌-◌, arith}
use Rattle.fm_finmap.specs.Map.{map_of}
use Rattle.fm_mean.specs.Outports.{outport_cmp}
use Rattle.fm_plain_frame.specs.Frames.{frame_of}
use Rattle.fm_plain_net.proofs.Holding.{held_frame}
use Rattle.fm_plain_net.proofs.holders.put_frames.Goals as goal

pub frames-preserved : goal.frames-preserved
frames-preserved c =
    held_frame (frame_of c.args.program.now) (map_of outport_cmp c.args.all.now) (map_of outport_cmp c.frames.all) (map_of outport_cmp c.put_frame.new.all) c.args.path.now c.args.frames.now (c.frames.k - 1) c.frames.k c.index-frames-k.result
    (omega arith) (omega arith) c.index-frames-k.is c.frames.invariant c.in_ok-put_frame.ensures
