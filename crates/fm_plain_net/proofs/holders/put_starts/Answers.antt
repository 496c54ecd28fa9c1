use Rattle.fm_base.specs.Channels.{message_ports}
use Rattle.fm_finmap.specs.Map.{map_of}
use Rattle.fm_mean.specs.Outports.{outport_cmp}
use Rattle.fm_mean.specs.Process.{Start}
use Rattle.fm_plain_frame.specs.Frames.{start_of}
use Rattle.fm_plain_net.proofs.Holding.{held_next}
use Rattle.fm_plain_net.proofs.holders.put_starts.Goals as goal

pub starts-preserved : goal.starts-preserved
starts-preserved c =
    held_next (λ (s : Start). message_ports s.values) (start_of c.args.program.now) (map_of outport_cmp c.args.all.now) (map_of outport_cmp c.starts.all) (map_of outport_cmp c.put_start.new.all) c.args.path.now c.args.starts.now c.starts.start-index c.start-item.result
    c.starts-test.true c.start-item.is c.starts.invariant c.in_ok-put_start.ensures
