use Rattle.std.proofs.Common.{◌≡◌, map, take}
use Rattle.fm_finmap.specs.Map.{map_of}
use Rattle.fm_mean.specs.Outports.{outport_cmp}
use Rattle.fm_mean.specs.Process.{started_ports}
use Rattle.fm_plain_frame.specs.Frames.{start_of}
use Rattle.fm_run.specs.Gathered.{with_held}
use Rattle.fm_plain_net.proofs.holders.put_starts.Given as goal

abbrev pub invariant-starts : goal.invariant-starts
invariant-starts l = map_of outport_cmp l.all ≡ with_held (map_of outport_cmp l.fn.all) l.path (started_ports (map (start_of l.program) (take l.start-index l.starts)))
