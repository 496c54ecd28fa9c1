use Rattle.std.proofs.Common.{◌≡◌, drop, map}
use Rattle.fm_mean.specs.Process.{started_ports}
use Rattle.fm_plain_frame.specs.Frames.{start_of}
use Rattle.fm_plain_frame.proofs.emptiness.starts_have_no_port.Given as goal

abbrev pub invariant-starts : goal.invariant-starts
invariant-starts l = started_ports (map (start_of l.program) (drop l.start-index l.starts)) ≡ started_ports (map (start_of l.program) l.starts)
