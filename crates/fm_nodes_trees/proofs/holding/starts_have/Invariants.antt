use Rattle.std.proofs.Common.{◌≡◌, drop, map}
use Rattle.std.specs.Prelude.{nat_lt}
use Rattle.fm_net.specs.Owned.{count}
use Rattle.fm_mean.specs.Process.{started_ports}
use Rattle.fm_plain_frame.specs.Frames.{start_of}
use Rattle.fm_nodes_trees.proofs.holding.starts_have.Given as goal

-- it is among what is left where it is among all
abbrev pub invariant-starts : goal.invariant-starts
invariant-starts l = nat_lt 0 (count l.port (started_ports (map (start_of l.program) (drop l.start-index l.starts)))) ≡ nat_lt 0 (count l.port (started_ports (map (start_of l.program) l.starts)))
