use Rattle.std.proofs.Common.{take}
use Rattle.fm_base.specs.PathOrder.{channel_cmp}
use Rattle.fm_finmap.specs.Map.{map_of}
use Rattle.fm_nodes_hosts.specs.Ends.{outlasts}
use Rattle.fm_nodes_procs.specs.Processes.{order_of, procs_of}
use Rattle.fm_nodes_hosts.proofs.Restarting.{AreKnown, AreSo}
use Rattle.fm_nodes_hosts.proofs.ends.judge.Given as goal

abbrev pub invariant-things : goal.invariant-things
invariant-things g l = record {
  so : AreSo (outlasts (g.R.Runner.language l.runner) (g.R.Runner.host l.runner) (procs_of (g.R.Runner.seen l.runner) l.processes) (order_of l.processes) l.host) (map_of channel_cmp l.by_name);
  known : AreKnown (map_of channel_cmp l.by_name) (take l.carried-index l.wire);
}
