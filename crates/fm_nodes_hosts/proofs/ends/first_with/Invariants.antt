use Rattle.std.proofs.Common.{◌≡◌, drop}
use Rattle.fm_nodes_hosts.specs.Ends.{holder}
use Rattle.fm_nodes_procs.specs.Processes.{order_of, procs_of}
use Rattle.fm_nodes_hosts.proofs.ends.first_with.Given as goal

abbrev pub invariant-processes : goal.invariant-processes
invariant-processes g l =
    holder (g.R.Runner.language l.runner) (procs_of (g.R.Runner.seen l.runner) l.processes) (order_of l.processes) l.port
    ≡ holder (g.R.Runner.language l.runner) (procs_of (g.R.Runner.seen l.runner) l.processes) (drop l.number (order_of l.processes)) l.port
