use Rattle.std.proofs.Common.{None, Some, ap, sym, ◌∙◌}
use Rattle.fm_nodes_hosts.specs.Ends.{host_by}
use Rattle.fm_nodes_procs.specs.Processes.{order_of}
use Rattle.fm_nodes_procs.proofs.Kept.{low}
use Rattle.fm_nodes_procs.proofs.Procs.{there}
use Rattle.fm_nodes_hosts.proofs.ends.host_at.Goals as goal

pub get-requires : goal.get-requires
get-requires g c = low (order_of c.args.processes.now) c.in-Some.number c.args.path.now c.in-Some.ensures.there

pub returns-in-Some : goal.returns-in-Some
returns-in-Some g c =
    let r = c.args.runner.now in
    c.host.ensures ∙ sym (ap (host_by (g.R.Runner.host r)) (there (g.R.Runner.seen r) c.args.processes.now c.args.path.now (Some c.get.result.now) (sym (c.get.ensures c.args.path.now c.in-Some.ensures.there))))

pub returns-in-None : goal.returns-in-None
returns-in-None g c =
    let r = c.args.runner.now in
    sym (ap (host_by (g.R.Runner.host r)) (there (g.R.Runner.seen r) c.args.processes.now c.args.path.now None (sym c.in-None.ensures.none)))
