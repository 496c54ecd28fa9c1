use Rattle.std.proofs.Common.{ap, ◌∙◌}
use Rattle.std.specs.FinMap.{get}
use Rattle.fm_net.specs.Machine.{Place}
use Rattle.fm_nodes_hosts.specs.Ends.{host_by}
use Rattle.fm_nodes_procs.specs.Processes.{procs_of}
use Rattle.fm_nodes_hosts.proofs.ends.end_host.Goals as goal

pub returns : goal.returns
returns g c =
    let r = c.args.runner.now in
    c.host_at.ensures ∙ ap (λ (p : Place). host_by (g.R.Runner.host r) (get (procs_of (g.R.Runner.seen r) c.args.processes.now) p)) c.in_ok-path.ensures
