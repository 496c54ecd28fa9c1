use Rattle.std.proofs.Common.{Bool, true, ap, subst}
use Rattle.std.specs.Prelude.{unwrap_or}
use Rattle.std.specs.FinMap.{get}
use Rattle.fm_base.specs.PathOrder.{channel_cmp}
use Rattle.fm_base.specs.declared.path.ChanName.{ChanName}
use Rattle.fm_finmap.specs.Map.{map_of}
use Rattle.fm_nodes_hosts.specs.Ends.{AreJudged, outlasts}
use Rattle.fm_nodes_hosts.specs.Runs.{with_hosts}
use Rattle.fm_nodes_hosts.specs.States.{run_of}
use Rattle.fm_nodes_procs.specs.Processes.{order_of, procs_of}
use Rattle.fm_nodes_hosts.proofs.Restarting.{restarted_in}
use Rattle.fm_nodes_hosts.proofs.ends.restart.Goals as goal

pub returns-clause-ok : goal.returns-clause-ok
returns-clause-ok g c =
    let r = c.args.runner.now in
    let s = c.args.state.now in
    let one : ChanName → Bool = λ ch. unwrap_or (get (map_of channel_cmp c.in_ok-judged.judged.by_name) ch) true in
    let other = outlasts (g.R.Runner.language r) (g.R.Runner.host r) (procs_of (g.R.Runner.seen r) s.processes) (order_of s.processes) c.args.host in
    ap (with_hosts (run_of (g.R.Runner.seen r) s)) (restarted_in (g.R.Runner.seen r) s.processes s.network c.restart.new.self one other c.restart.ensures
    (subst (λ cs. AreJudged one other cs) c.as_slice.ensures.value c.in_ok-judged.ensures))
