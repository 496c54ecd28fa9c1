use Rattle.std.proofs.Common.{subst, arith}
use Rattle.std.proofs.lemmas.List.{take_all}
use Rattle.fm_base.specs.PathOrder.{channel_cmp}
use Rattle.fm_finmap.specs.Map.{map_of}
use Rattle.fm_nodes_hosts.specs.Ends.{outlasts}
use Rattle.fm_nodes_procs.specs.Processes.{order_of, procs_of}
use Rattle.fm_nodes_hosts.proofs.Restarting.{AreKnown, judged_more, judged_so, none_so}
use Rattle.fm_nodes_hosts.proofs.ends.judge.Goals as goal

pub things-init : goal.things-init
things-init g c = let r = c.args.runner.now in record { so = none_so (outlasts (g.R.Runner.language r) (g.R.Runner.host r) (procs_of (g.R.Runner.seen r) c.args.processes.now) (order_of c.args.processes.now) c.args.host) (map_of channel_cmp c.new-by_name.result) c.new-by_name.ensures; known = tt }

pub things-preserved : goal.things-preserved
things-preserved g c =
    let r = c.args.runner.now in
    let all = judged_more (outlasts (g.R.Runner.language r) (g.R.Runner.host r) (procs_of (g.R.Runner.seen r) c.args.processes.now) (order_of c.args.processes.now) c.args.host) (map_of channel_cmp c.things.by_name) (map_of channel_cmp c.insert.new.self) c.in_ok-copy.field-0 c.in_ok-is_kept.is_kept c.args.wire.now c.things.carried-index c.carried-item.result
    c.things.invariant.so c.things.invariant.known c.in_ok-insert.ensures.ok c.in_ok-copy.ensures c.in_ok-is_kept.ensures c.things-test.true c.carried-item.is in
    record { so = all.0; known = all.1 }

pub returns : goal.returns
returns g c =
    let r = c.args.runner.now in
    let m = map_of channel_cmp c.things.by_name in
    judged_so (outlasts (g.R.Runner.language r) (g.R.Runner.host r) (procs_of (g.R.Runner.seen r) c.args.processes.now) (order_of c.args.processes.now) c.args.host) m c.args.wire.now c.things.invariant.so (subst (AreKnown m) (take_all c.things.carried-index c.args.wire.now (omega (arith, c.things-test.false))) c.things.invariant.known)
