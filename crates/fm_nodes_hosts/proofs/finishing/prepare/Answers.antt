use Rattle.std.proofs.Common.{refl}
use Rattle.fm_nodes_procs.proofs.Procs.{same_procs}
use Rattle.fm_nodes_hosts.proofs.Carrying.{prepared}
use Rattle.fm_nodes_hosts.proofs.finishing.prepare.Goals as goal

pub returns-clause-same : goal.returns-clause-same
returns-clause-same g c =
    prepared (g.R.Runner.seen c.args.runner.now) c.args.state.now c.reserve.new.self c.reserve-2.new.self c.reserve-2.ensures.items (same_procs (g.R.Runner.seen c.args.runner.now) c.reserve.new.self c.args.state.now.processes c.reserve.ensures.map) c.reserve.ensures.order

pub returns-in_err-reserve-clause-same : goal.returns-in_err-reserve-clause-same
returns-in_err-reserve-clause-same g c =
    prepared (g.R.Runner.seen c.args.runner.now) c.args.state.now c.reserve.new.self c.args.state.now.history refl (same_procs (g.R.Runner.seen c.args.runner.now) c.reserve.new.self c.args.state.now.processes c.reserve.ensures.map) c.reserve.ensures.order

pub returns-in_err-reserve-2-clause-same : goal.returns-in_err-reserve-2-clause-same
returns-in_err-reserve-2-clause-same g c =
    prepared (g.R.Runner.seen c.args.runner.now) c.args.state.now c.reserve.new.self c.reserve-2.new.self c.reserve-2.ensures.items (same_procs (g.R.Runner.seen c.args.runner.now) c.reserve.new.self c.args.state.now.processes c.reserve.ensures.map) c.reserve.ensures.order
