use Rattle.std.proofs.Common.{arith}
use Rattle.fm_net.specs.Machine.{child_changes}
use Rattle.fm_nodes_procs.specs.Processes.{order_of}
use Rattle.fm_nodes_procs.proofs.Kept.{low}
use Rattle.fm_nodes_hosts.proofs.Carrying.{finished}
use Rattle.fm_nodes_hosts.proofs.finishing.finish.Goals as goal

pub one_step-requires : goal.one_step-requires
one_step-requires g c =
    let old = c.args.state.now.processes in
    omega (arith, low (order_of old) c.args.number c.args.path.now c.requires.who, old.few, old.rows.each)

pub returns : goal.returns
returns g c = λ b all.
    let r = c.args.runner.now in
    finished (g.R.Runner.seen r) c.args.state.now c.args.path.now c.args.number c.args.block c.args.gone.starts.items (g.R.Runner.let_go r c.args.gone.drops) c.args.gone.cost
    (child_changes (g.R.Runner.language r).emptied c.args.path.now b 1 _) c.start_all.new.processes c.let_go.new.channels c.push_reserved.new.self c.one_step.result
    (c.start_all.ensures.procs b all) c.start_all.ensures.order c.let_go.ensures c.push_reserved.ensures.items c.one_step.ensures
