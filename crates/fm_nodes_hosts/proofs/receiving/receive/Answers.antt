use Rattle.fm_base.specs.Channels.{Pop}
use Rattle.fm_net.specs.Machine.{Event}
use Rattle.fm_net.specs.Owned.{main_alone}
use Rattle.fm_nodes_hosts.proofs.Carrying.{left_of, linked_same, run_same, steps_none, tried_err, unserved, who_same}
use Rattle.fm_nodes_hosts.proofs.Received.{arrived_at, received, replies, served_so}
use Rattle.fm_nodes_hosts.specs.States.{run_of}
use Rattle.fm_nodes_network.specs.Channels.{linked_chans_of}
use Rattle.fm_nodes_procs.specs.Processes.{procs_of}
use Rattle.std.proofs.Common.{None, Some, ap, refl, ◌∙◌}
use Rattle.std.specs.FinMap.{get}
use Rattle.fm_nodes_hosts.proofs.receiving.receive.Goals as goal

pub go_with-requires : goal.go_with-requires
go_with-requires g c = who_same (g.R.Runner.seen c.args.runner.now) c.args.state.now c.prepare.new.state c.prepare.ensures.same c.prepare.new.state.processes refl c.args.number c.args.path.now c.requires.who

pub finish-requires : goal.finish-requires
finish-requires g c =
    (let r = c.args.runner.now in
    left_of (g.R.Runner.seen r) c.args.state.now c.prepare.new.state c.prepare.ensures.same (g.R.Runner.language r) (main_alone (g.R.Runner.main r)) (g.met.R.Runner.is_lawful r) (g.met.R.Runner.main_owns r) (g.met.R.Runner.asks_for_words r)
    c.requires.sound c.requires.used c.args.path.now c.args.number c.requires.who (Event c.args.channel.now (Pop c.args.limits.now)) c.requires.asks c.args.block c.args.starts c.requires.starts c.in_ok-paths.paths.items c.in_ok-paths.ensures.paths c.in_ok-paths.ensures.entry
    ((replies c.args.limits.now c.in-Some.load.now).0) (served_so c.args.limits.now (linked_chans_of c.args.state.now.network.channels) c.args.channel.now (Some c.in-Some.load.now) (c.in-Some.ensures ∙ ap (λ ks. arrived_at (get ks c.args.channel.now)) (linked_same (g.R.Runner.seen c.args.runner.now) c.args.state.now c.prepare.new.state c.prepare.ensures.same)) (g.R.Runner.language r).has_ended (procs_of (g.R.Runner.seen r) c.args.state.now.processes) c.args.path.now ∙ (replies c.args.limits.now c.in-Some.load.now).1) c.go_with.new.processes c.take_if.new.channels c.in_ok-receipt-in-Some.receipt.gone.starts.items (g.R.Runner.let_go r c.in_ok-receipt-in-Some.receipt.gone.drops) c.in_ok-receipt-in-Some.receipt.gone.cost
    (λ y f at asks. c.in_ok-receipt-in-Some.ensures.goes y c.args.channel.now f at asks (replies c.args.limits.now c.in-Some.load.now).0 (replies c.args.limits.now c.in-Some.load.now).1)
    c.in_ok-receipt-in-Some.ensures.few c.go_with.ensures.order (c.go_with.ensures.room c.args.starts c.in_ok-paths.ensures.room) (c.take_if.ensures ∙ received c.args.limits.now (linked_chans_of c.prepare.new.state.network.channels) c.args.channel.now c.in-Some.load.now c.in-Some.ensures c.in_ok-receipt-in-Some.receipt.takes c.in_ok-receipt-in-Some.ensures.takes)).ready

pub returns-in_ok-receipt-in-Some : goal.returns-in_ok-receipt-in-Some
returns-in_ok-receipt-in-Some g c =
    steps_none (let r = c.args.runner.now in
    left_of (g.R.Runner.seen r) c.args.state.now c.prepare.new.state c.prepare.ensures.same (g.R.Runner.language r) (main_alone (g.R.Runner.main r)) (g.met.R.Runner.is_lawful r) (g.met.R.Runner.main_owns r) (g.met.R.Runner.asks_for_words r)
    c.requires.sound c.requires.used c.args.path.now c.args.number c.requires.who (Event c.args.channel.now (Pop c.args.limits.now)) c.requires.asks c.args.block c.args.starts c.requires.starts c.in_ok-paths.paths.items c.in_ok-paths.ensures.paths c.in_ok-paths.ensures.entry
    ((replies c.args.limits.now c.in-Some.load.now).0) (served_so c.args.limits.now (linked_chans_of c.args.state.now.network.channels) c.args.channel.now (Some c.in-Some.load.now) (c.in-Some.ensures ∙ ap (λ ks. arrived_at (get ks c.args.channel.now)) (linked_same (g.R.Runner.seen c.args.runner.now) c.args.state.now c.prepare.new.state c.prepare.ensures.same)) (g.R.Runner.language r).has_ended (procs_of (g.R.Runner.seen r) c.args.state.now.processes) c.args.path.now ∙ (replies c.args.limits.now c.in-Some.load.now).1) c.go_with.new.processes c.take_if.new.channels c.in_ok-receipt-in-Some.receipt.gone.starts.items (g.R.Runner.let_go r c.in_ok-receipt-in-Some.receipt.gone.drops) c.in_ok-receipt-in-Some.receipt.gone.cost
    (λ y f at asks. c.in_ok-receipt-in-Some.ensures.goes y c.args.channel.now f at asks (replies c.args.limits.now c.in-Some.load.now).0 (replies c.args.limits.now c.in-Some.load.now).1)
    c.in_ok-receipt-in-Some.ensures.few c.go_with.ensures.order (c.go_with.ensures.room c.args.starts c.in_ok-paths.ensures.room) (c.take_if.ensures ∙ received c.args.limits.now (linked_chans_of c.prepare.new.state.network.channels) c.args.channel.now c.in-Some.load.now c.in-Some.ensures c.in_ok-receipt-in-Some.receipt.takes c.in_ok-receipt-in-Some.ensures.takes)) refl c.finish.new.state c.new.result.items c.new.ensures.items c.finish.ensures

pub returns-in_err-receipt-in-Some : goal.returns-in_err-receipt-in-Some
returns-in_err-receipt-in-Some g c =
    tried_err (g.R.Runner.language c.args.runner.now) c.args.path.now (run_of (g.R.Runner.seen c.args.runner.now) c.args.state.now) _ c.from_residual-in_err-receipt-in-Some.result c.from_residual-in_err-receipt-in-Some.ensures.0
    (run_same (g.R.Runner.seen c.args.runner.now) c.args.state.now c.prepare.new.state c.prepare.ensures.same c.go_with.new.processes c.prepare.new.state.network.channels c.go_with.ensures.order c.in_err-receipt-in-Some.ensures.err refl)

pub returns-in-None : goal.returns-in-None
returns-in-None g c =
    let r = c.args.runner.now in (
      unserved (g.R.Runner.seen r) c.args.state.now c.prepare.new.state c.prepare.ensures.same (g.R.Runner.language r) (main_alone (g.R.Runner.main r)) (g.met.R.Runner.is_lawful r) (g.met.R.Runner.main_owns r) (g.met.R.Runner.asks_for_words r)
          c.requires.sound c.requires.used c.args.path.now c.args.number c.requires.who (Event c.args.channel.now (Pop c.args.limits.now)) c.requires.asks (served_so c.args.limits.now (linked_chans_of c.args.state.now.network.channels) c.args.channel.now None (c.in-None.ensures ∙ ap (λ ks. arrived_at (get ks c.args.channel.now)) (linked_same (g.R.Runner.seen c.args.runner.now) c.args.state.now c.prepare.new.state c.prepare.ensures.same)) (g.R.Runner.language r).has_ended (procs_of (g.R.Runner.seen r) c.args.state.now.processes) c.args.path.now),
      c.prepare.ensures.same,
    )
