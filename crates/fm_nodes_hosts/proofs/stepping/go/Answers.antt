use Rattle.fm_net.specs.Machine.{Nothing, reply_with}
use Rattle.fm_net.specs.Owned.{main_alone}
use Rattle.fm_nodes_hosts.proofs.Carrying.{left_of, run_same, steps_none, tried_err, who_same}
use Rattle.fm_nodes_hosts.specs.States.{run_of}
use Rattle.std.proofs.Common.{[], refl}
use Rattle.fm_nodes_hosts.proofs.stepping.go.Goals as goal

pub go_on-requires : goal.go_on-requires
go_on-requires g c = who_same (g.R.Runner.seen c.args.runner.now) c.args.state.now c.prepare.new.state c.prepare.ensures.same c.prepare.new.state.processes refl c.args.number c.args.path.now c.requires.who

pub finish-requires : goal.finish-requires
finish-requires g c =
    (let r = c.args.runner.now in
    left_of (g.R.Runner.seen r) c.args.state.now c.prepare.new.state c.prepare.ensures.same (g.R.Runner.language r) (main_alone (g.R.Runner.main r)) (g.met.R.Runner.is_lawful r) (g.met.R.Runner.main_owns r) (g.met.R.Runner.asks_for_words r)
    c.requires.sound c.requires.used c.args.path.now c.args.number c.requires.who (Nothing) c.requires.asks c.args.block c.args.starts c.requires.starts c.in_ok-paths.paths.items c.in_ok-paths.ensures.paths c.in_ok-paths.ensures.entry
    (reply_with []) (refl) c.go_on.new.processes c.prepare.new.state.network.channels c.in_ok-gone.gone.starts.items (g.R.Runner.let_go r c.in_ok-gone.gone.drops) c.in_ok-gone.gone.cost
    (λ y f at asks. c.in_ok-gone.ensures.goes y (Nothing) f at asks (λ b n e. cc e))
    c.in_ok-gone.ensures.few c.go_on.ensures.order (c.go_on.ensures.room c.args.starts c.in_ok-paths.ensures.room) (refl)).ready

pub returns : goal.returns
returns g c =
    steps_none (let r = c.args.runner.now in
    left_of (g.R.Runner.seen r) c.args.state.now c.prepare.new.state c.prepare.ensures.same (g.R.Runner.language r) (main_alone (g.R.Runner.main r)) (g.met.R.Runner.is_lawful r) (g.met.R.Runner.main_owns r) (g.met.R.Runner.asks_for_words r)
    c.requires.sound c.requires.used c.args.path.now c.args.number c.requires.who (Nothing) c.requires.asks c.args.block c.args.starts c.requires.starts c.in_ok-paths.paths.items c.in_ok-paths.ensures.paths c.in_ok-paths.ensures.entry
    (reply_with []) (refl) c.go_on.new.processes c.prepare.new.state.network.channels c.in_ok-gone.gone.starts.items (g.R.Runner.let_go r c.in_ok-gone.gone.drops) c.in_ok-gone.gone.cost
    (λ y f at asks. c.in_ok-gone.ensures.goes y (Nothing) f at asks (λ b n e. cc e))
    c.in_ok-gone.ensures.few c.go_on.ensures.order (c.go_on.ensures.room c.args.starts c.in_ok-paths.ensures.room) (refl)) refl c.finish.new.state c.new.result.items c.new.ensures.items c.finish.ensures

pub returns-in_err-gone : goal.returns-in_err-gone
returns-in_err-gone g c =
    tried_err (g.R.Runner.language c.args.runner.now) c.args.path.now (run_of (g.R.Runner.seen c.args.runner.now) c.args.state.now) _ c.from_residual-in_err-gone.result c.from_residual-in_err-gone.ensures.0
    (run_same (g.R.Runner.seen c.args.runner.now) c.args.state.now c.prepare.new.state c.prepare.ensures.same c.go_on.new.processes c.prepare.new.state.network.channels c.go_on.ensures.order c.in_err-gone.ensures.err refl)
