use Rattle.fm_base.specs.Channels.{Push, Words}
use Rattle.fm_finmap.specs.Changes.{adjust}
use Rattle.fm_link_law.specs.Channels.{pushed}
use Rattle.fm_net.specs.Machine.{Event, reply_with}
use Rattle.fm_net.specs.Owned.{main_alone}
use Rattle.fm_nodes_hosts.proofs.Carrying.{left_of, run_same, steps_none, tried_err, who_same}
use Rattle.fm_nodes_hosts.proofs.Received.{sends_there}
use Rattle.fm_nodes_hosts.specs.States.{run_of}
use Rattle.fm_nodes_procs.specs.Processes.{procs_of}
use Rattle.std.proofs.Common.{[], ap, map, refl, ◌∙◌}
use Rattle.fm_nodes_hosts.proofs.sending.send_there.Goals as goal

pub go_on-requires : goal.go_on-requires
go_on-requires g c = who_same (g.R.Runner.seen c.args.runner.now) c.args.state.now c.prepare.new.state c.prepare.ensures.same c.prepare.new.state.processes refl c.args.number c.args.path.now c.requires.who

pub finish-requires : goal.finish-requires
finish-requires g c =
    (let r = c.args.runner.now in
    left_of (g.R.Runner.seen r) c.args.state.now c.prepare.new.state c.prepare.ensures.same (g.R.Runner.language r) (main_alone (g.R.Runner.main r)) (g.met.R.Runner.is_lawful r) (g.met.R.Runner.main_owns r) (g.met.R.Runner.asks_for_words r)
    c.requires.sound c.requires.used c.args.path.now c.args.number c.requires.who (Event c.args.channel.now (Push c.args.writer (map Words c.args.words))) c.requires.asks c.args.block c.args.starts c.requires.starts c.in_ok-paths.paths.items c.in_ok-paths.ensures.paths c.in_ok-paths.ensures.entry
    (reply_with []) (sends_there _ c.args.channel.now c.args.writer (map Words c.args.words) c.requires.there (g.R.Runner.language r).has_ended (procs_of (g.R.Runner.seen r) c.args.state.now.processes) c.args.path.now) c.go_on.new.processes c.send.new.self c.in_ok-gone.gone.starts.items (g.R.Runner.let_go r c.in_ok-gone.gone.drops) c.in_ok-gone.gone.cost
    (λ y f at asks. c.in_ok-gone.ensures.goes y (Event c.args.channel.now (Push c.args.writer (map Words c.args.words))) f at asks (λ b n e. cc e))
    c.in_ok-gone.ensures.few c.go_on.ensures.order (c.go_on.ensures.room c.args.starts c.in_ok-paths.ensures.room) (c.send.ensures ∙ ap (λ ls. adjust ls c.args.channel.now (pushed (map Words c.args.words))) c.reserve.ensures.same)).ready

pub returns : goal.returns
returns g c =
    steps_none (let r = c.args.runner.now in
    left_of (g.R.Runner.seen r) c.args.state.now c.prepare.new.state c.prepare.ensures.same (g.R.Runner.language r) (main_alone (g.R.Runner.main r)) (g.met.R.Runner.is_lawful r) (g.met.R.Runner.main_owns r) (g.met.R.Runner.asks_for_words r)
    c.requires.sound c.requires.used c.args.path.now c.args.number c.requires.who (Event c.args.channel.now (Push c.args.writer (map Words c.args.words))) c.requires.asks c.args.block c.args.starts c.requires.starts c.in_ok-paths.paths.items c.in_ok-paths.ensures.paths c.in_ok-paths.ensures.entry
    (reply_with []) (sends_there _ c.args.channel.now c.args.writer (map Words c.args.words) c.requires.there (g.R.Runner.language r).has_ended (procs_of (g.R.Runner.seen r) c.args.state.now.processes) c.args.path.now) c.go_on.new.processes c.send.new.self c.in_ok-gone.gone.starts.items (g.R.Runner.let_go r c.in_ok-gone.gone.drops) c.in_ok-gone.gone.cost
    (λ y f at asks. c.in_ok-gone.ensures.goes y (Event c.args.channel.now (Push c.args.writer (map Words c.args.words))) f at asks (λ b n e. cc e))
    c.in_ok-gone.ensures.few c.go_on.ensures.order (c.go_on.ensures.room c.args.starts c.in_ok-paths.ensures.room) (c.send.ensures ∙ ap (λ ls. adjust ls c.args.channel.now (pushed (map Words c.args.words))) c.reserve.ensures.same)) refl c.finish.new.state c.new.result.items c.new.ensures.items c.finish.ensures

pub returns-in_err-reserve : goal.returns-in_err-reserve
returns-in_err-reserve g c =
    tried_err (g.R.Runner.language c.args.runner.now) c.args.path.now (run_of (g.R.Runner.seen c.args.runner.now) c.args.state.now) _ c.from_residual-in_err-reserve.result c.from_residual-in_err-reserve.ensures.0
    (run_same (g.R.Runner.seen c.args.runner.now) c.args.state.now c.prepare.new.state c.prepare.ensures.same c.prepare.new.state.processes c.reserve.new.self refl refl c.reserve.ensures.same)

pub returns-in_err-gone : goal.returns-in_err-gone
returns-in_err-gone g c =
    tried_err (g.R.Runner.language c.args.runner.now) c.args.path.now (run_of (g.R.Runner.seen c.args.runner.now) c.args.state.now) _ c.from_residual-in_err-gone.result c.from_residual-in_err-gone.ensures.0
    (run_same (g.R.Runner.seen c.args.runner.now) c.args.state.now c.prepare.new.state c.prepare.ensures.same c.go_on.new.processes c.reserve.new.self c.go_on.ensures.order c.in_err-gone.ensures.err c.reserve.ensures.same)
