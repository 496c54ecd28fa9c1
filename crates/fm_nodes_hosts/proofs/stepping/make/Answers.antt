use Rattle.fm_finmap.proofs.Inserts.{remove_back}
use Rattle.fm_finmap.proofs.Keys.{channel_order}
use Rattle.fm_link_law.specs.Channels.{new_linked}
use Rattle.fm_net.specs.Machine.{New, Place, reply_with}
use Rattle.fm_net.specs.Owned.{main_alone, name_of}
use Rattle.fm_nodes_hosts.proofs.Carrying.{left_of, linked_same, new_name, run_same, steps_none, tried_err, who_same}
use Rattle.fm_nodes_hosts.specs.States.{run_of}
use Rattle.fm_nodes_network.specs.Channels.{linked_chans_of}
use Rattle.std.proofs.Common.{None, [], ap, cond, refl, ◌∙◌, ◌≡◌}
use Rattle.std.specs.FinMap.{get, insert, remove}
use Rattle.fm_nodes_hosts.proofs.stepping.make.Goals as goal

pub go_on-requires : goal.go_on-requires
go_on-requires g c = who_same (g.R.Runner.seen c.args.runner.now) c.args.state.now c.prepare.new.state c.prepare.ensures.same c.prepare.new.state.processes refl c.args.number c.args.path.now c.requires.who

pub finish-requires : goal.finish-requires
finish-requires g c =
    (let r = c.args.runner.now in
    left_of (g.R.Runner.seen r) c.args.state.now c.prepare.new.state c.prepare.ensures.same (g.R.Runner.language r) (main_alone (g.R.Runner.main r)) (g.met.R.Runner.is_lawful r) (g.met.R.Runner.main_owns r) (g.met.R.Runner.asks_for_words r)
    c.requires.sound c.requires.used c.args.path.now c.args.number c.requires.who (New c.args.at (cond c.args.has_writer 1 0)) c.requires.asks c.args.block c.args.starts c.requires.starts c.in_ok-paths.paths.items c.in_ok-paths.ensures.paths c.in_ok-paths.ensures.entry
    (reply_with []) (refl) c.go_on.new.processes c.make.new.self c.in-Ok.gone.starts.items (g.R.Runner.let_go r c.in-Ok.gone.drops) c.in-Ok.gone.cost
    (λ y f at asks. c.in-Ok.ensures.goes y (New c.args.at (cond c.args.has_writer 1 0)) f at asks (λ b n e. cc e))
    c.in-Ok.ensures.few c.go_on.ensures.order (c.go_on.ensures.room c.args.starts c.in_ok-paths.ensures.room) (c.in_ok-make.ensures.ok ∙ ap (λ (p : Place). insert (linked_chans_of c.prepare.new.state.network.channels) (name_of p c.args.at) (new_linked (cond c.args.has_writer 1 0))) c.in_ok-copy.ensures)).ready

pub returns-in-Ok : goal.returns-in-Ok
returns-in-Ok g c =
    steps_none (let r = c.args.runner.now in
    left_of (g.R.Runner.seen r) c.args.state.now c.prepare.new.state c.prepare.ensures.same (g.R.Runner.language r) (main_alone (g.R.Runner.main r)) (g.met.R.Runner.is_lawful r) (g.met.R.Runner.main_owns r) (g.met.R.Runner.asks_for_words r)
    c.requires.sound c.requires.used c.args.path.now c.args.number c.requires.who (New c.args.at (cond c.args.has_writer 1 0)) c.requires.asks c.args.block c.args.starts c.requires.starts c.in_ok-paths.paths.items c.in_ok-paths.ensures.paths c.in_ok-paths.ensures.entry
    (reply_with []) (refl) c.go_on.new.processes c.make.new.self c.in-Ok.gone.starts.items (g.R.Runner.let_go r c.in-Ok.gone.drops) c.in-Ok.gone.cost
    (λ y f at asks. c.in-Ok.ensures.goes y (New c.args.at (cond c.args.has_writer 1 0)) f at asks (λ b n e. cc e))
    c.in-Ok.ensures.few c.go_on.ensures.order (c.go_on.ensures.room c.args.starts c.in_ok-paths.ensures.room) (c.in_ok-make.ensures.ok ∙ ap (λ (p : Place). insert (linked_chans_of c.prepare.new.state.network.channels) (name_of p c.args.at) (new_linked (cond c.args.has_writer 1 0))) c.in_ok-copy.ensures)) refl c.finish.new.state c.new.result.items c.new.ensures.items c.finish.ensures

pub returns-in_err-make : goal.returns-in_err-make
returns-in_err-make g c =
    tried_err (g.R.Runner.language c.args.runner.now) c.args.path.now (run_of (g.R.Runner.seen c.args.runner.now) c.args.state.now) _ c.from_residual-in_err-make.result c.from_residual-in_err-make.ensures.0
    (run_same (g.R.Runner.seen c.args.runner.now) c.args.state.now c.prepare.new.state c.prepare.ensures.same c.prepare.new.state.processes c.make.new.self refl refl (ap linked_chans_of c.in_err-make.ensures.err))

-- the channel that was made is gone again
pub returns-in-Err : goal.returns-in-Err
returns-in-Err g c =
    let r = c.args.runner.now in
    let ls = linked_chans_of c.prepare.new.state.network.channels in
    let l = new_linked (cond c.args.has_writer 1 0) in
    let name = name_of c.in_ok-copy.field-0 c.args.at in
    let is_new : get ls name ≡ None = ap (λ ks. get ks name) (linked_same (g.R.Runner.seen r) c.args.state.now c.prepare.new.state c.prepare.ensures.same)
    ∙ ap (λ (p : Place). get (linked_chans_of c.args.state.now.network.channels) (name_of p c.args.at)) c.in_ok-copy.ensures
    ∙ new_name (g.R.Runner.seen r) c.args.state.now (g.R.Runner.language r) c.args.path.now c.args.number c.requires.who (main_alone (g.R.Runner.main r)) (g.met.R.Runner.is_lawful r) (g.met.R.Runner.main_owns r) (g.met.R.Runner.asks_for_words r)
    c.requires.sound c.args.at (cond c.args.has_writer 1 0) c.requires.asks in
    let gone : linked_chans_of c.unmake.new.self ≡ ls = c.unmake.ensures ∙ ap (remove (linked_chans_of c.make.new.self)) c.in_ok-known.ensures ∙ ap (λ ks. remove ks name) c.in_ok-make.ensures.ok ∙ remove_back channel_order ls name l is_new in
    run_same (g.R.Runner.seen c.args.runner.now) c.args.state.now c.prepare.new.state c.prepare.ensures.same c.go_on.new.processes c.unmake.new.self c.go_on.ensures.order c.in-Err.ensures.err gone
