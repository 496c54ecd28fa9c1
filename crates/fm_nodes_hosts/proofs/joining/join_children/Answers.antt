use Rattle.fm_net.specs.Machine.{Children, gathered, made, reply_with}
use Rattle.fm_net.specs.Owned.{main_alone}
use Rattle.fm_nodes_hosts.proofs.Carrying.{left_of, order_same, run_same, steps_all, tried_err, unserved, who_same}
use Rattle.fm_nodes_hosts.specs.States.{run_of}
use Rattle.fm_nodes_procs.proofs.Family.{numbered_same}
use Rattle.fm_nodes_procs.specs.Children.{AreNumbered}
use Rattle.fm_nodes_procs.specs.Processes.{order_of, procs_of}
use Rattle.std.proofs.Common.{Some, ap, length, refl, subst, sym, ℕ, ◌∙◌, ◌≡◌}
use Rattle.std.specs.Prelude.{option_map}
use Rattle.fm_nodes_hosts.proofs.joining.join_children.Goals as goal

pub join-requires : goal.join-requires
join-requires g c = who_same (g.R.Runner.seen c.args.runner.now) c.args.state.now c.prepare.new.state c.prepare.ensures.same c.prepare.new.state.processes refl c.args.number c.args.path.now c.requires.who

pub finish-requires : goal.finish-requires
finish-requires g c =
    (let r = c.args.runner.now in
    left_of (g.R.Runner.seen r) c.args.state.now c.prepare.new.state c.prepare.ensures.same (g.R.Runner.language r) (main_alone (g.R.Runner.main r)) (g.met.R.Runner.is_lawful r) (g.met.R.Runner.main_owns r) (g.met.R.Runner.asks_for_words r)
    c.requires.sound c.requires.used c.args.path.now c.args.number c.requires.who (Children c.args.of c.args.count) c.requires.asks c.args.block c.args.starts c.requires.starts c.in_ok-paths-in-Some.paths.items c.in_ok-paths-in-Some.ensures.paths c.in_ok-paths-in-Some.ensures.entry
    (reply_with (rw c.in-Some.is at c.in_ok-children.ensures.all).0) (ap (option_map reply_with) (rw c.in-Some.is at c.in_ok-children.ensures.all).1) c.join.new.processes c.prepare.new.state.network.channels c.in_ok-gone-in-Some.gone.starts.items (g.R.Runner.let_go r c.in_ok-gone-in-Some.gone.drops) c.in_ok-gone-in-Some.gone.cost
    (λ y f at asks. c.in_ok-gone-in-Some.ensures.goes y c.args.of c.args.count f (rw c.in-Some.is at c.in_ok-children.ensures.all).0 at asks (c.in_ok-left-in-Some.ensures (rw c.in-Some.is at c.in_ok-children.ensures.all).0 (subst (λ (n : ℕ). gathered (g.R.Runner.language r).has_ended (procs_of (g.R.Runner.seen r) c.args.state.now.processes) c.args.path.now c.args.of 1 n ≡ Some (rw c.in-Some.is at c.in_ok-children.ensures.all).0) (sym (ap length c.as_slice.ensures.value ∙ (rw c.in-Some.is at c.in_ok-children.ensures.count))) (rw c.in-Some.is at c.in_ok-children.ensures.all).1)) (made c.args.path.now (Children c.args.of c.args.count)))
    c.in_ok-gone-in-Some.ensures.few c.join.ensures.order (c.join.ensures.room c.args.starts c.in_ok-paths-in-Some.ensures.room) (refl)).ready

pub returns-in_ok-gone-in-Some : goal.returns-in_ok-gone-in-Some
returns-in_ok-gone-in-Some g c =
    steps_all (let r = c.args.runner.now in
    left_of (g.R.Runner.seen r) c.args.state.now c.prepare.new.state c.prepare.ensures.same (g.R.Runner.language r) (main_alone (g.R.Runner.main r)) (g.met.R.Runner.is_lawful r) (g.met.R.Runner.main_owns r) (g.met.R.Runner.asks_for_words r)
    c.requires.sound c.requires.used c.args.path.now c.args.number c.requires.who (Children c.args.of c.args.count) c.requires.asks c.args.block c.args.starts c.requires.starts c.in_ok-paths-in-Some.paths.items c.in_ok-paths-in-Some.ensures.paths c.in_ok-paths-in-Some.ensures.entry
    (reply_with (rw c.in-Some.is at c.in_ok-children.ensures.all).0) (ap (option_map reply_with) (rw c.in-Some.is at c.in_ok-children.ensures.all).1) c.join.new.processes c.prepare.new.state.network.channels c.in_ok-gone-in-Some.gone.starts.items (g.R.Runner.let_go r c.in_ok-gone-in-Some.gone.drops) c.in_ok-gone-in-Some.gone.cost
    (λ y f at asks. c.in_ok-gone-in-Some.ensures.goes y c.args.of c.args.count f (rw c.in-Some.is at c.in_ok-children.ensures.all).0 at asks (c.in_ok-left-in-Some.ensures (rw c.in-Some.is at c.in_ok-children.ensures.all).0 (subst (λ (n : ℕ). gathered (g.R.Runner.language r).has_ended (procs_of (g.R.Runner.seen r) c.args.state.now.processes) c.args.path.now c.args.of 1 n ≡ Some (rw c.in-Some.is at c.in_ok-children.ensures.all).0) (sym (ap length c.as_slice.ensures.value ∙ (rw c.in-Some.is at c.in_ok-children.ensures.count))) (rw c.in-Some.is at c.in_ok-children.ensures.all).1)) (made c.args.path.now (Children c.args.of c.args.count)))
    c.in_ok-gone-in-Some.ensures.few c.join.ensures.order (c.join.ensures.room c.args.starts c.in_ok-paths-in-Some.ensures.room) (refl)) c.finish.new.state c.in-Some.children.items (rw c.in-Some.is at c.in_ok-children.ensures.count)
    (numbered_same (order_of c.args.state.now.processes) (order_of c.join.new.processes) (sym (c.join.ensures.order ∙ order_same (g.R.Runner.seen c.args.runner.now) c.args.state.now c.prepare.new.state c.prepare.ensures.same)) c.args.path.now c.args.of 1 c.in-Some.children.items (rw c.in-Some.is at c.in_ok-children.ensures.numbers))
    c.finish.ensures

pub returns-in_err-gone-in-Some : goal.returns-in_err-gone-in-Some
returns-in_err-gone-in-Some g c =
    tried_err (g.R.Runner.language c.args.runner.now) c.args.path.now (run_of (g.R.Runner.seen c.args.runner.now) c.args.state.now) _ c.from_residual-in_err-gone-in-Some.result c.from_residual-in_err-gone-in-Some.ensures.0
    (run_same (g.R.Runner.seen c.args.runner.now) c.args.state.now c.prepare.new.state c.prepare.ensures.same c.join.new.processes c.prepare.new.state.network.channels c.join.ensures.order c.in_err-gone-in-Some.ensures.err refl)

pub lefts-requires : goal.lefts-requires
lefts-requires g c = subst (λ ns. AreNumbered (order_of c.args.state.now.processes) c.args.path.now c.args.of 1 ns) (sym c.as_slice.ensures.value) (rw c.in-Some.is at c.in_ok-children.ensures.numbers)

pub returns-in-None : goal.returns-in-None
returns-in-None g c =
    let r = c.args.runner.now in (
      unserved (g.R.Runner.seen r) c.args.state.now c.args.state.now refl (g.R.Runner.language r) (main_alone (g.R.Runner.main r)) (g.met.R.Runner.is_lawful r) (g.met.R.Runner.main_owns r) (g.met.R.Runner.asks_for_words r)
          c.requires.sound c.requires.used c.args.path.now c.args.number c.requires.who (Children c.args.of c.args.count) c.requires.asks (ap (option_map reply_with) (rw c.in-None.is at c.in_ok-children.ensures.none)),
      refl,
    )
