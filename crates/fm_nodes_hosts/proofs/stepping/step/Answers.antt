use Rattle.std.proofs.Common.{◌≤◌, ℕ, None, Ok, ap, refl, subst, sym, ◌∙◌}
use Rattle.std.specs.Prelude.{slice_get}
use Rattle.fm_net.specs.Owned.{main_alone}
use Rattle.fm_nodes_procs.proofs.Procs.{there}
use Rattle.fm_nodes_hosts.specs.Played.{IsSound}
use Rattle.fm_nodes_hosts.specs.Runs.{IsOwnTried, IsTried, Run}
use Rattle.fm_nodes_hosts.specs.States.{run_of}
use Rattle.fm_nodes_hosts.proofs.Steps.{nobody_steps}
use Rattle.fm_nodes_hosts.proofs.stepping.step.Goals as goal

pub returns-then-branch : goal.returns-then-branch
returns-then-branch g c =
    let r = c.args.runner.now in
    subst (λ b. IsOwnTried (g.R.Runner.language r) c.args.path.now (run_of (g.R.Runner.seen r) c.args.state.now) (run_of (g.R.Runner.seen r) c.step_own.new.state) (Ok b)) c.if-branch.true c.in_ok-step_own-in-Some.ensures

pub step_by-requires-clause-who : goal.step_by-requires-clause-who
step_by-requires-clause-who g c =
    let r = c.args.runner.now in
    let same = subst (λ b. IsOwnTried (g.R.Runner.language r) c.args.path.now (run_of (g.R.Runner.seen r) c.args.state.now) (run_of (g.R.Runner.seen r) c.step_own.new.state) (Ok b)) c.if-branch.false c.in_ok-step_own-in-Some.ensures in
    ap (λ (m : Run _). slice_get m.order c.in-Some.number) same ∙ c.in-Some.ensures.there

pub step_by-requires-clause-sound : goal.step_by-requires-clause-sound
step_by-requires-clause-sound g c =
    let r = c.args.runner.now in
    let same = subst (λ b. IsOwnTried (g.R.Runner.language r) c.args.path.now (run_of (g.R.Runner.seen r) c.args.state.now) (run_of (g.R.Runner.seen r) c.step_own.new.state) (Ok b)) c.if-branch.false c.in_ok-step_own-in-Some.ensures in
    subst (IsSound (g.R.Runner.language r) (main_alone (g.R.Runner.main r))) (sym same) c.requires.sound

pub step_by-requires-clause-used : goal.step_by-requires-clause-used
step_by-requires-clause-used g c =
    let r = c.args.runner.now in
    let same = subst (λ b. IsOwnTried (g.R.Runner.language r) c.args.path.now (run_of (g.R.Runner.seen r) c.args.state.now) (run_of (g.R.Runner.seen r) c.step_own.new.state) (Ok b)) c.if-branch.false c.in_ok-step_own-in-Some.ensures in
    subst (λ (n : ℕ). n ≤ 1000000000) (sym (ap (λ (m : Run _). m.used) same)) c.requires.used

pub returns-else-branch : goal.returns-else-branch
returns-else-branch g c =
    let r = c.args.runner.now in
    let same = subst (λ b. IsOwnTried (g.R.Runner.language r) c.args.path.now (run_of (g.R.Runner.seen r) c.args.state.now) (run_of (g.R.Runner.seen r) c.step_own.new.state) (Ok b)) c.if-branch.false c.in_ok-step_own-in-Some.ensures in
    subst (λ m. IsTried (g.R.Runner.language r) c.args.path.now m (run_of (g.R.Runner.seen r) c.step_by.new.state) c.step_by.result) same c.step_by.ensures

pub returns-in-None : goal.returns-in-None
returns-in-None g c =
    let r = c.args.runner.now in
    (nobody_steps (g.R.Runner.language r) (run_of (g.R.Runner.seen r) c.args.state.now).hosts c.args.path.now (there (g.R.Runner.seen r) c.args.state.now.processes c.args.path.now None (sym c.in-None.ensures.none)), refl)
