use Rattle.std.proofs.Common.{◌+◌, [], ◌∷◌, ◌++◌, ap, arith, refl, ◌∙◌}
use Rattle.fm_net.specs.Owned.{main_alone}
use Rattle.fm_nodes_procs.specs.Processes.{order_of, procs_of}
use Rattle.fm_nodes_procs.proofs.Kept.{low}
use Rattle.fm_nodes_hosts.specs.States.{run_of}
use Rattle.fm_nodes_hosts.proofs.Carrying.{own_err, prepared}
use Rattle.fm_nodes_hosts.proofs.Steps.{open_alone, stepped_alone}
use Rattle.fm_nodes_hosts.proofs.stepping.step_own.Goals as goal

pub let_go-requires : goal.let_go-requires
let_go-requires g c =
    let r = c.args.runner.now in
    let alone = c.in_ok-drops.ensures.steps c.in-Some.drops c.in-Some.cost c.in-Some.is c.args.path.now c.requires.who in
    open_alone (g.R.Runner.language r) (main_alone (g.R.Runner.main r)) (g.met.R.Runner.is_lawful r) (g.met.R.Runner.main_owns r) (g.met.R.Runner.asks_for_words r) (run_of (g.R.Runner.seen r) c.args.state.now) c.requires.sound c.args.path.now c.args.number c.requires.who alone.self alone.is
    (g.R.Runner.let_go r c.in-Some.drops) c.in-Some.cost (procs_of (g.R.Runner.seen r) c.step_alone.new.processes) alone

pub one_step-requires : goal.one_step-requires
one_step-requires g c =
    let old = c.args.state.now.processes in
    omega (arith, low (order_of old) c.args.number c.args.path.now c.requires.who, old.few, old.rows.each)

pub returns-in-Some : goal.returns-in-Some
returns-in-Some g c =
    let r = c.args.runner.now in
    let alone = c.in_ok-drops.ensures.steps c.in-Some.drops c.in-Some.cost c.in-Some.is c.args.path.now c.requires.who in
    stepped_alone (g.R.Runner.language r) (main_alone (g.R.Runner.main r)) (g.met.R.Runner.is_lawful r) (g.met.R.Runner.main_owns r) (g.met.R.Runner.asks_for_words r) (run_of (g.R.Runner.seen r) c.args.state.now) c.requires.sound c.args.path.now c.args.number c.requires.who alone.self alone.is
    (g.R.Runner.let_go r c.in-Some.drops) c.in-Some.cost (procs_of (g.R.Runner.seen r) c.step_alone.new.processes) alone
    (run_of (g.R.Runner.seen r) (record { processes = c.step_alone.new.processes; network = record { channels = c.let_go.new.channels; wire = c.args.state.now.network.wire }; history = c.push_reserved.new.self; used = c.args.state.now.used + c.in-Some.cost }))
    refl c.let_go.ensures refl (c.push_reserved.ensures.items ∙ ap (λ ts. ts ++ c.one_step.result ∷ []) c.reserve.ensures.items ∙ ap (λ t. c.args.state.now.history.items ++ t ∷ []) c.one_step.ensures) c.step_alone.ensures.order refl

pub returns-in-None : goal.returns-in-None
returns-in-None g c =
    prepared (g.R.Runner.seen c.args.runner.now) c.args.state.now c.step_alone.new.processes c.reserve.new.self c.reserve.ensures.items (c.in_ok-drops.ensures.none c.in-None.is) c.step_alone.ensures.order

pub returns-in_err-drops : goal.returns-in_err-drops
returns-in_err-drops g c =
    let r = c.args.runner.now in
    own_err (g.R.Runner.language r) c.args.path.now (run_of (g.R.Runner.seen r) c.args.state.now) _ c.from_residual-in_err-drops.result c.from_residual-in_err-drops.ensures.0
    (prepared (g.R.Runner.seen r) c.args.state.now c.step_alone.new.processes c.reserve.new.self c.reserve.ensures.items c.in_err-drops.ensures.err c.step_alone.ensures.order)

pub returns-in_err-reserve : goal.returns-in_err-reserve
returns-in_err-reserve g c =
    let r = c.args.runner.now in
    own_err (g.R.Runner.language r) c.args.path.now (run_of (g.R.Runner.seen r) c.args.state.now) _ c.from_residual.result c.from_residual.ensures.0
    (prepared (g.R.Runner.seen r) c.args.state.now c.args.state.now.processes c.reserve.new.self c.reserve.ensures.items refl refl)
