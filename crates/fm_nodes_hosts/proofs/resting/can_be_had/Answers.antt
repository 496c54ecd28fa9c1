use Rattle.std.proofs.Common.{ap, sym, ◌∙◌}
use Rattle.fm_nodes_procs.specs.Asks.{need_told}
use Rattle.fm_nodes_hosts.specs.Resting.{steps_by}
use Rattle.fm_nodes_hosts.specs.States.{hosts_in}
use Rattle.fm_nodes_hosts.proofs.Stopping.{kids_there}
use Rattle.fm_nodes_hosts.proofs.resting.can_be_had.Goals as goal

pub returns-in-Rests : goal.returns-in-Rests
returns-in-Rests g c =
    let r = c.args.runner.now in
    let h = hosts_in (g.R.Runner.seen r) c.args.state.now.processes c.args.state.now.network in
    ap (λ a. steps_by (g.R.Runner.language r).has_ended h c.args.path.now (need_told a)) (sym c.in-Rests.is)

pub returns-in-Goes : goal.returns-in-Goes
returns-in-Goes g c =
    let r = c.args.runner.now in
    let h = hosts_in (g.R.Runner.seen r) c.args.state.now.processes c.args.state.now.network in
    ap (λ a. steps_by (g.R.Runner.language r).has_ended h c.args.path.now (need_told a)) (sym c.in-Goes.is)

pub returns-in-Makes : goal.returns-in-Makes
returns-in-Makes g c =
    let r = c.args.runner.now in
    let h = hosts_in (g.R.Runner.seen r) c.args.state.now.processes c.args.state.now.network in
    ap (λ a. steps_by (g.R.Runner.language r).has_ended h c.args.path.now (need_told a)) (sym c.in-Makes.is)

pub returns-in-Sends : goal.returns-in-Sends
returns-in-Sends g c =
    let r = c.args.runner.now in
    let h = hosts_in (g.R.Runner.seen r) c.args.state.now.processes c.args.state.now.network in
    c.has.ensures ∙ ap (λ a. steps_by (g.R.Runner.language r).has_ended h c.args.path.now (need_told a)) (sym c.in-Sends.is)

pub returns-in-Receives : goal.returns-in-Receives
returns-in-Receives g c =
    let r = c.args.runner.now in
    let h = hosts_in (g.R.Runner.seen r) c.args.state.now.processes c.args.state.now.network in
    c.is_left.ensures ∙ ap (λ a. steps_by (g.R.Runner.language r).has_ended h c.args.path.now (need_told a)) (sym c.in-Receives.is)

pub returns-in_ok-children-in-Joins : goal.returns-in_ok-children-in-Joins
returns-in_ok-children-in-Joins g c =
    let r = c.args.runner.now in
    let h = hosts_in (g.R.Runner.seen r) c.args.state.now.processes c.args.state.now.network in
    c.is_some.ensures ∙ kids_there _ _ c.in_ok-children-in-Joins.ensures.all c.in_ok-children-in-Joins.ensures.none
    ∙ ap (λ a. steps_by (g.R.Runner.language r).has_ended h c.args.path.now (need_told a)) (sym c.in-Joins.is)
