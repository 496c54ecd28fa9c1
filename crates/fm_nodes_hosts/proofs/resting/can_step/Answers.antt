use Rattle.std.proofs.Common.{ap, sym, ◌∙◌}
use Rattle.std.proofs.lemmas.Result.{IfOk-weaker}
use Rattle.fm_net.specs.Owned.{main_alone}
use Rattle.fm_nodes_procs.proofs.Procs.{stands}
use Rattle.fm_nodes_hosts.specs.Resting.{steps_by}
use Rattle.fm_nodes_hosts.specs.States.{hosts_in, run_of}
use Rattle.fm_nodes_hosts.proofs.Playing.{plain_there}
use Rattle.fm_nodes_hosts.proofs.Stopping.{can_there}
use Rattle.fm_nodes_hosts.proofs.resting.can_step.Goals as goal

pub returns : goal.returns
returns g c =
    let r = c.args.runner.now in
    let S = g.R.Runner.seen r in
    let L = g.R.Runner.language r in
    let s = c.args.state.now in
    let h = hosts_in S s.processes s.network in
    let q = c.args.path.now in
    let who = stands S s.processes c.args.number q c.requires.who in
    let plain = plain_there L (main_alone (g.R.Runner.main r)) (g.met.R.Runner.is_lawful r) (g.met.R.Runner.main_owns r) (g.met.R.Runner.asks_for_words r) (run_of S s) c.requires.sound q in
    IfOk-weaker c.can_be_had.result _ _ (λ b is.
    is ∙ ap (steps_by L.has_ended h q) (sym (c.in_ok-request.ensures.need who.0 who.1)) ∙ sym (can_there L h c.requires.sound.links q plain who.0 who.1)) c.can_be_had.ensures
