use Rattle.std.proofs.Common.{refl, subst}
use Rattle.fm_nodes_procs.specs.Asks.{need_told}
use Rattle.fm_nodes_hosts.specs.Runs.{AsksFor}
use Rattle.fm_nodes_hosts.specs.States.{run_of}
use Rattle.fm_nodes_hosts.proofs.Carrying.{rested}
use Rattle.fm_nodes_hosts.proofs.stepping.step_by.Goals as goal

pub returns-in-Rests : goal.returns-in-Rests
returns-in-Rests g c =
    let r = c.args.runner.now in
    (rested (g.R.Runner.seen r) c.args.state.now (g.R.Runner.language r) c.args.path.now c.args.number c.requires.who (subst (λ a. AsksFor (g.R.Runner.language r) c.args.path.now (run_of (g.R.Runner.seen r) c.args.state.now) (need_told a)) c.in-Rests.is c.in_ok-request.ensures.need), refl)
