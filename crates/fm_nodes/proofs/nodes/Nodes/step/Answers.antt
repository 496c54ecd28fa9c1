use Rattle.std.proofs.Common.{◌≤◌, ap, subst, sym}
use Rattle.fm_mean.specs.Steps.{language}
use Rattle.fm_plain_frame.specs.Frames.{proc_of}
use Rattle.fm_nodes_hosts.specs.Runs.{IsTried}
use Rattle.fm_nodes_hosts.specs.States.{run_of}
use Rattle.fm_nodes_trees.specs.Trees.{program_of}
use Rattle.fm_nodes.specs.Nodes.{Hosted, setting_of}
use Rattle.fm_nodes.proofs.NodeLaws.{tried_sound}
use Rattle.fm_nodes.proofs.nodes.Nodes.step.Goals as goal

pub step-requires-clause-sound : goal.step-requires-clause-sound
step-requires-clause-sound c = c.self.invariant.played

pub step-requires-clause-used : goal.step-requires-clause-used
step-requires-clause-used c = subst (λ (h : Hosted). h.run.used ≤ 1000000000) (sym c.self.view_is) c.requires

pub invariant_of-self : goal.invariant_of-self
invariant_of-self c =
    let p = program_of c.self.inside.trees in
    record { plain = c.self.invariant.plain; played = tried_sound p c.self.invariant.plain (run_of (proc_of p) c.self.inside.state) _ c.self.invariant.played c.args.path.now _ c.step.ensures }

pub returns-clause-done : goal.returns-clause-done
returns-clause-done c =
    let new = run_of (proc_of (program_of c.self.inside.trees)) c.step.new.state in
    subst (λ (h : Hosted). IsTried (language h.program) c.args.path.now h.run new c.step.result) c.self.view_is c.step.ensures

pub returns-clause-same : goal.returns-clause-same
returns-clause-same c = ap setting_of c.self.view_is
