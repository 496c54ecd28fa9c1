use Rattle.std.proofs.Common.{[], subst}
use Rattle.fm_mean.specs.Actions.{action_of}
use Rattle.fm_plain_frame.specs.Frames.{proc_of}
use Rattle.fm_plain.specs.Steps.{IsActed}
use Rattle.fm_plain.specs.declared.local.Acted.{Acted}
use Rattle.fm_nodes_trees.proofs.GoLaws.{own_told}
use Rattle.fm_nodes_trees.proofs.going.step_own.Goals as goal

pub returns-in-Done-clause-steps : goal.returns-in-Done-clause-steps
returns-in-Done-clause-steps c = λ d cost e.
    let p = c.args.program.now in
    let x = proc_of p c.args.process.now in
    let y = proc_of p c.act.new.process in
    let acts = subst (λ (a : Acted). IsActed p (action_of p x) x a y) c.in-Done.is c.in_ok-cost.ensures.acts in
    own_told p x y c.none.result d _ cost [] (c.none.ensures p) acts e

pub returns-in-LetsGo-clause-steps : goal.returns-in-LetsGo-clause-steps
returns-in-LetsGo-clause-steps c = λ d cost e.
    let p = c.args.program.now in
    let x = proc_of p c.args.process.now in
    let y = proc_of p c.act.new.process in
    let acts = subst (λ (a : Acted). IsActed p (action_of p x) x a y) c.in-LetsGo.is c.in_ok-cost.ensures.acts in
    own_told p x y c.one.result d _ cost _ (c.one.ensures p) acts.0 e
