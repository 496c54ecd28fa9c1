use Rattle.std.proofs.Common.{subst}
use Rattle.fm_mean.specs.Actions.{action_of}
use Rattle.fm_plain_frame.specs.Frames.{proc_of}
use Rattle.fm_plain.specs.Steps.{IsActed}
use Rattle.fm_plain.specs.declared.local.Acted.{Acted}
use Rattle.fm_nodes_trees.proofs.TellLaws.{done_told, event_told, lets_told, rests_told}
use Rattle.fm_nodes_trees.proofs.telling.told_by_twin.Goals as goal

pub returns-in-Done : goal.returns-in-Done
returns-in-Done c =
    let p = c.args.program.now in
    let x = proc_of p c.args.process.now in
    let t = proc_of p c.in_ok-twin.twin in
    let y = proc_of p c.act.new.process in
    done_told p x t y c.requires c.in_ok-twin.ensures _ (subst (λ (a : Acted). IsActed p (action_of p t) t a y) c.in-Done.is c.in_ok-act.ensures.acts)

pub returns-in-LetsGo : goal.returns-in-LetsGo
returns-in-LetsGo c =
    let p = c.args.program.now in
    let x = proc_of p c.args.process.now in
    let t = proc_of p c.in_ok-twin.twin in
    let y = proc_of p c.act.new.process in
    let acts = subst (λ (a : Acted). IsActed p (action_of p t) t a y) c.in-LetsGo.is c.in_ok-act.ensures.acts in
    lets_told p x t y c.requires c.in_ok-twin.ensures _ _ acts.0

pub returns-in-Rest : goal.returns-in-Rest
returns-in-Rest c =
    let p = c.args.program.now in
    let x = proc_of p c.args.process.now in
    let t = proc_of p c.in_ok-twin.twin in
    let y = proc_of p c.act.new.process in
    let acts = subst (λ (a : Acted). IsActed p (action_of p t) t a y) c.in-Rest.is c.in_ok-act.ensures.acts in
    rests_told p x t y c.requires c.in_ok-twin.ensures acts.1

pub returns : goal.returns
returns c =
    let p = c.args.program.now in
    let x = proc_of p c.args.process.now in
    let t = proc_of p c.in_ok-twin.twin in
    let y = proc_of p c.act.new.process in
    let acts = subst (λ (a : Acted). IsActed p (action_of p t) t a y) c.in-Event.is c.in_ok-act.ensures.acts in
    event_told p x t y c.requires c.in_ok-twin.ensures c.in-Event.event acts.1
