use Rattle.std.proofs.Common.{◌≡◌, [], map, sym, ap, subst, ◌∙◌}
use Rattle.std.specs.Prelude.{IfOk, OnErr}
use Rattle.std.specs.Option.{option_copied}
use Rattle.fm_mean.specs.Actions.{Meets, action_of}
use Rattle.fm_mean.specs.Process.{Proc}
use Rattle.fm_plain_frame.specs.Frames.{proc_of}
use Rattle.fm_plain_frame.specs.LetGo.{let_go_ports}
use Rattle.fm_plain.specs.Events.{event_by}
use Rattle.fm_plain.specs.Steps.{IsActed}
use Rattle.fm_plain.specs.declared.local.Acted.{Acted}
use Rattle.fm_nodes_trees.specs.Drops.{drops_in}
use Rattle.fm_nodes_trees.specs.Goes.{Goes}
use Rattle.fm_nodes_trees.proofs.GoLaws.{in_place, own_goes, rest_goes}
use Rattle.fm_nodes_trees.proofs.going.go_on.Goals as goal

pub returns-in-Done-clause-goes : goal.returns-in-Done-clause-goes
returns-in-Done-clause-goes c =
    let p = c.args.program.now in
    let path = c.args.path.now in
    let x = proc_of p c.args.process.now in
    let y = proc_of p c.act.new.process in
    let m = option_copied c.args.message in
    let acts = subst (λ (a : Acted). IsActed p (action_of p x) x a y) c.in-Done.is c.in_ok-cost.ensures.acts in
    in_place p path x m c.args.exceeds y (proc_of p) c.alone.result.starts.items (drops_in p c.alone.result.drops) [] c.alone.result.cost _ (own_goes p path x m c.args.exceeds y [] _ acts)
    c.alone.ensures.starts (ap (drops_in p) c.alone.ensures.drops ∙ c.none.ensures p) c.alone.ensures.cost

pub returns-in-LetsGo-clause-goes : goal.returns-in-LetsGo-clause-goes
returns-in-LetsGo-clause-goes c =
    let p = c.args.program.now in
    let path = c.args.path.now in
    let x = proc_of p c.args.process.now in
    let y = proc_of p c.act.new.process in
    let m = option_copied c.args.message in
    let acts = subst (λ (a : Acted). IsActed p (action_of p x) x a y) c.in-LetsGo.is c.in_ok-cost.ensures.acts in
    let r = c.alone-in-LetsGo.result in
    in_place p path x m c.args.exceeds y (proc_of p) r.starts.items (drops_in p r.drops) (let_go_ports p c.in-LetsGo.ports) r.cost _ (own_goes p path x m c.args.exceeds y _ _ acts.0)
    c.alone-in-LetsGo.ensures.starts (ap (drops_in p) c.alone-in-LetsGo.ensures.drops ∙ c.one.ensures p) c.alone-in-LetsGo.ensures.cost

pub returns-in-Rest-clause-goes : goal.returns-in-Rest-clause-goes
returns-in-Rest-clause-goes c =
    let p = c.args.program.now in
    let x = proc_of p c.args.process.now in
    let y = proc_of p c.act.new.process in
    let acts = subst (λ (a : Acted). IsActed p (action_of p x) x a y) c.in-Rest.is c.in_ok-cost.ensures.acts in
    rest_goes p c.args.path.now x (option_copied c.args.message) c.args.exceeds y _ _ _ acts.1

pub perform-requires : goal.perform-requires
perform-requires c =
    let p = c.args.program.now in
    let x = proc_of p c.args.process.now in
    let y = proc_of p c.act.new.process in
    let acts = subst (λ (a : Acted). IsActed p (action_of p x) x a y) c.in-Event.is c.in_ok-cost.ensures.acts in
    subst (λ (z : Proc). action_of p z ≡ Meets (event_by z.phase c.in-Event.event)) (sym acts.0) acts.1.0

pub returns-in-Event-clause-goes : goal.returns-in-Event-clause-goes
returns-in-Event-clause-goes c =
    let p = c.args.program.now in
    let path = c.args.path.now in
    let x = proc_of p c.args.process.now in
    let y = proc_of p c.act.new.process in
    let m = option_copied c.args.message in
    let acts = subst (λ (a : Acted). IsActed p (action_of p x) x a y) c.in-Event.is c.in_ok-cost.ensures.acts in
    subst (λ (z : Proc). IfOk c.perform.result (λ g. Goes p path z m c.args.exceeds (proc_of p c.perform.new.process) (map (proc_of p) g.starts.items) (drops_in p g.drops) g.cost)) acts.0 c.perform.ensures.goes

pub returns-in-Event-clause-err : goal.returns-in-Event-clause-err
returns-in-Event-clause-err c =
    let p = c.args.program.now in
    let x = proc_of p c.args.process.now in
    let y = proc_of p c.act.new.process in
    let acts = subst (λ (a : Acted). IsActed p (action_of p x) x a y) c.in-Event.is c.in_ok-cost.ensures.acts in
    subst (λ (z : Proc). OnErr c.perform.result (proc_of p c.perform.new.process ≡ z)) acts.0 c.perform.ensures.err
