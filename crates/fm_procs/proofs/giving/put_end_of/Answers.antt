use Rattle.std.proofs.Common.{Some, None, inl, refl, ap, sym, ◌∙◌}
use Rattle.std.specs.Prelude.{is_some}
use Rattle.std.specs.Box.{with_value}
use Rattle.std.proofs.lemmas.Result.{IfOk-weaker}
use Rattle.fm_finmap.proofs.Rows.{there as stands_there}
use Rattle.fm_proc_events.specs.declared.process.Process.{Process}
use Rattle.fm_proc_events.specs.Phases.{proc_of}
use Rattle.fm_procs.specs.Readings.{actor_place, awaited_in, awaits, code_of, order_of, proc_in}
use Rattle.fm_procs.proofs.Placing.{given_at, same_phase, three_ok}
use Rattle.fm_net_procs.proofs.Maps.{found, there, told_put}
use Rattle.fm_procs.specs.Kept.{IsNext}
use Rattle.fm_net_procs.proofs.Families.{families_put, family_kept}
use Rattle.fm_procs.proofs.giving.put_end_of.Goals as goal

pub put_end-requires-clause-running : goal.put_end-requires-clause-running
put_end-requires-clause-running c = rw c.deref_mut.ensures.value (c.requires.running (proc_in c.in-Some.entry.now) (there code_of c.args.entries.now (actor_place c.args.actor.now) (Some c.in-Some.entry.now) (found c.args.entries.now c.args.actor.now.number (actor_place c.args.actor.now) (Some c.in-Some.entry.now) c.requires.actor c.in-Some.ensures.value)))

pub put_end-requires-clause-own : goal.put_end-requires-clause-own
put_end-requires-clause-own c = rw c.deref_mut.ensures.value (c.requires.own (proc_in c.in-Some.entry.now) (there code_of c.args.entries.now (actor_place c.args.actor.now) (Some c.in-Some.entry.now) (found c.args.entries.now c.args.actor.now.number (actor_place c.args.actor.now) (Some c.in-Some.entry.now) c.requires.actor c.in-Some.ensures.value)))

pub unreachable-requires : goal.unreachable-requires
unreachable-requires c = cc (ap is_some (found c.args.entries.now c.args.actor.now.number (actor_place c.args.actor.now) None c.requires.actor c.in-None.ensures.value) ∙ stands_there c.args.entries.now.rows c.args.actor.now.number (actor_place c.args.actor.now) c.requires.actor)

pub returns-clause-advances : goal.returns-clause-advances
returns-clause-advances c =
    let k = actor_place c.args.actor.now in
    let y = record c.in-Some.entry.now { process = record { held = with_value c.in-Some.entry.now.process.held c.put_end.new.process } } in
    let is = there code_of c.args.entries.now k (Some c.in-Some.entry.now) (found c.args.entries.now c.args.actor.now.number k (Some c.in-Some.entry.now) c.requires.actor c.in-Some.ensures.value) in
    three_ok c.put_end.result (λ a runs steps next x at.
    given_at k x (proc_of c.deref_mut.result.now) (ap (λ (v : Process). Some (proc_of v)) c.deref_mut.ensures.value ∙ (sym is ∙ at)) c.args.entries.now (record { rows = c.get_mut.follows.lender y }) y
    (c.get_mut.follows.holds y k c.requires.actor).map_is c.args.done.now.steps a runs steps next) c.put_end.ensures.runs c.put_end.ensures.steps c.put_end.ensures.next

pub returns-clause-told : goal.returns-clause-told
returns-clause-told c =
    let k = actor_place c.args.actor.now in
    let y = record c.in-Some.entry.now { process = record { held = with_value c.in-Some.entry.now.process.held c.put_end.new.process } } in
    IfOk-weaker c.put_end.result _ _ (λ a runs but.
    told_put code_of IsNext k c.args.entries.now (record { rows = c.get_mut.follows.lender y }) k y (c.get_mut.follows.holds y k c.requires.actor).map_is (inl refl) but) c.put_end.ensures.runs

pub returns-clause-order : goal.returns-clause-order
returns-clause-order c = IfOk-weaker c.put_end.result _ _ (λ a runs. (c.get_mut.follows.holds (record c.in-Some.entry.now { process = record { held = with_value c.in-Some.entry.now.process.held c.put_end.new.process } }) (actor_place c.args.actor.now) c.requires.actor).places_are) c.put_end.ensures.runs

pub returns-clause-families : goal.returns-clause-families
returns-clause-families c =
    let k = actor_place c.args.actor.now in
    let y = record c.in-Some.entry.now { process = record { held = with_value c.in-Some.entry.now.process.held c.put_end.new.process } } in
    let put = c.get_mut.follows.holds y k c.requires.actor in
    let is = found c.args.entries.now c.args.actor.now.number k (Some c.in-Some.entry.now) c.requires.actor c.in-Some.ensures.value in
    IfOk-weaker c.put_end.result _ _ (λ a runs all.
    families_put code_of awaits c.args.entries.now (record { rows = c.get_mut.follows.lender y }) k y put.map_is put.places_are
    (family_kept (order_of c.args.entries.now) k (awaits (proc_in c.in-Some.entry.now)) (awaits (proc_in y)) c.in-Some.entry.now.first_child (ap awaited_in (same_phase (proc_of c.deref_mut.result.now) (proc_in y) a.steps a.cost runs ∙ ap (λ (v : Process). (proc_of v).phase) c.deref_mut.ensures.value)) (all k c.in-Some.entry.now (sym is))) all) c.put_end.ensures.runs
