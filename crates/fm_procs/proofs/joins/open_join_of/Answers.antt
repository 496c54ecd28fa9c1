use Rattle.std.proofs.Common.{◌≡◌, Some, None, [], inl, refl, ap, subst, sym, ◌∙◌}
use Rattle.std.specs.Prelude.{is_some}
use Rattle.std.specs.Box.{with_value}
use Rattle.std.proofs.lemmas.Result.{IfOk-weaker}
use Rattle.fm_finmap.proofs.Rows.{there as stands_there}
use Rattle.fm_proc_language.specs.Processes.{CodeProc}
use Rattle.fm_proc_events.specs.declared.process.Process.{Process}
use Rattle.fm_procs.specs.Joinings.{HasJoined}
use Rattle.fm_proc_events.specs.Phases.{proc_of}
use Rattle.fm_procs.specs.Readings.{actor_place, awaited_in, awaits, code_of, Entries, order_of, proc_in}
use Rattle.fm_procs.proofs.Blocks.{either_way, when_err}
use Rattle.fm_net_procs.proofs.Maps.{found, puts_one, puts_same, there, told_put}
use Rattle.fm_procs.specs.Kept.{IsNext}
use Rattle.fm_net_procs.proofs.Families.{families_put, family_kept, awaits_nobody}
use Rattle.fm_procs.proofs.joins.open_join_of.Goals as goal

pub open_join-requires-clause-look : goal.open_join-requires-clause-look
open_join-requires-clause-look c = rw c.deref_mut.ensures.value (c.requires.look (proc_in c.in-Some.entry.now) (there code_of c.args.entries.now (actor_place c.args.actor.now) (Some c.in-Some.entry.now) (found c.args.entries.now c.args.actor.now.number (actor_place c.args.actor.now) (Some c.in-Some.entry.now) c.requires.actor c.in-Some.ensures.value)))

pub open_join-requires-clause-joins : goal.open_join-requires-clause-joins
open_join-requires-clause-joins c = rw c.deref_mut.ensures.value (c.requires.joining (proc_in c.in-Some.entry.now) (there code_of c.args.entries.now (actor_place c.args.actor.now) (Some c.in-Some.entry.now) (found c.args.entries.now c.args.actor.now.number (actor_place c.args.actor.now) (Some c.in-Some.entry.now) c.requires.actor c.in-Some.ensures.value)))

pub unreachable-requires : goal.unreachable-requires
unreachable-requires c = cc (ap is_some (found c.args.entries.now c.args.actor.now.number (actor_place c.args.actor.now) None c.requires.actor c.in-None.ensures.value) ∙ stands_there c.args.entries.now.rows c.args.actor.now.number (actor_place c.args.actor.now) c.requires.actor)

pub returns-clause-order : goal.returns-clause-order
returns-clause-order c =
    let x = c.in-Some.entry.now in
    (c.get_mut.follows.holds (record x { process = record { held = with_value x.process.held c.open_join.new.process } }) (actor_place c.args.actor.now) c.requires.actor).places_are

pub returns-clause-told : goal.returns-clause-told
returns-clause-told c = λ but.
    let k = actor_place c.args.actor.now in
    let x = c.in-Some.entry.now in
    let y = record x { process = record { held = with_value x.process.held c.open_join.new.process } } in
    told_put code_of IsNext k c.args.entries.now (record { rows = c.get_mut.follows.lender y }) k y (c.get_mut.follows.holds y k c.requires.actor).map_is (inl refl) but

-- it runs then, or waits as before
pub returns-clause-families : goal.returns-clause-families
returns-clause-families c = λ all.
    let k = actor_place c.args.actor.now in
    let x = c.in-Some.entry.now in
    let y = record x { process = record { held = with_value x.process.held c.open_join.new.process } } in
    let after : Entries = record { rows = c.get_mut.follows.lender y } in
    let ps = order_of c.args.entries.now in
    let put = c.get_mut.follows.holds y k c.requires.actor in
    let is = found c.args.entries.now c.args.actor.now.number k (Some x) c.requires.actor c.in-Some.ensures.value in
    either_way c.open_join.result
    (λ j h. families_put code_of awaits c.args.entries.now after k y put.map_is put.places_are (awaits_nobody ps k (awaits (proc_in y)) y.first_child (ap awaits h.stays)) all)
    (λ e. families_put code_of awaits c.args.entries.now after k y put.map_is put.places_are
    (family_kept ps k (awaits (proc_in x)) (awaits (proc_in y)) x.first_child (ap awaited_in (ap (λ (v : CodeProc). v.phase) e ∙ ap (λ (v : Process). (proc_of v).phase) c.deref_mut.ensures.value)) (all k x (sym is))) all)
    c.open_join.ensures.joined c.open_join.ensures.stays

pub returns-clause-opens : goal.returns-clause-opens
returns-clause-opens c =
    let k = actor_place c.args.actor.now in
    let x = c.in-Some.entry.now in
    let y = record x { process = record { held = with_value x.process.held c.open_join.new.process } } in
    let is = there code_of c.args.entries.now k (Some x) (found c.args.entries.now c.args.actor.now.number k (Some x) c.requires.actor c.in-Some.ensures.value) in
    IfOk-weaker c.open_join.result _ _ (λ j h w at.
    let same : proc_of c.deref_mut.result.now ≡ w = cc (ap (λ (v : Process). Some (proc_of v)) c.deref_mut.ensures.value ∙ (sym is ∙ at)) in
    record {
      after = proc_in y;
      joined = subst (λ (v : CodeProc). HasJoined v [] (proc_in y) j) same h;
      procs_are = puts_one code_of c.args.entries.now (record { rows = c.get_mut.follows.lender y }) k y (c.get_mut.follows.holds y k c.requires.actor).map_is;
    }) c.open_join.ensures.joined

pub returns-clause-stays : goal.returns-clause-stays
returns-clause-stays c =
    let k = actor_place c.args.actor.now in
    let x = c.in-Some.entry.now in
    let y = record x { process = record { held = with_value x.process.held c.open_join.new.process } } in
    let is = found c.args.entries.now c.args.actor.now.number k (Some x) c.requires.actor c.in-Some.ensures.value in
    when_err c.open_join.result (λ e.
    puts_same code_of c.args.entries.now (record { rows = c.get_mut.follows.lender y }) k x y is (c.get_mut.follows.holds y k c.requires.actor).map_is (e ∙ ap proc_of c.deref_mut.ensures.value)) c.open_join.ensures.stays
