use Rattle.std.proofs.Common.{◌≡◌, Some, None, map, inl, refl, ap, subst, sym, ◌∙◌}
use Rattle.std.specs.Prelude.{is_some}
use Rattle.std.specs.Box.{with_value}
use Rattle.fm_finmap.proofs.Rows.{there as stands_there}
use Rattle.fm_proc_language.specs.Processes.{CodeProc}
use Rattle.fm_proc_events.specs.declared.process.Process.{Process}
use Rattle.fm_procs.specs.Joinings.{HasJoined}
use Rattle.fm_proc_events.specs.Phases.{proc_of}
use Rattle.fm_procs.specs.Lefts.{left_by}
use Rattle.fm_procs.specs.Readings.{actor_place, awaits, code_of, proc_in}
use Rattle.fm_net_procs.proofs.Maps.{found, puts_one, there, told_put}
use Rattle.fm_procs.specs.Kept.{IsNext}
use Rattle.fm_net_procs.proofs.Families.{families_put_but}
use Rattle.fm_procs.proofs.joins.close_join.Goals as goal

pub unreachable-requires : goal.unreachable-requires
unreachable-requires c = cc (ap is_some (found c.args.entries.now c.args.actor.now.number (actor_place c.args.actor.now) None c.requires.actor c.in-None.ensures.value) ∙ stands_there c.args.entries.now.rows c.args.actor.now.number (actor_place c.args.actor.now) c.requires.actor)

pub returns-clause-order : goal.returns-clause-order
returns-clause-order c =
    let x = c.in-Some.entry.now in
    (c.get_mut.follows.holds (record x { process = record { held = with_value x.process.held c.close.new.process } }) (actor_place c.args.actor.now) c.requires.actor).places_are

pub returns-clause-told : goal.returns-clause-told
returns-clause-told c = λ but.
    let k = actor_place c.args.actor.now in
    let x = c.in-Some.entry.now in
    let y = record x { process = record { held = with_value x.process.held c.close.new.process } } in
    told_put code_of IsNext k c.args.entries.now (record { rows = c.get_mut.follows.lender y }) k y (c.get_mut.follows.holds y k c.requires.actor).map_is (inl refl) but

pub returns-clause-families : goal.returns-clause-families
returns-clause-families c = λ but.
    let k = actor_place c.args.actor.now in
    let x = c.in-Some.entry.now in
    let y = record x { process = record { held = with_value x.process.held c.close.new.process } } in
    let put = c.get_mut.follows.holds y k c.requires.actor in
    families_put_but code_of awaits k c.args.entries.now (record { rows = c.get_mut.follows.lender y }) y put.map_is put.places_are but

pub returns-clause-joins : goal.returns-clause-joins
returns-clause-joins c = λ w z children at h.
    let k = actor_place c.args.actor.now in
    let x = c.in-Some.entry.now in
    let y = record x { process = record { held = with_value x.process.held c.close.new.process } } in
    let is = there code_of c.args.entries.now k (Some x) (found c.args.entries.now c.args.actor.now.number k (Some x) c.requires.actor c.in-Some.ensures.value) in
    let same : z ≡ proc_of c.deref_mut.result.now = cc (sym at ∙ (is ∙ sym (ap (λ (v : Process). Some (proc_of v)) c.deref_mut.ensures.value))) in
    record {
      after = proc_in y;
      joins = c.close.ensures.joins w children (subst (λ (v : CodeProc). HasJoined w (map left_by children) v c.args.join) same h) k;
      procs_are = puts_one code_of c.args.entries.now (record { rows = c.get_mut.follows.lender y }) k y (c.get_mut.follows.holds y k c.requires.actor).map_is;
    }
