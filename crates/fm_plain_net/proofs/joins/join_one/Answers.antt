use Rattle.std.proofs.Common.{Some, None, inl, refl, ap, sym, ◌∙◌}
use Rattle.std.specs.Prelude.{is_some}
use Rattle.std.proofs.lemmas.Result.{IfOk-weaker}
use Rattle.fm_chan.specs.Bodies.{chans_of}
use Rattle.fm_finmap.proofs.Rows.{there as stands_there}
use Rattle.fm_run.specs.Awaited.{awaits}
use Rattle.fm_plain_net.specs.Readings.{actor_place, proc_in, tree_of}
use Rattle.fm_plain_net.proofs.Placing.{joins_at}
use Rattle.fm_net_procs.proofs.Maps.{found, told_put, there}
use Rattle.fm_plain.specs.Looking.{IsNext}
use Rattle.fm_net_procs.proofs.Families.{families_put_but}
use Rattle.fm_plain_net.proofs.joins.join_one.Goals as goal

pub join_all-requires : goal.join_all-requires
join_all-requires c = c.requires.can (proc_in c.args.program.now c.in-Some.slot.now) (there (tree_of c.args.program.now) c.args.entries.now (actor_place c.args.actor.now) (Some c.in-Some.slot.now) (found c.args.entries.now c.args.actor.now.number (actor_place c.args.actor.now) (Some c.in-Some.slot.now) c.requires.actor c.in-Some.ensures.value))

pub unreachable-requires : goal.unreachable-requires
unreachable-requires c = cc (ap is_some (found c.args.entries.now c.args.actor.now.number (actor_place c.args.actor.now) None c.requires.actor c.in-None.ensures.value) ∙ stands_there (c.args.entries.now.rows) c.args.actor.now.number (actor_place c.args.actor.now) c.requires.actor)

pub returns-clause-joins : goal.returns-clause-joins
returns-clause-joins c =
    let P = c.args.program.now in
    let y = record c.in-Some.slot.now { process = record { plain = c.join_all.new.process } } in
    let is = there (tree_of P) c.args.entries.now (actor_place c.args.actor.now) (Some c.in-Some.slot.now) (found c.args.entries.now c.args.actor.now.number (actor_place c.args.actor.now) (Some c.in-Some.slot.now) c.requires.actor c.in-Some.ensures.value) in
    IfOk-weaker c.join_all.result _ _ (λ cost told x kids at frames.
    joins_at P (actor_place c.args.actor.now) x (proc_in P c.in-Some.slot.now) (sym is ∙ at) c.args.next kids c.args.ports.now (chans_of c.args.channels.now) c.args.entries.now (record { rows = c.get_mut.follows.lender y }) y
    (c.get_mut.follows.holds y (actor_place c.args.actor.now) c.requires.actor).map_is _ _ _ (told kids frames)) c.join_all.ensures.joins

pub returns-clause-next : goal.returns-clause-next
returns-clause-next c =
    let P = c.args.program.now in
    let y = record c.in-Some.slot.now { process = record { plain = c.join_all.new.process } } in
    IfOk-weaker c.join_all.result _ _ (λ a told but.
    told_put (tree_of P) (IsNext P) (actor_place c.args.actor.now) c.args.entries.now (record { rows = c.get_mut.follows.lender y }) (actor_place c.args.actor.now) y
    (c.get_mut.follows.holds y (actor_place c.args.actor.now) c.requires.actor).map_is (inl refl) but) c.join_all.ensures.joins

pub returns-clause-order : goal.returns-clause-order
returns-clause-order c = IfOk-weaker c.join_all.result _ _ (λ a told. (c.get_mut.follows.holds (record c.in-Some.slot.now { process = record { plain = c.join_all.new.process } }) (actor_place c.args.actor.now) c.requires.actor).places_are) c.join_all.ensures.joins

pub returns-clause-families : goal.returns-clause-families
returns-clause-families c =
    let P = c.args.program.now in
    let y = record c.in-Some.slot.now { process = record { plain = c.join_all.new.process } } in
    let put = c.get_mut.follows.holds y (actor_place c.args.actor.now) c.requires.actor in
    IfOk-weaker c.join_all.result _ _ (λ a told but. families_put_but (tree_of P) awaits (actor_place c.args.actor.now) c.args.entries.now (record { rows = c.get_mut.follows.lender y }) y put.map_is put.places_are but) c.join_all.ensures.joins
