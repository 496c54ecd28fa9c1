use Rattle.std.proofs.Common.{ℕ, List, ap, subst, sym, ◌∙◌, arith}
use Rattle.std.specs.FinMap.{insert}
use Rattle.fm_finmap.specs.Changes.{alters}
use Rattle.fm_net.specs.Machine.{Place, Procs, child_changes, gathered}
use Rattle.fm_proc_language.specs.Processes.{CodeProc, emptied, has_ended}
use Rattle.fm_procs.specs.Joinings.{HasRoomToJoin}
use Rattle.fm_procs.specs.Kept.{AreChildren}
use Rattle.fm_procs.specs.Readings.{actor_place, awaits, code_of, procs_of}
use Rattle.fm_procs.proofs.Blocks.{gathered_past, meanwhile, stands_meanwhile}
use Rattle.fm_net_procs.proofs.Families.{families_but}
use Rattle.fm_procs.proofs.joins.join.Goals as goal

pub take_children-requires-clause-room : goal.take_children-requires-clause-room
take_children-requires-clause-room c =
    let k = actor_place c.args.actor.now in
    let family = c.args.family in
    let e = c.requires.ended in
    let opened = c.in_ok-join.ensures.opens e.parent e.is in
    record {
      place = k;
      block = e.block;
      others = family.count;
      children = e.children;
      all = omega arith;
      stand = subst (λ (ps : List Place). AreChildren ps family.first k e.block family.count) (sym c.open_join_of.ensures.order) e.stand;
      ended = ap (λ m. gathered has_ended m k e.block 1 family.count) opened.procs_are ∙ gathered_past k e.block 1 family.count (procs_of c.args.entries.now) opened.after ∙ e.ended;
      room = subst (λ (n : ℕ). HasRoomToJoin c.in_ok-join.join n) (c.in_ok-room.ensures k e.block e.children e.stand e.ended) c.in_ok-join.ensures.room;
    }

pub returns-clause-told : goal.returns-clause-told
returns-clause-told c = λ but.
    let k = actor_place c.args.actor.now in
    let family = c.args.family in
    let e = c.requires.ended in
    let opened = c.in_ok-join.ensures.opens e.parent e.is in
    let stand = subst (λ (ps : List Place). AreChildren ps family.first k e.block family.count) (sym c.open_join_of.ensures.order) e.stand in
    let ended = ap (λ m. gathered has_ended m k e.block 1 family.count) opened.procs_are ∙ gathered_past k e.block 1 family.count (procs_of c.args.entries.now) opened.after ∙ e.ended in
    c.close_join.ensures.told (c.take_children.ensures.told k k e.block e.children stand ended (c.open_join_of.ensures.told but))

pub returns-clause-families : goal.returns-clause-families
returns-clause-families c = λ all.
    c.close_join.ensures.families (families_but code_of awaits (actor_place c.args.actor.now) c.take_children.new.entries (c.take_children.ensures.families (c.open_join_of.ensures.families all)))

pub returns-clause-joins : goal.returns-clause-joins
returns-clause-joins c = λ y b children at all e.
    let k = actor_place c.args.actor.now in
    let family = c.args.family in
    let m = procs_of c.args.entries.now in
    let ws = child_changes emptied k b 1 family.count in
    let opened = c.in_ok-join.ensures.opens y at in
    let stand = subst (λ (ps : List Place). AreChildren ps family.first k b family.count) (sym c.open_join_of.ensures.order) all in
    let ended = ap (λ n. gathered has_ended n k b 1 family.count) opened.procs_are ∙ gathered_past k b 1 family.count m opened.after ∙ e in
    let taken = c.take_children.ensures.processes k b stand in
    let stands = stands_meanwhile k b family.count m (procs_of c.open_join_of.new.entries) (procs_of c.take_children.new.entries) opened.after opened.procs_are taken in
    let done = c.close_join.ensures.joins y opened.after children stands (c.take_children.ensures.joined k b children y opened.after stand ended opened.joined) in
    record {
      after = done.after;
      joins = done.joins;
      procs_are =
          done.procs_are ∙ ap (λ (n : Procs CodeProc). insert n k done.after) (taken ∙ ap (alters ws) opened.procs_are)
          ∙ meanwhile k b family.count m opened.after done.after;
    }
