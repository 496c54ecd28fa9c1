use Rattle.std.proofs.Common.{ap, refl, ◌∙◌}
use Rattle.std.specs.FinMap.{get}
use Rattle.fm_chan.specs.Bodies.{chans_of}
use Rattle.fm_chan.proofs.Waking.{on_err}
use Rattle.fm_finmap.specs.Changes.{alters}
use Rattle.fm_finmap.proofs.Inserts.{insert_here}
use Rattle.fm_net.specs.Machine.{Procs, State, child_changes}
use Rattle.fm_net.proofs.Keys.{path_order}
use Rattle.fm_proc_language.specs.Processes.{CodeProc, emptied}
use Rattle.fm_procs.specs.Readings.{actor_place, awaited_in, awaits, code_of, order_of, procs_of}
use Rattle.fm_procs.proofs.Joining.{have_ended, is_waiting, its_children, join_runs, join_starts, join_steps, joins_now, stands}
use Rattle.fm_net_procs.proofs.Families.{families_close}
use Rattle.fm_procs.proofs.Awaited.{kids_awaited}
use Rattle.fm_procs.proofs.joins.join_block.Goals as goal

pub join-requires-clause-joining : goal.join-requires-clause-joining
join-requires-clause-joining c = λ y is.
    let s : State CodeProc = record { procs = procs_of c.args.entries.now; chans = chans_of c.args.channels.now } in
    let p = actor_place c.args.actor.now in
    is_waiting s p y is c.args.next (joins_now s p y c.args.next is (c.requires.look y is) c.requires.can)

pub join-requires-clause-ended : goal.join-requires-clause-ended
join-requires-clause-ended c =
    let s : State CodeProc = record { procs = procs_of c.args.entries.now; chans = chans_of c.args.channels.now } in
    let p = actor_place c.args.actor.now in
    let who = stands (get s.procs p) s p refl c.requires.can in
    let j = joins_now s p who.0 c.args.next who.1 (c.requires.look who.0 who.1) c.requires.can in
    let n = c.family-family.result.count in
    let counted = c.family-family.ensures.count tt p who.0 c.requires.actor who.1 ∙ kids_awaited who.0.phase in
    record {
      parent = who.0;
      is = who.1;
      block = j.block;
      children = j.children;
      stand = its_children s p who.0 who.1 c.args.next j n counted (order_of c.args.entries.now) c.family-family.result.first (c.family-family.ensures.first tt p who.0 c.requires.actor who.1 c.requires.families);
      ended = have_ended s p who.0 who.1 c.args.next j n counted;
    }

pub returns-clause-step : goal.returns-clause-step
returns-clause-step c =
    let s : State CodeProc = record { procs = procs_of c.args.entries.now; chans = chans_of c.args.channels.now } in
    let p = actor_place c.args.actor.now in
    let who = stands (get s.procs p) s p refl c.requires.can in
    let y = who.0 in
    let j = joins_now s p y c.args.next who.1 (c.requires.look y who.1) c.requires.can in
    let n = c.family-family.result.count in
    let counted = c.family-family.ensures.count tt p y c.requires.actor who.1 ∙ kids_awaited y.phase in
    let children = its_children s p y who.1 c.args.next j n counted (order_of c.args.entries.now) c.family-family.result.first (c.family-family.ensures.first tt p y c.requires.actor who.1 c.requires.families) in
    let released = alters (child_changes emptied p j.block 1 n) s.procs in
    let done = c.in_ok-cost.ensures.joins y j.block j.children who.1 children (have_ended s p y who.1 c.args.next j n counted) in
    join_steps s p y who.1 c.args.next j n counted released (procs_of c.join.new.entries) refl (chans_of c.join.new.channels) c.in_ok-cost.cost done

pub returns-clause-starts : goal.returns-clause-starts
returns-clause-starts c =
    let s : State CodeProc = record { procs = procs_of c.args.entries.now; chans = chans_of c.args.channels.now } in
    let p = actor_place c.args.actor.now in
    let who = stands (get s.procs p) s p refl c.requires.can in
    let y = who.0 in
    let j = joins_now s p y c.args.next who.1 (c.requires.look y who.1) c.requires.can in
    let n = c.family-family.result.count in
    let counted = c.family-family.ensures.count tt p y c.requires.actor who.1 ∙ kids_awaited y.phase in
    let children = its_children s p y who.1 c.args.next j n counted (order_of c.args.entries.now) c.family-family.result.first (c.family-family.ensures.first tt p y c.requires.actor who.1 c.requires.families) in
    let released = alters (child_changes emptied p j.block 1 n) s.procs in
    let done = c.in_ok-cost.ensures.joins y j.block j.children who.1 children (have_ended s p y who.1 c.args.next j n counted) in
    join_starts s p y who.1 c.args.next j n counted released (procs_of c.join.new.entries) refl (chans_of c.join.new.channels) c.in_ok-cost.cost done

pub returns-clause-families : goal.returns-clause-families
returns-clause-families c =
    let s : State CodeProc = record { procs = procs_of c.args.entries.now; chans = chans_of c.args.channels.now } in
    let p = actor_place c.args.actor.now in
    let who = stands (get s.procs p) s p refl c.requires.can in
    let y = who.0 in
    let j = joins_now s p y c.args.next who.1 (c.requires.look y who.1) c.requires.can in
    let n = c.family-family.result.count in
    let counted = c.family-family.ensures.count tt p y c.requires.actor who.1 ∙ kids_awaited y.phase in
    let children = its_children s p y who.1 c.args.next j n counted (order_of c.args.entries.now) c.family-family.result.first (c.family-family.ensures.first tt p y c.requires.actor who.1 c.requires.families) in
    let released = alters (child_changes emptied p j.block 1 n) s.procs in
    let done = c.in_ok-cost.ensures.joins y j.block j.children who.1 children (have_ended s p y who.1 c.args.next j n counted) in
    families_close code_of awaits p c.join.new.entries done.after (ap (λ (m : Procs CodeProc). get m p) done.procs_are ∙ insert_here path_order released p done.after)
    (ap awaited_in (join_runs s p y who.1 c.args.next j n counted released (procs_of c.join.new.entries) refl (chans_of c.join.new.channels) c.in_ok-cost.cost done))
    (c.in_ok-cost.ensures.families c.requires.families)

pub returns-clause-order : goal.returns-clause-order
returns-clause-order c = c.join.ensures.order

pub returns-in_err-cost-clause-families_stay : goal.returns-in_err-cost-clause-families_stay
returns-in_err-cost-clause-families_stay c = on_err c.from_residual.result (c.in_err-cost.ensures.families_stay c.requires.families)
