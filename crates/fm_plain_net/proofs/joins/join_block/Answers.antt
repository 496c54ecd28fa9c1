use Rattle.std.proofs.Common.{◌≡◌, Some, List, ap, refl, sym, ◌∙◌}
use Rattle.std.specs.Prelude.{slice_get}
use Rattle.std.specs.FinMap.{get}
use Rattle.fm_chan.specs.Bodies.{chans_of}
use Rattle.fm_finmap.proofs.Inserts.{insert_here}
use Rattle.fm_mean.specs.Process.{Proc}
use Rattle.fm_net.specs.Machine.{Place, Procs, State}
use Rattle.fm_net.proofs.Keys.{path_order}
use Rattle.fm_run.specs.Programs.{play_of}
use Rattle.fm_run.specs.Awaited.{awaited_in, awaits}
use Rattle.fm_plain_net.specs.Readings.{actor_place, order_of, procs_of, tree_of}
use Rattle.fm_plain_net.proofs.Families.{joined_family, kids_awaited}
use Rattle.fm_run.proofs.Able.{steps_there}
use Rattle.fm_run.proofs.Programs.{owned_reached}
use Rattle.fm_plain_net.proofs.Performed.{reached_step}
use Rattle.fm_plain_net.proofs.Doing.{joined_runs, still_there}
use Rattle.fm_plain_net.proofs.Joining.{all_kids, gathered_kids, join_held, join_starts, join_steps, kids_drop}
use Rattle.fm_net_procs.proofs.Families.{families_but, families_close}
use Rattle.fm_plain_net.proofs.joins.join_block.Goals as goal

pub join_one-requires-clause-can : goal.join_one-requires-clause-can
join_one-requires-clause-can c = λ y e.
    let P = c.args.program.now in
    let s : State Proc = record { procs = procs_of P c.args.entries.now; chans = chans_of c.args.channels.now } in
    let p = (actor_place c.args.actor.now) in
    let who = steps_there (play_of P) s p (get s.procs p) refl c.requires.can in
    let told = c.requires.event who.0 who.1 in
    let children = joined_family P who.0 c.args.block c.args.next told (order_of c.args.entries.now) c.family-family.result.first p (c.family-family.ensures.first P p who.0 c.requires.actor who.1 c.requires.families) c.family-family.result.count (c.family-family.ensures.count P p who.0 c.requires.actor who.1 ∙ kids_awaited who.0.phase) in
    let is : get s.procs p ≡ Some y = sym (ap (λ m. get m p) (c.in_ok-left.ensures.processes P p c.args.block children) ∙ still_there p (Some (c.args.block, c.family-family.result.count)) s.procs) ∙ e in
    let does = c.requires.event y is in
    record {
      kids = all_kids P s p y is c.args.ports.now c.args.block c.args.next does (owned_reached P s c.requires.fits.reached) c.requires.fits.held c.requires.can;
      frames = c.in_ok-left.ensures.left P p c.args.block _ children (gathered_kids P s p y is c.args.ports.now c.args.block c.args.next does (owned_reached P s c.requires.fits.reached) c.requires.fits.held c.requires.can c.family-family.result.count (c.family-family.ensures.count P p y c.requires.actor is ∙ kids_awaited y.phase));
      drops = kids_drop P s p y is c.args.ports.now c.args.block c.args.next does (owned_reached P s c.requires.fits.reached) c.requires.fits.held c.requires.can;
    }

pub returns-clause-step : goal.returns-clause-step
returns-clause-step c =
    let P = c.args.program.now in
    let s : State Proc = record { procs = procs_of P c.args.entries.now; chans = chans_of c.args.channels.now } in
    let p = (actor_place c.args.actor.now) in
    let who = steps_there (play_of P) s p (get s.procs p) refl c.requires.can in
    let x = who.0 in
    let does = c.requires.event x who.1 in
    let children = joined_family P x c.args.block c.args.next does (order_of c.args.entries.now) c.family-family.result.first p (c.family-family.ensures.first P p x c.requires.actor who.1 c.requires.families) c.family-family.result.count (c.family-family.ensures.count P p x c.requires.actor who.1 ∙ kids_awaited x.phase) in
    let kids = gathered_kids P s p x who.1 c.args.ports.now c.args.block c.args.next does (owned_reached P s c.requires.fits.reached) c.requires.fits.held c.requires.can c.family-family.result.count (c.family-family.ensures.count P p x c.requires.actor who.1 ∙ kids_awaited x.phase) in
    let at = ap (λ m. get m p) (c.in_ok-left.ensures.processes P p c.args.block children) ∙ still_there p (Some (c.args.block, c.family-family.result.count)) s.procs ∙ who.1 in
    let done = c.in_ok-cost.ensures.joins x _ at (c.in_ok-left.ensures.left P p c.args.block _ children kids) in
    join_steps P s p x who.1 c.args.ports.now c.args.block c.args.next does (owned_reached P s c.requires.fits.reached) c.requires.fits.held c.requires.can c.family-family.result.count (c.family-family.ensures.count P p x c.requires.actor who.1 ∙ kids_awaited x.phase)
    (procs_of P c.release_all.new.self) (procs_of P c.join_one.new.entries) (c.in_ok-left.ensures.processes P p c.args.block children) (chans_of c.join_one.new.channels) c.join_one.new.ports c.in_ok-cost.cost done

pub returns-clause-starts : goal.returns-clause-starts
returns-clause-starts c =
    let P = c.args.program.now in
    let s : State Proc = record { procs = procs_of P c.args.entries.now; chans = chans_of c.args.channels.now } in
    let p = (actor_place c.args.actor.now) in
    let who = steps_there (play_of P) s p (get s.procs p) refl c.requires.can in
    let x = who.0 in
    let does = c.requires.event x who.1 in
    let children = joined_family P x c.args.block c.args.next does (order_of c.args.entries.now) c.family-family.result.first p (c.family-family.ensures.first P p x c.requires.actor who.1 c.requires.families) c.family-family.result.count (c.family-family.ensures.count P p x c.requires.actor who.1 ∙ kids_awaited x.phase) in
    let kids = gathered_kids P s p x who.1 c.args.ports.now c.args.block c.args.next does (owned_reached P s c.requires.fits.reached) c.requires.fits.held c.requires.can c.family-family.result.count (c.family-family.ensures.count P p x c.requires.actor who.1 ∙ kids_awaited x.phase) in
    let at = ap (λ m. get m p) (c.in_ok-left.ensures.processes P p c.args.block children) ∙ still_there p (Some (c.args.block, c.family-family.result.count)) s.procs ∙ who.1 in
    let done = c.in_ok-cost.ensures.joins x _ at (c.in_ok-left.ensures.left P p c.args.block _ children kids) in
    join_starts P s p x who.1 c.args.ports.now c.args.block c.args.next does (owned_reached P s c.requires.fits.reached) c.requires.fits.held c.requires.can c.family-family.result.count (c.family-family.ensures.count P p x c.requires.actor who.1 ∙ kids_awaited x.phase)
    (procs_of P c.release_all.new.self) (procs_of P c.join_one.new.entries) (c.in_ok-left.ensures.processes P p c.args.block children) (chans_of c.join_one.new.channels) c.join_one.new.ports c.in_ok-cost.cost done

pub returns-clause-fits : goal.returns-clause-fits
returns-clause-fits c =
    let P = c.args.program.now in
    let s : State Proc = record { procs = procs_of P c.args.entries.now; chans = chans_of c.args.channels.now } in
    let p = (actor_place c.args.actor.now) in
    let who = steps_there (play_of P) s p (get s.procs p) refl c.requires.can in
    let x = who.0 in
    let does = c.requires.event x who.1 in
    let children = joined_family P x c.args.block c.args.next does (order_of c.args.entries.now) c.family-family.result.first p (c.family-family.ensures.first P p x c.requires.actor who.1 c.requires.families) c.family-family.result.count (c.family-family.ensures.count P p x c.requires.actor who.1 ∙ kids_awaited x.phase) in
    let kids = gathered_kids P s p x who.1 c.args.ports.now c.args.block c.args.next does (owned_reached P s c.requires.fits.reached) c.requires.fits.held c.requires.can c.family-family.result.count (c.family-family.ensures.count P p x c.requires.actor who.1 ∙ kids_awaited x.phase) in
    let at = ap (λ m. get m p) (c.in_ok-left.ensures.processes P p c.args.block children) ∙ still_there p (Some (c.args.block, c.family-family.result.count)) s.procs ∙ who.1 in
    let done = c.in_ok-cost.ensures.joins x _ at (c.in_ok-left.ensures.left P p c.args.block _ children kids) in
    record {
      reached = reached_step P s (record { procs = procs_of P c.join_one.new.entries; chans = chans_of c.join_one.new.channels }) p c.in_ok-cost.cost c.requires.fits.reached
          (join_steps P s p x who.1 c.args.ports.now c.args.block c.args.next does (owned_reached P s c.requires.fits.reached) c.requires.fits.held c.requires.can c.family-family.result.count (c.family-family.ensures.count P p x c.requires.actor who.1 ∙ kids_awaited x.phase) (procs_of P c.release_all.new.self) (procs_of P c.join_one.new.entries) (c.in_ok-left.ensures.processes P p c.args.block children) (chans_of c.join_one.new.channels) c.join_one.new.ports c.in_ok-cost.cost done);
      held = join_held P s p x who.1 c.args.ports.now c.args.block c.args.next does (owned_reached P s c.requires.fits.reached) c.requires.fits.held c.requires.can c.family-family.result.count (c.family-family.ensures.count P p x c.requires.actor who.1 ∙ kids_awaited x.phase) (procs_of P c.release_all.new.self) (procs_of P c.join_one.new.entries) (c.in_ok-left.ensures.processes P p c.args.block children) (chans_of c.join_one.new.channels) c.join_one.new.ports c.in_ok-cost.cost done;
    }

pub returns-clause-next : goal.returns-clause-next
returns-clause-next c = λ but.
    let P = c.args.program.now in
    let s : State Proc = record { procs = procs_of P c.args.entries.now; chans = chans_of c.args.channels.now } in
    let p = (actor_place c.args.actor.now) in
    let who = steps_there (play_of P) s p (get s.procs p) refl c.requires.can in
    let does = c.requires.event who.0 who.1 in
    let children = joined_family P who.0 c.args.block c.args.next does (order_of c.args.entries.now) c.family-family.result.first p (c.family-family.ensures.first P p who.0 c.requires.actor who.1 c.requires.families) c.family-family.result.count (c.family-family.ensures.count P p who.0 c.requires.actor who.1 ∙ kids_awaited who.0.phase) in
    let kids = gathered_kids P s p who.0 who.1 c.args.ports.now c.args.block c.args.next does (owned_reached P s c.requires.fits.reached) c.requires.fits.held c.requires.can c.family-family.result.count (c.family-family.ensures.count P p who.0 c.requires.actor who.1 ∙ kids_awaited who.0.phase) in
    c.in_ok-cost.ensures.next (c.in_ok-left.ensures.told P p p c.args.block _ children kids but)

pub join_one-requires-clause-actor : goal.join_one-requires-clause-actor
join_one-requires-clause-actor c = ap (λ (ps : List Place). slice_get ps c.args.actor.now.number) c.in_ok-left.ensures.order ∙ c.requires.actor

pub returns-clause-order : goal.returns-clause-order
returns-clause-order c = c.in_ok-cost.ensures.order ∙ c.in_ok-left.ensures.order

pub returns-clause-families : goal.returns-clause-families
returns-clause-families c =
    let P = c.args.program.now in
    let s : State Proc = record { procs = procs_of P c.args.entries.now; chans = chans_of c.args.channels.now } in
    let p = (actor_place c.args.actor.now) in
    let who = steps_there (play_of P) s p (get s.procs p) refl c.requires.can in
    let x = who.0 in
    let does = c.requires.event x who.1 in
    let children = joined_family P x c.args.block c.args.next does (order_of c.args.entries.now) c.family-family.result.first p (c.family-family.ensures.first P p x c.requires.actor who.1 c.requires.families) c.family-family.result.count (c.family-family.ensures.count P p x c.requires.actor who.1 ∙ kids_awaited x.phase) in
    let kids = gathered_kids P s p x who.1 c.args.ports.now c.args.block c.args.next does (owned_reached P s c.requires.fits.reached) c.requires.fits.held c.requires.can c.family-family.result.count (c.family-family.ensures.count P p x c.requires.actor who.1 ∙ kids_awaited x.phase) in
    let at = ap (λ m. get m p) (c.in_ok-left.ensures.processes P p c.args.block children) ∙ still_there p (Some (c.args.block, c.family-family.result.count)) s.procs ∙ who.1 in
    let done = c.in_ok-cost.ensures.joins x _ at (c.in_ok-left.ensures.left P p c.args.block _ children kids) in
    families_close (tree_of P) awaits p c.join_one.new.entries done.after (ap (λ (m : Procs Proc). get m p) done.procs_are ∙ insert_here path_order _ p done.after)
    (ap awaits done.joins.self_is ∙ ap awaited_in (joined_runs P p x s.chans c.args.ports.now c.args.block c.args.next does _))
    (c.in_ok-cost.ensures.families (families_but (tree_of P) awaits p c.release_all.new.self (c.in_ok-left.ensures.families P c.requires.families)))
