use Rattle.std.proofs.Common.{◌≡◌, ◌++◌, List, append-nil, ap, sym, subst, ◌∙◌}
use Rattle.std.proofs.lemmas.Result.{IfOk-weaker}
use Rattle.std.specs.Prelude.{slice_get}
use Rattle.std.specs.FinMap.{get}
use Rattle.fm_chan.specs.Bodies.{chans_of}
use Rattle.fm_chan.proofs.Waking.{wakes_all_then}
use Rattle.fm_finmap.proofs.Inserts.{insert_here}
use Rattle.fm_net.specs.Machine.{Place}
use Rattle.fm_net.specs.Starts.{child_places}
use Rattle.fm_net.proofs.Keys.{path_order}
use Rattle.fm_net_procs.specs.declared.piece.Piece.{Piece}
use Rattle.fm_net_procs.specs.declared.piece.Stop.{Stop}
use Rattle.fm_net_procs.specs.Pieces.{IsNewAt, IsPiece, StepsOrWaits, is_local_in}
use Rattle.fm_net_procs.specs.Readings.{actor_place, order_of, procs_of, state_of}
use Rattle.fm_net_procs.specs.Stepping.{StopsSo, changed_at}
use Rattle.fm_net_procs.proofs.Slices.{meets_piece, pause_piece}
use Rattle.fm_net_procs.proofs.Steps.{steps_there}
use Rattle.fm_net_procs.proofs.processes.Processes.running_piece.Goals as goal

pub keep_next-requires : goal.keep_next-requires
keep_next-requires g c = ap (λ (ps : List Place). slice_get ps c.args.actor.now.number) c.in_ok-stop.ensures.order ∙ c.requires.actor

pub returns-in-Pauses-clause-told : goal.returns-in-Pauses-clause-told
returns-in-Pauses-clause-told g c =
    let P = c.args.program.now in
    let seen = g.P.Proc.seen P in
    let language = g.P.Proc.language P in
    let s = state_of seen c.args.self.now in
    let p = actor_place c.args.actor.now in
    let who = steps_there language s p c.requires.can in
    let at = c.in_ok-stop.ensures.advances who.0 who.1 in
    let a = c.in_ok-stop.field-0 in
    let stops = subst (λ (z : Stop _ _). StopsSo language (g.P.Proc.is_local P) (g.P.Proc.IsNext P) (g.P.Proc.MeetsIt P) c.args.slice c.args.spare s p at.0 a.steps z) c.in-Pauses.is at.2.stops in
    c.keep_next.ensures.told P (λ y is. let same : at.0 ≡ y = cc (sym (ap (λ m. get m p) at.1 ∙ insert_here path_order s.procs p at.0) ∙ is) in subst (λ v. g.P.Proc.IsNext P v c.in-Pauses.next) same stops.0) (c.in_ok-stop.ensures.told c.requires.told)

pub returns-in-Pauses-clause-families : goal.returns-in-Pauses-clause-families
returns-in-Pauses-clause-families g c = c.keep_next.ensures.families c.args.program.now c.in_ok-stop.ensures.families

pub returns-in-Pauses-clause-fits : goal.returns-in-Pauses-clause-fits
returns-in-Pauses-clause-fits g c =
    let P = c.args.program.now in
    let seen = g.P.Proc.seen P in
    let s = state_of seen c.args.self.now in
    let p = actor_place c.args.actor.now in
    let who = steps_there (g.P.Proc.language P) s p c.requires.can in
    let at = c.in_ok-stop.ensures.advances who.0 who.1 in
    subst (λ m. g.P.Proc.Fits P c.advance_one.new.self.work (record { procs = m; chans = chans_of c.advance_one.new.self.channels })) (sym (c.keep_next.ensures.processes P ∙ at.1)) at.2.fits

pub returns-in-Pauses-clause-piece : goal.returns-in-Pauses-clause-piece
returns-in-Pauses-clause-piece g c =
    let P = c.args.program.now in
    let seen = g.P.Proc.seen P in
    let language = g.P.Proc.language P in
    let is_local = g.P.Proc.is_local P in
    let s = state_of seen c.args.self.now in
    let p = actor_place c.args.actor.now in
    let who = steps_there language s p c.requires.can in
    let at = c.in_ok-stop.ensures.advances who.0 who.1 in
    let a = c.in_ok-stop.field-0 in
    let cs = chans_of c.advance_one.new.self.channels in
    let stops = subst (λ (z : Stop _ _). StopsSo language is_local (g.P.Proc.IsNext P) (g.P.Proc.MeetsIt P) c.args.slice c.args.spare s p at.0 a.steps z) c.in-Pauses.is at.2.stops in
    let there = ap (λ m. record { procs = m; chans = cs }) (sym (c.keep_next.ensures.processes P ∙ at.1)) in
    subst (λ (r : Piece). IsPiece language is_local c.args.slice c.args.spare s p r (record { procs = procs_of seen c.keep_next.new.self; chans = cs })) (sym c.local_piece.ensures)
    (subst (λ t. IsPiece language is_local c.args.slice c.args.spare s p (record { steps = a.steps; cost = a.cost; block = 0; started = 0 }) t) there
    (pause_piece language is_local c.args.slice c.args.spare s (changed_at s p at.0 cs) p a.steps a.cost at.2.makes stops.1 stops.2))

pub returns-in-Pauses-clause-order : goal.returns-in-Pauses-clause-order
returns-in-Pauses-clause-order g c =
    c.keep_next.ensures.order ∙ c.in_ok-stop.ensures.order ∙ sym (append-nil (order_of c.args.self.now.entries))
    ∙ ap (λ (q : Piece). order_of c.args.self.now.entries ++ child_places (actor_place c.args.actor.now) q.block 1 q.started) (sym c.local_piece.ensures)

pub event_or_wait-requires-clause-actor : goal.event_or_wait-requires-clause-actor
event_or_wait-requires-clause-actor g c = ap (λ (ps : List Place). slice_get ps c.args.actor.now.number) c.in_ok-stop.ensures.order ∙ c.requires.actor

pub event_or_wait-requires-clause-fits : goal.event_or_wait-requires-clause-fits
event_or_wait-requires-clause-fits g c =
    let P = c.args.program.now in
    let seen = g.P.Proc.seen P in
    let s = state_of seen c.args.self.now in
    let p = actor_place c.args.actor.now in
    let who = steps_there (g.P.Proc.language P) s p c.requires.can in
    let at = c.in_ok-stop.ensures.advances who.0 who.1 in
    subst (λ m. g.P.Proc.Fits P c.advance_one.new.self.work (record { procs = m; chans = chans_of c.advance_one.new.self.channels })) (sym at.1) at.2.fits

pub event_or_wait-requires-clause-new : goal.event_or_wait-requires-clause-new
event_or_wait-requires-clause-new g c =
    let P = c.args.program.now in
    let seen = g.P.Proc.seen P in
    let language = g.P.Proc.language P in
    let s = state_of seen c.args.self.now in
    let p = actor_place c.args.actor.now in
    let who = steps_there language s p c.requires.can in
    let at = c.in_ok-stop.ensures.advances who.0 who.1 in
    let cs = chans_of c.advance_one.new.self.channels in
    subst (λ m. IsNewAt language (record { procs = m; chans = cs }) p) (sym at.1)
    (subst (λ t. IsNewAt language t p) at.2.makes.leads.there (c.requires.new c.in_ok-stop.field-0.steps at.2.makes.leads.legal))

pub event_or_wait-requires-clause-event : goal.event_or_wait-requires-clause-event
event_or_wait-requires-clause-event g c = λ y is.
    let P = c.args.program.now in
    let seen = g.P.Proc.seen P in
    let language = g.P.Proc.language P in
    let s = state_of seen c.args.self.now in
    let p = actor_place c.args.actor.now in
    let who = steps_there language s p c.requires.can in
    let at = c.in_ok-stop.ensures.advances who.0 who.1 in
    let stops = subst (λ (z : Stop _ _). StopsSo language (g.P.Proc.is_local P) (g.P.Proc.IsNext P) (g.P.Proc.MeetsIt P) c.args.slice c.args.spare s p at.0 c.in_ok-stop.field-0.steps z) c.in-Meets.is at.2.stops in
    let same : at.0 ≡ y = cc (sym (ap (λ m. get m p) at.1 ∙ insert_here path_order s.procs p at.0) ∙ is) in
    subst (λ v. g.P.Proc.MeetsIt P v c.in-Meets.event) same stops.0

pub event_or_wait-requires-clause-told : goal.event_or_wait-requires-clause-told
event_or_wait-requires-clause-told g c = c.in_ok-stop.ensures.told c.requires.told

pub returns-in-Meets-clause-piece : goal.returns-in-Meets-clause-piece
returns-in-Meets-clause-piece g c =
    let P = c.args.program.now in
    let seen = g.P.Proc.seen P in
    let language = g.P.Proc.language P in
    let is_local = g.P.Proc.is_local P in
    let s = state_of seen c.args.self.now in
    let p = actor_place c.args.actor.now in
    let who = steps_there language s p c.requires.can in
    let at = c.in_ok-stop.ensures.advances who.0 who.1 in
    let a = c.in_ok-stop.field-0 in
    let cs = chans_of c.advance_one.new.self.channels in
    let t = changed_at s p at.0 cs in
    let stops = subst (λ (z : Stop _ _). StopsSo language is_local (g.P.Proc.IsNext P) (g.P.Proc.MeetsIt P) c.args.slice c.args.spare s p at.0 a.steps z) c.in-Meets.is at.2.stops in
    let shared = ap (is_local_in is_local) (insert_here path_order s.procs p at.0) ∙ stops.1 in
    IfOk-weaker c.event_or_wait.result _ _ (λ r made.
    meets_piece language is_local c.args.slice c.args.spare s t p a.steps a.cost at.2.makes stops.2 stops.3 stops.4 shared c.requires.can r (state_of seen c.event_or_wait.new.self)
    (subst (λ m. StepsOrWaits language (record { procs = m; chans = cs }) p a.steps a.cost r (state_of seen c.event_or_wait.new.self)) at.1 made)) c.event_or_wait.ensures.steps

pub returns-in-Meets-clause-order : goal.returns-in-Meets-clause-order
returns-in-Meets-clause-order g c = IfOk-weaker c.event_or_wait.result _ _ (λ r order.
    order ∙ ap (λ (ps : List Place). ps ++ child_places (actor_place c.args.actor.now) r.block 1 r.started) c.in_ok-stop.ensures.order) c.event_or_wait.ensures.order

pub advance_one-requires-clause-new : goal.advance_one-requires-clause-new
advance_one-requires-clause-new g c = c.requires.new 0 tt

pub returns-in-Meets-clause-waking : goal.returns-in-Meets-clause-waking
returns-in-Meets-clause-waking g c = IfOk-weaker c.event_or_wait.result _ _ (λ u waking. wakes_all_then c.args.self.now.channels c.advance_one.new.self.channels c.event_or_wait.new.self.channels c.in_ok-stop.ensures.waking waking) c.event_or_wait.ensures.waking
