use Rattle.std.proofs.Common.{◌≡◌, ◌++◌, false, List, inl, ap, sym, subst, ◌∙◌}
use Rattle.std.proofs.lemmas.Result.{IfOk-weaker}
use Rattle.std.specs.Prelude.{IfSome, is_some, slice_get}
use Rattle.std.specs.FinMap.{get}
use Rattle.fm_chan.specs.Bodies.{chans_of}
use Rattle.fm_net.specs.Language.{language_step}
use Rattle.fm_net.specs.Machine.{Place}
use Rattle.fm_net.specs.Starts.{child_places}
use Rattle.fm_net_procs.specs.Pieces.{IsNewAlong, IsNewAt, IsPiece, StepsOrWaits, is_local_in}
use Rattle.fm_net_procs.specs.Readings.{actor_place, state_of}
use Rattle.fm_net_procs.proofs.Slices.{one_piece}
use Rattle.fm_net_procs.proofs.Steps.{steps_there}
use Rattle.fm_net_procs.proofs.processes.Processes.make_piece.Goals as goal

pub event_piece-requires-clause-families : goal.event_piece-requires-clause-families
event_piece-requires-clause-families g c = c.take_next-next.ensures.families c.args.program.now c.requires.families

pub event_piece-requires-clause-actor : goal.event_piece-requires-clause-actor
event_piece-requires-clause-actor g c = ap (λ (ps : List Place). slice_get ps c.args.actor.now.number) c.take_next-next.ensures.order ∙ c.requires.actor

pub event_piece-requires-clause-fits : goal.event_piece-requires-clause-fits
event_piece-requires-clause-fits g c =
    let P = c.args.program.now in
    subst (λ m. g.P.Proc.Fits P c.args.self.now.work (record { procs = m; chans = chans_of c.args.self.now.channels })) (sym (c.take_next-next.ensures.processes P)) c.requires.fits

pub event_piece-requires-clause-can : goal.event_piece-requires-clause-can
event_piece-requires-clause-can g c =
    let P = c.args.program.now in
    ap (λ m. is_some (language_step (g.P.Proc.language P) (record { procs = m; chans = chans_of c.args.self.now.channels }) (actor_place c.args.actor.now))) (c.take_next-next.ensures.processes P) ∙ c.requires.can

pub event_piece-requires-clause-new : goal.event_piece-requires-clause-new
event_piece-requires-clause-new g c =
    let P = c.args.program.now in
    subst (λ m. IsNewAt (g.P.Proc.language P) (record { procs = m; chans = chans_of c.args.self.now.channels }) (actor_place c.args.actor.now)) (sym (c.take_next-next.ensures.processes P)) (c.requires.new 0 tt)

pub event_piece-requires-clause-event : goal.event_piece-requires-clause-event
event_piece-requires-clause-event g c = λ y is.
    let P = c.args.program.now in
    let is' = sym (ap (λ m. get m (actor_place c.args.actor.now)) (c.take_next-next.ensures.processes P)) ∙ is in
    (subst (λ o. IfSome o (λ e. g.P.Proc.MeetsIt P y e × (g.P.Proc.is_local P y ≡ false))) (sym c.into_event.ensures.event ∙ c.in-Some.is) (c.into_event.ensures.meets P y (c.take_next-next.ensures.next P y c.requires.told is'))).0

pub event_piece-requires-clause-told : goal.event_piece-requires-clause-told
event_piece-requires-clause-told g c = c.take_next-next.ensures.told c.args.program.now c.requires.told

pub returns-in-Some-clause-piece : goal.returns-in-Some-clause-piece
returns-in-Some-clause-piece g c =
    let P = c.args.program.now in
    let seen = g.P.Proc.seen P in
    let language = g.P.Proc.language P in
    let s = state_of seen c.args.self.now in
    let p = actor_place c.args.actor.now in
    let who = steps_there language s p c.requires.can in
    let meets = subst (λ o. IfSome o (λ e. g.P.Proc.MeetsIt P who.0 e × (g.P.Proc.is_local P who.0 ≡ false))) (sym c.into_event.ensures.event ∙ c.in-Some.is) (c.into_event.ensures.meets P who.0 (c.take_next-next.ensures.next P who.0 c.requires.told who.1)) in
    let shared = ap (is_local_in (g.P.Proc.is_local P)) who.1 ∙ meets.1 in
    IfOk-weaker c.event_piece.result _ _ (λ r made.
    one_piece language (g.P.Proc.is_local P) c.args.slice c.args.spare s (state_of seen c.event_piece.new.self) p c.requires.some shared c.requires.can r
    (subst (λ m. StepsOrWaits language (record { procs = m; chans = s.chans }) p 0 0 r (state_of seen c.event_piece.new.self)) (c.take_next-next.ensures.processes P) (inl made))) c.event_piece.ensures.steps

pub returns-in-Some-clause-order : goal.returns-in-Some-clause-order
returns-in-Some-clause-order g c = IfOk-weaker c.event_piece.result _ _ (λ r order.
    order ∙ ap (λ (ps : List Place). ps ++ child_places (actor_place c.args.actor.now) r.block 1 r.started) c.take_next-next.ensures.order) c.event_piece.ensures.order

pub running_piece-requires-clause-families : goal.running_piece-requires-clause-families
running_piece-requires-clause-families g c = c.take_next-next.ensures.families c.args.program.now c.requires.families

pub running_piece-requires-clause-actor : goal.running_piece-requires-clause-actor
running_piece-requires-clause-actor g c = ap (λ (ps : List Place). slice_get ps c.args.actor.now.number) c.take_next-next.ensures.order ∙ c.requires.actor

pub running_piece-requires-clause-fits : goal.running_piece-requires-clause-fits
running_piece-requires-clause-fits g c =
    let P = c.args.program.now in
    subst (λ m. g.P.Proc.Fits P c.args.self.now.work (record { procs = m; chans = chans_of c.args.self.now.channels })) (sym (c.take_next-next.ensures.processes P)) c.requires.fits

pub running_piece-requires-clause-can : goal.running_piece-requires-clause-can
running_piece-requires-clause-can g c =
    let P = c.args.program.now in
    ap (λ m. is_some (language_step (g.P.Proc.language P) (record { procs = m; chans = chans_of c.args.self.now.channels }) (actor_place c.args.actor.now))) (c.take_next-next.ensures.processes P) ∙ c.requires.can

pub running_piece-requires-clause-new : goal.running_piece-requires-clause-new
running_piece-requires-clause-new g c =
    let P = c.args.program.now in
    subst (λ m. IsNewAlong (g.P.Proc.language P) (record { procs = m; chans = chans_of c.args.self.now.channels }) (actor_place c.args.actor.now)) (sym (c.take_next-next.ensures.processes P)) c.requires.new

pub running_piece-requires-clause-goes : goal.running_piece-requires-clause-goes
running_piece-requires-clause-goes g c = λ y is.
    let P = c.args.program.now in
    let is' = sym (ap (λ m. get m (actor_place c.args.actor.now)) (c.take_next-next.ensures.processes P)) ∙ is in
    (c.take_next-next.result, c.take_next-next.ensures.next P y c.requires.told is', sym c.into_event.ensures.event ∙ c.in-None.is)

pub running_piece-requires-clause-told : goal.running_piece-requires-clause-told
running_piece-requires-clause-told g c = c.take_next-next.ensures.told c.args.program.now c.requires.told

pub returns-in-None-clause-piece : goal.returns-in-None-clause-piece
returns-in-None-clause-piece g c =
    let P = c.args.program.now in
    let seen = g.P.Proc.seen P in
    let language = g.P.Proc.language P in
    let p = actor_place c.args.actor.now in
    IfOk-weaker c.running_piece.result _ _ (λ r made.
    subst (λ m. IsPiece language (g.P.Proc.is_local P) c.args.slice c.args.spare (record { procs = m; chans = chans_of c.args.self.now.channels }) p r (state_of seen c.running_piece.new.self)) (c.take_next-next.ensures.processes P) made) c.running_piece.ensures.piece

pub returns-in-None-clause-order : goal.returns-in-None-clause-order
returns-in-None-clause-order g c = IfOk-weaker c.running_piece.result _ _ (λ r order.
    order ∙ ap (λ (ps : List Place). ps ++ child_places (actor_place c.args.actor.now) r.block 1 r.started) c.take_next-next.ensures.order) c.running_piece.ensures.order
