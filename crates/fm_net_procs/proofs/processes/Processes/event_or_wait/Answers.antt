use Rattle.std.proofs.Common.{◌≡◌, ◌++◌, append-nil, inl, inr, true, false, Option, Some, None, ap, sym, subst, rules, refl, ◌∙◌}
use Rattle.std.proofs.lemmas.Result.{IfOk-weaker}
use Rattle.std.specs.Prelude.{is_some}
use Rattle.std.specs.FinMap.{get}
use Rattle.fm_chan.specs.Bodies.{chans_of}
use Rattle.fm_chan.proofs.Waking.{wakes_nobody}
use Rattle.fm_net.specs.Starts.{child_places}
use Rattle.fm_net_procs.specs.declared.piece.Piece.{Piece}
use Rattle.fm_net_procs.specs.Readings.{actor_place, order_of, state_of}
use Rattle.fm_net_procs.specs.Waiting.{can_in}
use Rattle.fm_net_procs.proofs.processes.Processes.event_or_wait.Goals as goal

-- what stands at the event, by its number
able : {A : Type 0} (o : Option A) → is_some o ≡ false → o ≡ None
able None e = refl
able (Some x) e = absurd (cc e)

pub event_piece-requires-clause-can : goal.event_piece-requires-clause-can
event_piece-requires-clause-can g c =
    let P = c.args.program.now in
    let s = state_of (g.P.Proc.seen P) c.args.self.now in
    let can : c.in_ok-is_able.field-0 ≡ true = search rules in
    sym (ap (can_in (g.P.Proc.language P) s) c.requires.actor)
    ∙ sym (c.in_ok-is_able.ensures P c.requires.families c.requires.fits (λ q y at is. let same : actor_place c.args.actor.now ≡ q = cc (sym c.requires.actor ∙ at) in c.requires.event y (ap (get s.procs) same ∙ is)))
    ∙ can

pub returns-then-branch-clause-steps : goal.returns-then-branch-clause-steps
returns-then-branch-clause-steps g c = IfOk-weaker c.event_piece.result _ _ (λ r steps. inl steps) c.event_piece.ensures.steps

pub returns-clause-told : goal.returns-clause-told
returns-clause-told g c =
    let P = c.args.program.now in
    let s = state_of (g.P.Proc.seen P) c.args.self.now in
    let p = actor_place c.args.actor.now in
    let waits : c.in_ok-is_able.field-0 ≡ false = search rules in
    let not = sym (ap (can_in (g.P.Proc.language P) s) c.requires.actor)
    ∙ sym (c.in_ok-is_able.ensures P c.requires.families c.requires.fits (λ q y at is. let same : p ≡ q = cc (sym c.requires.actor ∙ at) in c.requires.event y (ap (get s.procs) same ∙ is)))
    ∙ waits in
    c.keep_next.ensures.told P (λ y is. c.waiting.ensures P c.args.self.now.work s p y is c.requires.fits (c.requires.event y is) not) c.requires.told

pub returns-clause-families : goal.returns-clause-families
returns-clause-families g c = c.keep_next.ensures.families c.args.program.now c.requires.families

pub returns-clause-fits : goal.returns-clause-fits
returns-clause-fits g c =
    let P = c.args.program.now in
    subst (λ m. g.P.Proc.Fits P c.args.self.now.work (record { procs = m; chans = chans_of c.args.self.now.channels })) (sym (c.keep_next.ensures.processes P)) c.requires.fits

pub returns-clause-steps : goal.returns-clause-steps
returns-clause-steps g c =
    let P = c.args.program.now in
    let s = state_of (g.P.Proc.seen P) c.args.self.now in
    let p = actor_place c.args.actor.now in
    let waits : c.in_ok-is_able.field-0 ≡ false = search rules in
    let not = sym (ap (can_in (g.P.Proc.language P) s) c.requires.actor)
    ∙ sym (c.in_ok-is_able.ensures P c.requires.families c.requires.fits (λ q y at is. let same : p ≡ q = cc (sym c.requires.actor ∙ at) in c.requires.event y (ap (get s.procs) same ∙ is)))
    ∙ waits in
    inr (record {
      waits = able _ not;
      stays = ap (λ m. record { procs = m; chans = chans_of c.args.self.now.channels }) (c.keep_next.ensures.processes P);
      piece = c.local_piece.ensures;
    })

pub returns-clause-waking : goal.returns-clause-waking
returns-clause-waking g c = wakes_nobody c.args.self.now.channels

pub returns-clause-order : goal.returns-clause-order
returns-clause-order g c =
    c.keep_next.ensures.order ∙ sym (append-nil (order_of c.args.self.now.entries))
    ∙ ap (λ (q : Piece). order_of c.args.self.now.entries ++ child_places (actor_place c.args.actor.now) q.block 1 q.started) (sym c.local_piece.ensures)
