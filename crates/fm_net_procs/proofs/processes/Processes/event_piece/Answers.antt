use Rattle.std.proofs.Common.{◌++◌, List, Some, ap, sym, subst, ◌∙◌}
use Rattle.std.proofs.lemmas.Result.{IfOk-weaker}
use Rattle.std.specs.Prelude.{slice_get}
use Rattle.fm_chan.specs.Bodies.{chans_of}
use Rattle.fm_net.specs.Machine.{Place}
use Rattle.fm_net.specs.Starts.{child_places}
use Rattle.fm_net_procs.specs.declared.piece.Piece.{Piece}
use Rattle.fm_net_procs.specs.Readings.{actor_place, order_of, state_of}
use Rattle.fm_net_procs.proofs.Families.{there_more}
use Rattle.fm_net_procs.proofs.processes.Processes.event_piece.Goals as goal

pub look-requires : goal.look-requires
look-requires g c =
    let p = actor_place c.args.actor.now in
    ap (λ (ps : List Place). slice_get ps c.args.actor.now.number) c.in_ok-stepped.ensures.order
    ∙ there_more (order_of c.args.self.now.entries) (child_places p c.in_ok-stepped.stepped.block 1 c.in_ok-stepped.stepped.started) c.args.actor.now.number p c.requires.actor

pub returns-clause-told : goal.returns-clause-told
returns-clause-told g c = IfOk-weaker c.with_step.result _ _ (λ r is. c.in_ok-look.ensures.told (c.in_ok-stepped.ensures.told c.requires.told)) c.with_step.ensures

pub returns-clause-families : goal.returns-clause-families
returns-clause-families g c = IfOk-weaker c.with_step.result _ _ (λ r is. c.in_ok-look.ensures.families c.args.program.now c.in_ok-stepped.ensures.families) c.with_step.ensures

pub returns-clause-fits : goal.returns-clause-fits
returns-clause-fits g c =
    let P = c.args.program.now in
    let seen = g.P.Proc.seen P in
    IfOk-weaker c.with_step.result _ _ (λ r is.
    subst (λ m. g.P.Proc.Fits P c.look.new.work (record { procs = m; chans = chans_of c.step.new.self.channels })) (sym (c.in_ok-look.ensures.processes P))
    (c.in_ok-look.ensures.fits (state_of seen c.step.new.self) c.in_ok-stepped.ensures.fits)) c.with_step.ensures

pub returns-clause-steps : goal.returns-clause-steps
returns-clause-steps g c = IfOk-weaker c.with_step.result _ _ (λ r is. record {
  paid = c.in_ok-stepped.stepped.cost;
  leads = c.in_ok-stepped.ensures.step ∙ ap (λ m. Some (record { procs = m; chans = chans_of c.step.new.self.channels }, c.in_ok-stepped.stepped.cost)) (sym (c.in_ok-look.ensures.processes c.args.program.now));
  starts = c.in_ok-stepped.ensures.starts ∙ ap (λ (q : Piece). child_places (actor_place c.args.actor.now) q.block 1 q.started) (sym is);
  steps_are = ap (λ (q : Piece). q.steps) is;
  cost_is = ap (λ (q : Piece). q.cost) is;
}) c.with_step.ensures

pub returns-clause-waking : goal.returns-clause-waking
returns-clause-waking g c = IfOk-weaker c.with_step.result _ _ (λ r is. c.in_ok-stepped.ensures.waking) c.with_step.ensures

pub returns-clause-order : goal.returns-clause-order
returns-clause-order g c = IfOk-weaker c.with_step.result _ _ (λ r is.
    c.in_ok-look.ensures.order ∙ c.in_ok-stepped.ensures.order ∙ ap (λ (q : Piece). order_of c.args.self.now.entries ++ child_places (actor_place c.args.actor.now) q.block 1 q.started) (sym is)) c.with_step.ensures
