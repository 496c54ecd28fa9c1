use Rattle.std.proofs.Common.{sym, subst, ap, ◌∙◌}
use Rattle.std.proofs.lemmas.Result.{IfOk-weaker}
use Rattle.fm_mean.specs.Actions.{Action, receives, receives_at}
use Rattle.fm_plain.specs.Standing.{ActsOn, frame_in, point_in}
use Rattle.fm_plain.proofs.messages.receives.Goals as goal

pub returns-in-Ok : goal.returns-in-Ok
returns-in-Ok c =
    let h = c.args.here.now in
    let f = c.args.top.now in
    IfOk-weaker c.received.result _ _ (λ r g. subst (λ (a : Action). ActsOn h (λ w below. a) f r f)
    (ap (λ o. receives_at (point_in h) c.in-Ok.receiving o) c.port-port.ensures ∙ sym (ap (λ m. receives (point_in h) (frame_in h f) m) c.in-Ok.ensures)) (g f)) c.received.ensures
