use Rattle.std.proofs.Common.{ap, sym, ◌∙◌}
use Rattle.std.proofs.lemmas.Result.{IfOk-weaker}
use Rattle.fm_code.specs.declared.body.Frame.{Frame}
use Rattle.fm_execute_image.specs.Outcome.{body_shown, frame_shown}
use Rattle.fm_execute_image.proofs.rows.of_body.Goals as goal

pub returns-in-Some : goal.returns-in-Some
returns-in-Some c =
    let i = c.args.image.now in
    let s = c.args.slots.now in
    IfOk-weaker c.of_frame.result _ _ (λ v shows. shows ∙ ap (λ (m : Frame). frame_shown i s m) c.own_frame.ensures ∙ sym (ap (body_shown i s) c.in-Some.is)) c.of_frame.ensures
