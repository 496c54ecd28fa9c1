use Rattle.std.proofs.Common.{ap, sym, ◌∙◌}
use Rattle.std.proofs.lemmas.Result.{IfOk-weaker}
use Rattle.fm_code.specs.declared.body.Frame.{Frame}
use Rattle.fm_proc_simulation.specs.Shown.{body_shown, frame_shown}
use Rattle.fm_proc_simulation.proofs.variables.shown_in.Goals as goal

pub returns-in-Some : goal.returns-in-Some
returns-in-Some c =
    let p = c.args.program.now in
    let s = c.args.slots.now in
    IfOk-weaker c.shown_of.result _ _ (λ v shows. shows ∙ ap (λ (m : Frame). frame_shown p s m) c.own_frame.ensures ∙ sym (ap (body_shown p s) c.in-Some.is)) c.shown_of.ensures
