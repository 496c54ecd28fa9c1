use Rattle.std.proofs.Common.{sym, ap, ◌∙◌}
use Rattle.std.proofs.lemmas.Result.{IfOk-weaker}
use Rattle.fm_object.specs.declared.image.Image.{Image}
use Rattle.fm_procs.specs.Readings.{state_of}
use Rattle.fm_execute_image.specs.Outcome.{outcome_of}
use Rattle.fm_execute_image.specs.Play.{IsLive}
use Rattle.fm_execute_image.proofs.Played.{shows_alike}
use Rattle.fm_execute.proofs.images.ImagesCoded.outcome.Goals as goal

pub returns : goal.returns
returns c =
    let i = c.args.source.now in
    let t = state_of c.args.stacks.now in
    IfOk-weaker c.outcome.result _ _
    (λ o is s stands. is ∙ ap (λ (j : Image). outcome_of j c.args.used t) c.image.ensures.image ∙ sym (shows_alike i (IsLive i) s t stands c.args.used))
    c.outcome.ensures
