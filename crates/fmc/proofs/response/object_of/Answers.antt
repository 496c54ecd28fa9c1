use Rattle.std.proofs.Common.{ap, ◌∙◌}
use Rattle.std.proofs.lemmas.Result.{IfOk-weaker}
use Rattle.fm_image.specs.ImageOf.{image_of}
use Rattle.fmc.proofs.Compiled.{written_fits}
use Rattle.fmc.proofs.response.object_of.Goals as goal

pub returns-clause-fits : goal.returns-clause-fits
returns-clause-fits c =
    let p = c.args.program.now in
    IfOk-weaker c.write.result _ _ (λ v readable. written_fits p c.in_ok-image.image v.items (c.in_ok-image.ensures ∙ ap (image_of p) c.in_ok-code.ensures.code) readable) c.write.ensures.readable
