use Rattle.std.proofs.Common.{◌≡◌, subst, ◌∙◌}
use Rattle.std.proofs.lemmas.Result.{err_from_is_err_and}
use Rattle.fm_object.specs.declared.image.Image.{Image}
use Rattle.fm_object.proofs.MalformedLaws.{one_object_text}
use Rattle.fm_execute_image.specs.Executed.{IsRunOf}
use Rattle.fm_execute.proofs.Refusals.{refused_never}
use Rattle.fm_execute.proofs.texts.execute_text.Goals as goal

pub returns-in_err-image-2-clause-whole : goal.returns-in_err-image-2-clause-whole
returns-in_err-image-2-clause-whole c = λ i object typed.
    let p = err_from_is_err_and c.from_residual-in_err-image-2.result c.from_residual-in_err-image-2.ensures.1 in
    rw (p.1, p.2) (refused_never c.args.bytes.now c.in_ok-image.image c.in_ok-image.ensures.object i object typed c.in_err-image-2.field-0.0 c.in_err-image-2.ensures.bad)

pub returns-clause-whole : goal.returns-clause-whole
returns-clause-whole c = λ i object typed.
    let same : c.in_ok-image-2.image ≡ i = c.in_ok-image-2.ensures.same ∙ one_object_text c.args.bytes.now c.in_ok-image.image i c.in_ok-image.ensures.object object in
    subst (λ (k : Image). IsRunOf k c.args.turns c.in_ok-run.run') same (record { runs = c.in_ok-run.ensures.run; in_turn = c.in_ok-run.ensures.in_turn; fair = c.in_ok-run.ensures.fair })
