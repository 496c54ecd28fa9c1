use Rattle.std.proofs.Common.{◌≡◌, unwrap_or, List, length, ap, ◌∙◌}
use Rattle.std.proofs.lemmas.Result.{IfOk-weaker}
use Rattle.fm_net.specs.Owned.{main_alone}
use Rattle.fm_object.specs.declared.image.UnitImage.{UnitImage}
use Rattle.fm_image_law.specs.Image.{main_from}
use Rattle.fm_shown.specs.First.{first_process_of}
use Rattle.fm_execute_image.proofs.Begun.{first_made}
use Rattle.fm_execute_image.proofs.first.first_stacks.Goals as goal

pub returns-clause-state : goal.returns-clause-state
returns-clause-state c =
    let i = c.args.image.now in
    let number : c.in_ok-number.number ≡ unwrap_or (main_from 0 i.units) (length i.units) =
    c.in_ok-number.ensures ∙ ap (λ (us : List UnitImage). unwrap_or (main_from 0 us) (length us)) c.as_slice.ensures in
    IfOk-weaker c.first_stacks.result _ _ (λ s is. is ∙ (λ t. main_alone (first_process_of (c.in_ok-made.ensures t) (number t))) ∙ first_made i) c.first_stacks.ensures.state
