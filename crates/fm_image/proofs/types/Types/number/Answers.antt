use Rattle.std.proofs.Common.{◌≡◌, ℕ, List, subst, sym, ap, ◌∙◌}
use Rattle.std.specs.Prelude.{IfOk}
use Rattle.fm_object.specs.declared.image.FieldImage.{FieldImage}
use Rattle.fm_image.specs.Types.{number_of}
use Rattle.fm_image.proofs.Needed.{put_there}
use Rattle.fm_image.proofs.types.Types.number.Goals as goal

pub returns-clause-number : goal.returns-clause-number
returns-clause-number c =
    let there = c.in_ok-number.ensures.index ∙ put_there c.self.inside.types.keys c.args.fields ∙ ap (λ (ts : List (List FieldImage)). number_of ts c.args.fields) (sym c.in_ok-number.ensures.keys) in
    subst (λ (m : ℕ). IfOk c.short.result (λ (n : ℕ). n ≡ m)) there c.short.ensures
