use Rattle.std.proofs.Common.{ap, sym, ◌∙◌}
use Rattle.fm_mean.specs.Actions.{cut_item, cut_to, size_in}
use Rattle.fm_plain.proofs.cutting.cut_item.Goals as goal

pub returns-in-Some : goal.returns-in-Some
returns-in-Some c =
    c.cut_by.ensures ∙ ap (λ o. cut_to (size_in o) c.args.item) c.item_at.ensures
    ∙ sym (ap (λ o. cut_item c.args.before.now o c.args.item) c.in-Some.is)
