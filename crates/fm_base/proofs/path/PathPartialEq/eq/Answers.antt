use Rattle.std.proofs.Common.{◌≡◌, ◌∙◌, ap, sym}
use Rattle.std.specs.Ordering.{is_eq}
use Rattle.fm_base.specs.PathOrder.{path_cmp}
use Rattle.fm_base.specs.PathOrderLaws.{path_ties}
use Rattle.fm_base.proofs.path.PathPartialEq.eq.Goals as goal

pub returns : goal.returns
returns c =
    c.is_eq.ensures
    ∙ ap is_eq (c.order_of_chains.ensures ∙ (λ i. path_cmp (c.self.view_is i) (c.other.view_is i)))
    ∙ sym (path_ties c.args.self.now c.args.other.now)
