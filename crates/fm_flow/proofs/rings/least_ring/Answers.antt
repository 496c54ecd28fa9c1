use Rattle.std.proofs.Common.{ap, ◌∙◌}
use Rattle.std.proofs.lemmas.Result.{IfOk-weaker}
use Rattle.fm_plain_frame.specs.Units.{unit_of}
use Rattle.fm_flow.proofs.Searched.{ring_search}
use Rattle.fm_flow.proofs.rings.least_ring.Goals as goal

pub returns : goal.returns
returns c =
    IfOk-weaker c.rings_from.result _ _
    (λ line is. ring_search (unit_of c.args.unit.now) _ c.args.best line _ _ (c.as_slice-body.ensures ∙ ap (λ x. x.body) c.tree.ensures) c.in_ok-names.ensures c.deref.ensures.value is)
    c.rings_from.ensures
