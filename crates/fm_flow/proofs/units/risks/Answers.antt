use Rattle.std.proofs.Common.{true, ap, ◌∙◌}
use Rattle.std.proofs.lemmas.Result.{IfOk-weaker}
use Rattle.fm_rules.specs.Calls.{all_calls}
use Rattle.fm_flow.proofs.Risks.{risks_found}
use Rattle.fm_flow.proofs.units.risks.Goals as goal

pub returns : goal.returns
returns c =
    IfOk-weaker c.risks_from.result _ _
    (λ risks is. risks_found c.args.program.now _ _ _ _ _ _ _ _ _ _ _ risks (c.as_slice-units.ensures ∙ ap (λ x. x.units) c.units.ensures) (c.in_ok-calls.ensures ∙ ap (all_calls true c.as_slice-units.result.now) c.context.ensures)
    c.as_slice.ensures c.in_ok-arcs.ensures c.as_slice-2.ensures c.in_ok-node.ensures c.in_ok-graph.ensures c.deref.ensures.value c.in_ok-names.ensures c.deref-2.ensures.value
    (c.as_slice-3.ensures ∙ ap (λ x. x.units) c.names.ensures) is)
    c.risks_from.ensures
