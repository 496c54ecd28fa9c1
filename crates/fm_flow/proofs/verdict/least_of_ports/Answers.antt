use Rattle.std.proofs.Common.{ap, ◌∙◌}
use Rattle.std.proofs.lemmas.Result.{IfOk-weaker}
use Rattle.fm_plain_frame.specs.Units.{unit_of}
use Rattle.fm_flow.proofs.Searched.{port_search}
use Rattle.fm_flow.proofs.verdict.least_of_ports.Goals as goal

pub returns : goal.returns
returns c =
    IfOk-weaker c.risky_from.result _ _
    (λ line is. port_search c.args.unit.now.program.now _ (unit_of c.args.unit.now) _ c.args.best _ line _ _ _ c.program.ensures (c.as_slice-body.ensures ∙ ap (λ x. x.body) c.tree.ensures) c.in_ok-met.ensures
    c.in_ok-shared.ensures c.in_ok-risks.ensures c.as_slice.ensures is)
    c.risky_from.ensures
