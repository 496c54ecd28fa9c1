use Rattle.std.proofs.Common.{sym, ap, ◌∙◌, subst}
use Rattle.std.specs.Prelude.{None, false, option_map}
use Rattle.std.proofs.lemmas.Result.{IfOk-weaker}
use Rattle.fm_plain_frame.specs.Units.{unit_of}
use Rattle.fm_rules.specs.declared.program.Program.{Program}
use Rattle.fm_flow_law.specs.Ends.{ComesToItsEnd}
use Rattle.fm_flow_law.specs.Flow.{IsFlowVerdict}
use Rattle.fm_flow.specs.Walks.{IsPortSearch, foreign_from}
use Rattle.fm_flow.proofs.Found.{flow_found, main_is, no_main}
use Rattle.fm_flow.proofs.Promised.{comes_to_its_end}
use Rattle.fm_flow.proofs.Searched.{wide_search}
use Rattle.fm_flow.proofs.verdict.flow.Goals as goal

pub returns-in-None-clause-verdict : goal.returns-in-None-clause-verdict
returns-in-None-clause-verdict c =
    let p = c.args.program.now in
    no_main (IsFlowVerdict p None) p c.main.result c.main.ensures (sym c.new.ensures.unit ∙ ap (option_map unit_of) c.in-None.is)

pub returns-in-None-clause-promise : goal.returns-in-None-clause-promise
returns-in-None-clause-promise c = λ none.
    let p = c.args.program.now in
    no_main (ComesToItsEnd p) p c.main.result c.main.ensures (sym c.new.ensures.unit ∙ ap (option_map unit_of) c.in-None.is)

pub returns-clause-verdict : goal.returns-clause-verdict
returns-clause-verdict c =
    let p = c.args.program.now in
    let u = unit_of c.in-Some.unit in
    IfOk-weaker c.least_ring.result _ (IsFlowVerdict p)
    (λ line rings. flow_found p c.main.result u _ _ _ line (main_is p c.main.result c.main.ensures) (sym c.new.ensures.unit ∙ ap (option_map unit_of) c.in-Some.is)
    (wide_search u _ _ _ _ c.variables.ensures.variables c.in_ok-ports.ensures (c.as_slice.ensures ∙ ap (λ x. x.specs) c.tree.ensures) c.wide_from-wide.ensures)
    (c.foreign_from-foreign.ensures ∙ ap (foreign_from false c.wide_from-wide.result) (c.as_slice-2.ensures ∙ ap (λ x. x.body) c.tree-2.ensures)) (subst (λ (q : Program). IsPortSearch q u c.foreign_from-foreign.result c.in_ok-risky.risky) c.in-Some.ensures.program c.in_ok-risky.ensures) rings)
    c.least_ring.ensures

pub returns-clause-promise : goal.returns-clause-promise
returns-clause-promise c =
    let p = c.args.program.now in
    IfOk-weaker c.least_ring.result (IsFlowVerdict p) _ (λ line told none. comes_to_its_end p line told none) (returns-clause-verdict c)
