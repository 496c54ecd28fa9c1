use Rattle.std.proofs.Common.{◌∙◌, List, ap, arith}
use Rattle.fm_base.specs.Verdict.{least_from}
use Rattle.fm_rules.specs.declared.calls.Call.{Call}
use Rattle.fm_det.specs.Search.{back_calls}
use Rattle.fm_det.proofs.Backs.{all_back_more}
use Rattle.fm_det.proofs.recursive.all_back_calls.Goals as goal

pub units-preserved : goal.units-preserved
units-preserved c =
    all_back_more c.args.names.now c.args.calls.now c.units.unit c.index-calls-unit.result c.units.best c.back_calls-best.result (omega arith) c.index-calls-unit.is
    (c.back_calls-best.ensures ∙ ap (λ (cs : List Call). least_from c.units.best (back_calls c.args.names.now c.units.unit cs)) c.as_slice.ensures)
    ∙ c.units.invariant
