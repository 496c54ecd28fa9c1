use Rattle.std.proofs.Common.{◌∙◌}
use Rattle.fm_names_constants.proofs.Steps.{statements_next}
use Rattle.fm_names_constants.proofs.judging.judge_constants.Goals as goal

pub specs-preserved : goal.specs-preserved
specs-preserved c =
    rw c.judge_statement-best.ensures
    (statements_next c.args.known.now c.args.types.now c.specs.best c.args.specs.now c.specs.at c.index-specs-at.result c.specs-test.true c.index-specs-at.is ∙ c.specs.invariant)
