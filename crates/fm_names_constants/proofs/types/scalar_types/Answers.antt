use Rattle.std.proofs.Common.{◌∙◌}
use Rattle.fm_names_constants.proofs.Steps.{types_next}
use Rattle.fm_names_constants.proofs.types.scalar_types.Goals as goal

pub specs-preserved : goal.specs-preserved
specs-preserved c =
    rw c.in_ok-add_statement.ensures (types_next c.specs.declared c.args.specs.now c.specs.placed-index c.placed-item.result c.specs-test.true c.placed-item.is ∙ c.specs.invariant)
