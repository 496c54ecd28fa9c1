use Rattle.fm_verify_unit.proofs.evaluating.evaluate.Goals as goal

pub returns-in-Dimension : goal.returns-in-Dimension
returns-in-Dimension c = rw c.in-Dimension.is (c.dimension.ensures c.in-Dimension.field-0)
