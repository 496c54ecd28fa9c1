use Rattle.fm_cost_law.proofs.Shapes.{shapes_along}
use Rattle.fm_cost_law.proofs.shapes_fit.Goals as goal

pub returns : goal.returns
returns c = shapes_along
