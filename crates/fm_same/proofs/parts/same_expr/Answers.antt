use Rattle.fm_same.proofs.SamePrograms.{exact_tree}
use Rattle.fm_same.proofs.parts.same_expr.Goals as goal

pub returns : goal.returns
returns c = exact_tree c.eq.result c.args.first.now c.args.second.now c.eq.ensures
