use Rattle.fm_expr.proofs.Laws.{one_expression_law}
use Rattle.fm_expr.proofs.one_expression.Goals as goal

pub returns : goal.returns
returns c = one_expression_law
