use Rattle.fm_expr.proofs.Laws.{expr_at_longest, expr_at_whole}
use Rattle.fm_expr.proofs.expr_at_is_longest.Goals as goal

pub returns-clause-longest : goal.returns-clause-longest
returns-clause-longest c = expr_at_longest

pub returns-clause-whole : goal.returns-clause-whole
returns-clause-whole c = expr_at_whole
