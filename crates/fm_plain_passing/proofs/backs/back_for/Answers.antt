use Rattle.std.proofs.Common.{length, ap, arith}
use Rattle.fm_plain_passing.proofs.EnterLaws.{formal_within}
use Rattle.fm_plain_passing.proofs.backs.back_for.Goals as goal

pub overflow_cast-result : goal.overflow_cast-result
overflow_cast-result c = omega (arith, formal_within 0 c.args.number c.variables.result.now, ap length c.variables.ensures.variables)
