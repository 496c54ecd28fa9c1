use Rattle.std.proofs.Common.{length, ap, arith}
use Rattle.fm_plain_passing.proofs.EnterLaws.{formal_within}
use Rattle.fm_plain_passing.proofs.entering.enter_one.Goals as goal

pub overflow_cast-formal : goal.overflow_cast-formal
overflow_cast-formal c = omega (arith, formal_within 0 c.args.number c.variables-variables.result.now, ap length c.variables-variables.ensures.variables)
