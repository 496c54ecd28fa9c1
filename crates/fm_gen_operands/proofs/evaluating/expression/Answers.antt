use Rattle.fm_plain_frame.specs.Units.{unit_of}
use Rattle.fm_gen_operands.proofs.Follows.{keeps}
use Rattle.fm_gen_operands.proofs.evaluating.expression.Goals as goal

pub returns-clause-keeps : goal.returns-clause-keeps
returns-clause-keeps c = keeps c.args.unit.now.program.now c.number-number.result (unit_of c.args.unit.now) c.args.tree.now c.args.next c.number-number.ensures.unit
