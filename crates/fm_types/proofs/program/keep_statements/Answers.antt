use Rattle.std.proofs.Common.{arith}
use Rattle.fm_rules.specs.BrokenTypes.{broken_in_statement}
use Rattle.fm_types.proofs.Places.{least_more}
use Rattle.fm_types.proofs.program.keep_statements.Goals as goal

pub statements-preserved : goal.statements-preserved
statements-preserved c =
    least_more (broken_in_statement c.args.context.now c.args.scope.now c.args.variables.now) c.args.placed.now c.statements.index c.index-placed-index.result c.statements.best c.keep_statement-best.result _
    (omega arith) c.index-placed-index.is c.keep_statement-best.ensures c.statements.invariant
