use Rattle.std.proofs.Common.{arith}
use Rattle.fm_rules.specs.BrokenTypes.{broken_in_entry}
use Rattle.fm_types.proofs.Places.{least_more}
use Rattle.fm_types.proofs.program.keep_entries.Goals as goal

pub entries-preserved : goal.entries-preserved
entries-preserved c =
    least_more (broken_in_entry c.args.context.now c.args.scope.now c.args.variables.now) c.args.body.now c.entries.index c.index-body-index.result c.entries.best c.keep_entry-best.result _
    (omega arith) c.index-body-index.is c.keep_entry-best.ensures c.entries.invariant
