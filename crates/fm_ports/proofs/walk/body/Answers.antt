use Rattle.fm_base.specs.Verdict.{least_from}
use Rattle.fm_rules.specs.BrokenPorts.{broken_body}
use Rattle.fm_ports.proofs.Walks.{entry_next}
use Rattle.fm_ports.proofs.walk.body.Goals as goal

pub entries-preserved : goal.entries-preserved
entries-preserved c =
    entry_next c.args.site.now.all.now.units c.args.site.now.names.now c.args.site.now.context.now c.args.site.now.scope.now c.args.entries.now c.entries.entry-index c.entry-item.result c.entries.best c.statement-best.result
    (least_from c.args.best (broken_body c.args.site.now.all.now.units c.args.site.now.names.now c.args.site.now.context.now c.args.site.now.scope.now c.args.entries.now))
    c.entries-test.true c.entry-item.is c.statement-best.ensures c.entries.invariant
