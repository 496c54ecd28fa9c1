use Rattle.std.proofs.Common.{◌≡◌, drop}
use Rattle.fm_base.specs.Verdict.{least_from}
use Rattle.fm_rules.specs.BrokenPorts.{broken_body}
use Rattle.fm_ports.proofs.walk.body.Given as goal

abbrev pub invariant-entries : goal.invariant-entries
invariant-entries l =
    least_from l.best (broken_body l.site.all.now.units l.site.names.now l.site.context.now l.site.scope.now (drop l.entry-index l.entries))
    ≡ least_from l.fn.best (broken_body l.site.all.now.units l.site.names.now l.site.context.now l.site.scope.now l.entries)
