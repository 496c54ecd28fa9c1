use Rattle.fm_base.specs.Verdict.{least}
use Rattle.fm_rules.specs.BrokenPorts.{broken_ports}
use Rattle.fm_ports.proofs.Walks.{unit_next}
use Rattle.fm_ports.proofs.walk.least_broken.Goals as goal

pub units-preserved : goal.units-preserved
units-preserved c =
    unit_next c.args.names.now.units c.args.context.now c.args.units.now c.units.number c.index-units-number.result c.units.best c.unit-best.result
    (least (broken_ports c.args.units.now c.args.names.now.units c.args.context.now))
    c.units-test.true c.index-units-number.is c.unit-best.ensures c.units.invariant
