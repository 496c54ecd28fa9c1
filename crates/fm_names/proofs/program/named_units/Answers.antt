use Rattle.fm_names.proofs.Broken.{named_more}
use Rattle.fm_names.proofs.program.named_units.Goals as goal

pub units-preserved : goal.units-preserved
units-preserved c =
    named_more c.args.titles.now c.args.units.now c.units.unit-index c.unit-item.result c.units.best c.in_ok-best.best c.units.names c.add_unit.new.names
    c.units-test.true c.unit-item.is c.in_ok-best.ensures.best c.in_ok-best.ensures.names c.units.invariant
