use Rattle.std.proofs.Common.{arith}
use Rattle.fm_types.proofs.Places.{units_more}
use Rattle.fm_types.proofs.program.least_place.Goals as goal

pub units-preserved : goal.units-preserved
units-preserved c =
    units_more c.args.names.now c.args.context.now c.args.units.now c.units.number c.index-units-number.result c.units.best c.keep_unit_at-best.result _
    (omega arith) c.index-units-number.is c.keep_unit_at-best.ensures c.units.invariant
