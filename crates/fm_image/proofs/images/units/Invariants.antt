use Rattle.std.proofs.Common.{drop}
use Rattle.fm_image.proofs.Steps.{UnitsGo}
use Rattle.fm_image.proofs.images.units.Given as goal

abbrev pub invariant-units : goal.invariant-units
invariant-units l = UnitsGo l.initial.types l.types l.units (drop l.number l.trees) (drop l.number l.names) (drop l.number l.code) l.trees l.names l.code
