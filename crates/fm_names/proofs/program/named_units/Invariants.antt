use Rattle.std.proofs.Common.{drop}
use Rattle.fm_names.proofs.Broken.{Named}
use Rattle.fm_names.proofs.program.named_units.Given as goal

abbrev pub invariant-units : goal.invariant-units
invariant-units l = Named l.titles l.best l.names (drop l.unit-index l.units) l.units
