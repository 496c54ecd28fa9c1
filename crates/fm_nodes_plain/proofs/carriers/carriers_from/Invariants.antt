use Rattle.std.proofs.Common.{◌≡◌, None, drop}
use Rattle.fm_nodes_plain.specs.Search.{carriers_from}
use Rattle.fm_nodes_plain.proofs.carriers.carriers_from.Given as goal

abbrev pub invariant-units : goal.invariant-units
invariant-units l = carriers_from l.flags l.unit l.best (drop l.unit l.units) ≡ carriers_from l.flags 0 None l.units
