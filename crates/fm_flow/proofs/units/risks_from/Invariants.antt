use Rattle.std.proofs.Common.{◌≡◌, ◌++◌, drop}
use Rattle.fm_flow.specs.Units.{risks_from}
use Rattle.fm_flow.proofs.units.risks_from.Given as goal

abbrev pub invariant-units : goal.invariant-units
invariant-units l = l.risks ++ risks_from l.names l.number (drop l.number l.units) ≡ risks_from l.names 0 l.units
