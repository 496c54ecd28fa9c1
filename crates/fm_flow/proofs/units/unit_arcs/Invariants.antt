use Rattle.std.proofs.Common.{◌≡◌, ◌++◌, drop}
use Rattle.fm_flow.specs.Units.{arcs_from}
use Rattle.fm_flow.proofs.units.unit_arcs.Given as goal

abbrev pub invariant-units : goal.invariant-units
invariant-units l = l.arcs ++ arcs_from l.calls l.number (drop l.number l.units) ≡ arcs_from l.calls 0 l.units
