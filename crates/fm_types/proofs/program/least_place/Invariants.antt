use Rattle.std.proofs.Common.{◌≡◌, drop}
use Rattle.fm_base.specs.Verdict.{least, least_from}
use Rattle.fm_rules.specs.BrokenTypes.{broken_from, broken_types}
use Rattle.fm_types.proofs.program.least_place.Given as goal

abbrev pub invariant-units : goal.invariant-units
invariant-units l = least_from l.best (broken_from l.names l.context l.number (drop l.number l.units)) ≡ least (broken_types l.units l.names l.context)
