use Rattle.std.proofs.Common.{◌≡◌, drop}
use Rattle.fm_base.specs.Verdict.{least, least_from}
use Rattle.fm_rules.specs.BrokenPorts.{broken_from, broken_ports}
use Rattle.fm_ports.proofs.walk.least_broken.Given as goal

abbrev pub invariant-units : goal.invariant-units
invariant-units l = least_from l.best (broken_from l.names.units l.context l.number (drop l.number l.units)) ≡ least (broken_ports l.units l.names.units l.context)
