use Rattle.std.proofs.Common.{◌≡◌, ◌++◌, drop}
use Rattle.fm_rules.specs.Program.{all_links}
use Rattle.fm_unit.proofs.entry_links.all_links.Given as goal

abbrev pub invariant-units : goal.invariant-units
invariant-units l = l.all ++ all_links (drop l.unit-index l.units) ≡ all_links l.units
