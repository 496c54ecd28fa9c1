use Rattle.std.proofs.Common.{◌≡◌, drop}
use Rattle.fm_base.specs.Verdict.{least_from}
use Rattle.fm_rules.specs.BrokenStructure.{wrong_titles}
use Rattle.fm_unit.proofs.headings.wrong_titles.Given as goal

abbrev pub invariant-units : goal.invariant-units
invariant-units l = least_from l.best (wrong_titles l.titles l.number (drop l.number l.units)) ≡ least_from l.fn.best (wrong_titles l.titles 0 l.units)
