use Rattle.std.proofs.Common.{◌≡◌, drop}
use Rattle.fm_base.specs.Verdict.{least_from}
use Rattle.fm_rules.specs.BrokenUnit.{broken_from, broken_in_unit}
use Rattle.fm_unit_structure.proofs.rules.structure.Given as goal

abbrev pub invariant-entries : goal.invariant-entries
invariant-entries l = least_from l.best (broken_from l.entries l.k (drop l.k l.entries)) ≡ least_from l.fn.best (broken_in_unit l.entries)
