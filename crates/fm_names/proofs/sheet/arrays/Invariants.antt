use Rattle.std.proofs.Common.{◌≡◌, drop}
use Rattle.fm_symbols.specs.ByName.{first_of_each, with_all}
use Rattle.fm_rules.specs.Sheets.{shapes_from}
use Rattle.fm_names.specs.KeptSheets.{kept_array, with_values}
use Rattle.fm_names.proofs.sheet.arrays.Given as goal

abbrev pub invariant-specs : goal.invariant-specs
invariant-specs l = with_all l.arrays (with_values kept_array (shapes_from l.known l.at (drop l.at l.specs))) ≡ first_of_each (with_values kept_array (shapes_from l.known 0 l.specs))
