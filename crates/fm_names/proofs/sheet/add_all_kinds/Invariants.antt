use Rattle.std.proofs.Common.{◌≡◌, drop}
use Rattle.fm_symbols.specs.ByName.{with_all}
use Rattle.fm_rules.specs.Sheets.{kinds_from}
use Rattle.fm_names_constants.specs.Kept.{kept_field_kind}
use Rattle.fm_names.specs.KeptSheets.{with_values}
use Rattle.fm_names.proofs.sheet.add_all_kinds.Given as goal

abbrev pub invariant-specs : goal.invariant-specs
invariant-specs l = with_all l.kinds (with_values kept_field_kind (kinds_from l.known l.at (drop l.at l.specs))) ≡ with_all l.fn.kinds (with_values kept_field_kind (kinds_from l.known 0 l.specs))
