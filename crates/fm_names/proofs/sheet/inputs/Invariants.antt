use Rattle.std.proofs.Common.{◌≡◌, drop}
use Rattle.std.specs.List.{flat_map}
use Rattle.fm_symbols.specs.ByName.{with_all}
use Rattle.fm_rules.specs.Sheets.{inputs_of, intents_at}
use Rattle.fm_names.proofs.sheet.inputs.Given as goal

abbrev pub invariant-specs : goal.invariant-specs
invariant-specs l = with_all l.inputs (flat_map intents_at (drop l.placed-index l.specs)) ≡ inputs_of l.specs
