use Rattle.std.proofs.Common.{◌≡◌, drop, map}
use Rattle.fm_symbols.specs.ByName.{with_all}
use Rattle.fm_rules.specs.Sheets.{is_in}
use Rattle.fm_names.proofs.sheet.add_inputs.Given as goal

abbrev pub invariant-names : goal.invariant-names
invariant-names l = with_all l.inputs (map (λ name. (name, is_in l.way)) (drop l.name-index l.names)) ≡ with_all l.fn.inputs (map (λ name. (name, is_in l.way)) l.names)
