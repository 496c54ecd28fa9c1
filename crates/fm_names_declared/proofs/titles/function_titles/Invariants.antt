use Rattle.std.proofs.Common.{◌≡◌, map, drop}
use Rattle.fm_symbols.specs.ByName.{with_all}
use Rattle.fm_symbols.specs.Titles.{heading_of, titles_from}
use Rattle.fm_rules.specs.FunctionTitles.{function_told, titles_of}
use Rattle.fm_names_declared.proofs.titles.function_titles.Given as goal

abbrev pub invariant-units : goal.invariant-units
invariant-units l = with_all l.titles (titles_from function_told l.unit-index (map heading_of (drop l.unit-index l.units))) ≡ titles_of l.units
