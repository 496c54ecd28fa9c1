use Rattle.std.proofs.Common.{◌≡◌, map, drop}
use Rattle.fm_symbols.specs.ByName.{with_all}
use Rattle.fm_symbols.specs.Context.{number_told, unit_numbers}
use Rattle.fm_symbols.specs.Titles.{heading_of, titles_from}
use Rattle.fm_symbols.proofs.context.unit_numbers.Given as goal

abbrev pub invariant-units : goal.invariant-units
invariant-units l = with_all l.numbers (titles_from number_told l.index (map heading_of (drop l.index l.units))) ≡ unit_numbers l.units
