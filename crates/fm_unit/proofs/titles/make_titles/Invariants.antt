use Rattle.std.proofs.Common.{◌≡◌, map, drop}
use Rattle.fm_symbols.specs.ByName.{with_all}
use Rattle.fm_symbols.specs.Titles.{titles_from}
use Rattle.fm_rules.specs.UnitTitles.{first_of, title_told, titles_of}
use Rattle.fm_unit.proofs.titles.make_titles.Given as goal

abbrev pub invariant-units : goal.invariant-units
invariant-units l = with_all l.titles (titles_from title_told l.number (map first_of (drop l.number l.units))) ≡ titles_of l.units
