-- The names of a program.
-- Source: this profile.
use Rattle.std.specs.Prelude.{Bool, List, map}
use Rattle.fm_tree.specs.declared.program_unit.Unit.{Unit}
use Rattle.fm_symbols.specs.ByName.{ByName}
use Rattle.fm_symbols.specs.declared.names.UnitNames.{UnitNames}
use Rattle.fm_rules.specs.FunctionTitles.{titles_of}
use Rattle.fm_rules.specs.Bounds.{extents_from}
use Rattle.fm_rules.specs.Constants.{entries_from}
use Rattle.fm_rules.specs.declared.sheet.Sheet.{Sheet}
use Rattle.fm_rules.specs.Sheets.{sheet_of}
use Rattle.fm_rules.specs.Variables.{all_words, laid_out, variables_among}

abbrev pub unit_names_with : ByName Bool → Unit → Sheet → UnitNames
unit_names_with titles u s = record {
  variables = laid_out s 0 (variables_among titles u.heading.stmt s s.first);
  constants = entries_from s.known 0 u.specs;
  extents = extents_from s.known 0 u.specs;
  words = all_words s (variables_among titles u.heading.stmt s s.first);
}

abbrev pub unit_names : ByName Bool → Unit → UnitNames
unit_names titles u = unit_names_with titles u (sheet_of u)

-- the names of each of these units
abbrev pub names_of : List Unit → List UnitNames
names_of us = map (unit_names (titles_of us)) us
