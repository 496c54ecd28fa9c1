-- The units of a source.
-- Source: ANSI X3.9-1978, sections 2.4 and 3.5.
use Rattle.std.specs.Prelude.{List, map}
use Rattle.fm_tree.specs.declared.program_unit.Placed.{Placed}
use Rattle.fm_tree.specs.declared.program_unit.Unit.{Unit}
use Rattle.fm_tree.specs.Units.{cut_of, unit_of}
use Rattle.fm_rules.specs.UnitTitles.{is_function_named, titles_of}

-- the units, where a name in parentheses is a reference if a FUNCTION has it
abbrev pub units_of : List Placed → List Unit
units_of statements = map (unit_of (is_function_named (titles_of (cut_of statements)))) (cut_of statements)
