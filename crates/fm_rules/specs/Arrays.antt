-- Which names are those of arrays.
-- Source: ANSI X3.9-1978, sections 5.1.1 and 5.2.
use Rattle.std.specs.Prelude.{ℕ, Bool, List}
use Rattle.std.specs.FinMap.{contains_key}
use Rattle.fm_symbols.specs.ByName.{ByName}
use Rattle.fm_rules.specs.declared.sheet.ArrayShape.{ArrayShape}

abbrev pub is_array : ByName ArrayShape → List ℕ → Bool
is_array arrays name = contains_key arrays name
