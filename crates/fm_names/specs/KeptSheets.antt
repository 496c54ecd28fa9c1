-- A unit's sheet as it stands in memory: the sheet, but that numbers of elements are kept up to 65,537. It is the sheet itself
-- where no rule on bounds and messages is broken.
-- Source: this profile.
use Rattle.std.specs.Prelude.{ℕ, List, ◌++◌, map}
use Rattle.fm_tree.specs.declared.program_unit.Unit.{Unit}
use Rattle.fm_symbols.specs.ByName.{first_of_each}
use Rattle.fm_rules.specs.Constants.{constants_of}
use Rattle.fm_rules.specs.Sheets.{kinds_from, own_kind, shapes_from, sheet_of}
use Rattle.fm_rules.specs.declared.sheet.ArrayShape.{ArrayShape}
use Rattle.fm_rules.specs.declared.sheet.Sheet.{Sheet}
use Rattle.fm_names_constants.specs.Kept.{kept, kept_field_kind}

-- the same names with other values
abbrev pub with_values : {X : Type 0} → (X → X) → List (List ℕ × X) → List (List ℕ × X)
with_values f es = map (λ e. (e.0, f e.1)) es

abbrev pub kept_array : ArrayShape → ArrayShape
kept_array a = record { bounds = a.bounds; words = kept a.words }

abbrev pub kept_sheet : Unit → Sheet
kept_sheet u = record {
  known = (sheet_of u).known;
  types = (sheet_of u).types;
  kinds = first_of_each (with_values kept_field_kind (own_kind u.heading.stmt ++ kinds_from (constants_of u.specs) 0 u.specs));
  arrays = first_of_each (with_values kept_array (shapes_from (constants_of u.specs) 0 u.specs));
  inputs = (sheet_of u).inputs;
  formals = (sheet_of u).formals;
  first = (sheet_of u).first;
}
