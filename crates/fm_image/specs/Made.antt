-- The image of a unit whose variables are told already.
-- Source: this profile.
use Rattle.std.specs.Prelude.{Option, Some, None, List, [], ◌∷◌}
use Rattle.fm_code.specs.declared.code.Unit as code_unit
use Rattle.fm_tree.specs.declared.program_unit.Unit as tree
use Rattle.fm_symbols.specs.Headings.{heading_kind}
use Rattle.fm_symbols.specs.declared.names.UnitNames.{UnitNames}
use Rattle.fm_object.specs.declared.image.Cell.{Cell}
use Rattle.fm_object.specs.declared.image.UnitImage.{UnitImage}
use Rattle.fm_image.specs.ImageOf.{heading_number}

abbrev pub unit_with : List Cell → tree.Unit → UnitNames → code_unit.Unit → UnitImage
unit_with cells u names c = record {
  heading = heading_number (heading_kind u.heading.stmt);
  extents = names.extents;
  cells = cells;
  entries = c.entries;
  code = c.code;
}

-- where it has a tree and code
abbrev pub unit_by : List Cell → Option tree.Unit → UnitNames → Option code_unit.Unit → List UnitImage
unit_by cells None names c = []
unit_by cells (Some u) names None = []
unit_by cells (Some u) names (Some c) = unit_with cells u names c ∷ []
