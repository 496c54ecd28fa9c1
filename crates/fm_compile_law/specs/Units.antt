-- What is known of the units of a program beside their code.
-- Source: ANSI X3.9-1978, sections 2.4 (program units) and 15.9 (arguments); the Fortran M report for ports; this profile for the
-- layout of a frame.
use Rattle.std.specs.Prelude.{◌==◌, ◌&&◌, not, Bool, List, [], ◌∷◌, map}
use Rattle.fm_tree.specs.PortReading.{kind_of}
use Rattle.fm_tree.specs.declared.form.UnitKind.{UnitKind}
use Rattle.fm_tree.specs.declared.form.UnitKind.TheVariants as unit_kind
use Rattle.fm_tree.specs.declared.program_unit.Unit as tree
use Rattle.fm_symbols.specs.declared.names.UnitNames.{UnitNames}
use Rattle.fm_symbols.specs.declared.names.Variable.{Variable}
use Rattle.fm_rules.specs.declared.program.Program.{Program}
use Rattle.fm_mean.specs.Names as names
use Rattle.fm_mean.specs.Names.{ProgramUnit}
use Rattle.fm_code_kinds.specs.declared.sorts.Cell.{Cell}
use Rattle.fm_code_kinds.specs.declared.sorts.Heading.{Heading}
use Rattle.fm_code_kinds.specs.declared.sorts.Heading.TheVariants as heading
use Rattle.fm_code_kinds.specs.declared.sorts.Shape.{Shape}
use Rattle.fm_code_kinds.specs.declared.sorts.Shapes.{Shapes}
use Rattle.fm_object.specs.declared.image.FieldImage.{FieldImage}
use Rattle.fm_image.specs.Types.{types_of}
use Rattle.fm_image_typed.specs.Shapes.{field_of}
use Rattle.fm_compile_law.specs.Types.{sort_by}

-- a formal without INTENT(IN)
abbrev pub gives_back : Variable → Bool
gives_back v = not (v.formal == 0) && not v.input

abbrev pub cell_by : List (List FieldImage) → Variable → Cell
cell_by ts v = record { sort = sort_by ts (kind_of v.kind); first = v.first; words = v.words; formal = v.formal; back = gives_back v }

abbrev pub cells_by : List (List FieldImage) → List Variable → List Cell
cells_by ts vs = map (cell_by ts) vs

abbrev pub heading_by : UnitKind → Heading
heading_by unit_kind.Program = heading.Program
heading_by unit_kind.Process = heading.Process
heading_by unit_kind.Subroutine = heading.Subroutine
heading_by unit_kind.Function = heading.Function

abbrev pub shape_by : List (List FieldImage) → ProgramUnit → Shape
shape_by ts u = record { heading = heading_by (names.kind_of u); cells = cells_by ts u.names.variables }

abbrev pub shapes_by : List (List FieldImage) → List tree.Unit → List UnitNames → List Shape
shapes_by ts [] ns = []
shapes_by ts (u ∷ us) [] = []
shapes_by ts (u ∷ us) (n ∷ ns) = shape_by ts (record { tree = u; names = n }) ∷ shapes_by ts us ns

abbrev pub shapes_of : Program → Shapes
shapes_of p = record {
  types = map (λ (fs : List FieldImage). map field_of fs) (types_of p);
  units = shapes_by (types_of p) p.units.units p.names.units;
}
