-- The image of a program and its code: what they say, in the form of an image.
-- Source: ANSI X3.9-1978, sections 2.4 (program units), 5 (arrays) and 15.9 (arguments); the Fortran M report (typed ports,
-- machines); the numbers by this profile.
use Rattle.std.specs.Prelude.{◌≡◌, ℕ, ◌==◌, cond, Some, List, [], ◌∷◌, map}
use Rattle.fm_code.specs.declared.code.Code.{Code}
use Rattle.fm_code.specs.declared.code.Unit as code_unit
use Rattle.fm_tree.specs.PortReading.{kind_of}
use Rattle.fm_tree.specs.declared.form.UnitKind.{UnitKind}
use Rattle.fm_tree.specs.declared.form.UnitKind.TheVariants as unit_kind
use Rattle.fm_tree.specs.declared.program_unit.Unit as tree
use Rattle.fm_symbols.specs.Headings.{heading_kind}
use Rattle.fm_symbols.specs.declared.names.UnitNames.{UnitNames}
use Rattle.fm_symbols.specs.declared.names.Variable.{Variable}
use Rattle.fm_rules.specs.declared.program.Program.{Program}
use Rattle.fm_mean.specs.Names.{ProgramUnit, unit_at}
use Rattle.fm_net.specs.Typed.{AllIn}
use Rattle.fm_object.specs.Texts.{IsName}
use Rattle.fm_object.specs.declared.image.Cell.{Cell}
use Rattle.fm_object.specs.declared.image.FieldImage.{FieldImage}
use Rattle.fm_object.specs.declared.image.Image.{Image}
use Rattle.fm_object.specs.declared.image.UnitImage.{UnitImage}
use Rattle.fm_image.specs.Types.{kind_number, type_number, types_of}

-- a formal without INTENT(IN) gives back
abbrev pub back_of : Variable → ℕ
back_of v = cond (v.formal == 0) 0 (cond v.input 0 1)

abbrev pub cell_image : List (List FieldImage) → Variable → Cell
cell_image ts v = record {
  name = v.name;
  kind = kind_number (kind_of v.kind);
  of = type_number ts (kind_of v.kind);
  first = v.first;
  words = v.words;
  formal = v.formal;
  back = back_of v;
}

abbrev pub cells_image : List (List FieldImage) → List Variable → List Cell
cells_image ts vs = map (cell_image ts) vs

abbrev pub heading_number : UnitKind → ℕ
heading_number unit_kind.Program = 0
heading_number unit_kind.Process = 1
heading_number unit_kind.Subroutine = 2
heading_number unit_kind.Function = 3

abbrev pub unit_image : List (List FieldImage) → tree.Unit → UnitNames → code_unit.Unit → UnitImage
unit_image ts u names c = record {
  heading = heading_number (heading_kind u.heading.stmt);
  extents = names.extents;
  cells = cells_image ts names.variables;
  entries = c.entries;
  code = c.code;
}

abbrev pub units_image : List (List FieldImage) → List tree.Unit → List UnitNames → List code_unit.Unit → List UnitImage
units_image ts [] names code = []
units_image ts (u ∷ us) [] code = []
units_image ts (u ∷ us) (n ∷ ns) [] = []
units_image ts (u ∷ us) (n ∷ ns) (c ∷ cs) = unit_image ts u n c ∷ units_image ts us ns cs

abbrev pub image_of : Program → Code → Image
image_of p c = record { types = types_of p; units = units_image (types_of p) p.units.units p.names.units c.units }

-- the names of its variables are names of the language
abbrev pub NamesAreNames : Program → Type 0
NamesAreNames p = (number : ℕ) (u : ProgramUnit) → unit_at p number ≡ Some u → AllIn (λ (v : Variable). IsName v.name) u.names.variables
