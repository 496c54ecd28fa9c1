-- What an image says of its units and of the types of ports, as kinds of operands are told by it.
-- Source: this profile.
use Rattle.std.specs.Prelude.{ℕ, zero, suc, max, ◌==◌, List, [], ◌∷◌, map}
use Rattle.fm_code.specs.declared.code.Entry.{Entry}
use Rattle.fm_code.specs.declared.instr.Build.{Build}
use Rattle.fm_code.specs.declared.instr.Build.TheVariants as build
use Rattle.fm_code.specs.declared.instr.Instr.{Instr}
use Rattle.fm_code.specs.declared.instr.Instr.TheVariants as instr
use Rattle.fm_code_kinds.specs.declared.sorts.Cell.{Cell}
use Rattle.fm_code_kinds.specs.declared.sorts.Field.{Field}
use Rattle.fm_code_kinds.specs.declared.sorts.Heading.{Heading}
use Rattle.fm_code_kinds.specs.declared.sorts.Heading.TheVariants as heading
use Rattle.fm_code_kinds.specs.declared.sorts.Shape.{Shape}
use Rattle.fm_code_kinds.specs.declared.sorts.Shapes.{Shapes}
use Rattle.fm_code_kinds.specs.declared.sorts.Sort.{Sort}
use Rattle.fm_code_kinds.specs.declared.sorts.Sort.TheVariants as sort
use Rattle.fm_code_kinds.specs.Kinded.{Coded}
use Rattle.fm_object.specs.declared.image.Cell as image_cell
use Rattle.fm_object.specs.declared.image.FieldImage.{FieldImage}
use Rattle.fm_object.specs.declared.image.Image.{Image}
use Rattle.fm_object.specs.declared.image.UnitImage.{UnitImage}

-- by the numbers that a text has for them
abbrev pub sort_of : (kind of : ℕ) → Sort
sort_of zero of = sort.Integer
sort_of (suc zero) of = sort.Logical
sort_of (suc (suc zero)) of = sort.In of
sort_of (suc (suc (suc k))) of = sort.Out of

abbrev pub heading_of : ℕ → Heading
heading_of zero = heading.Program
heading_of (suc zero) = heading.Process
heading_of (suc (suc zero)) = heading.Subroutine
heading_of (suc (suc (suc n))) = heading.Function

abbrev pub cell_of : image_cell.Cell → Cell
cell_of c = record { sort = sort_of c.kind c.of; first = c.first; words = c.words; formal = c.formal; back = c.back == 1 }

abbrev pub field_of : FieldImage → Field
field_of f = record { sort = sort_of f.kind f.of; words = f.words; size = f.size }

abbrev pub shape_of : UnitImage → Shape
shape_of u = record { heading = heading_of u.heading; cells = map cell_of u.cells }

abbrev pub shapes_of : Image → Shapes
shapes_of i = record { types = map (λ (fs : List FieldImage). map field_of fs) i.types; units = map shape_of i.units }

-- a frame has as many loops as the greatest number of one asks for
abbrev pub loop_in : Build → ℕ
loop_in (build.Letter byte) = 0
loop_in build.ShowText = 0
loop_in build.Show = 0
loop_in build.ShowTruth = 0
loop_in (build.ShowWords s) = 0
loop_in (build.ShowTruths s) = 0
loop_in build.PassValue = 0
loop_in (build.PassWords s) = 0
loop_in (build.PassPorts s) = 0
loop_in build.PassWordAt = 0
loop_in build.PassPortAt = 0
loop_in build.Status = 0
loop_in (build.Loop l) = suc l.number
loop_in (build.Location n) = 0
loop_in build.Submachine = 0
loop_in (build.Cut item size) = 0

abbrev pub loop_of : Instr → ℕ
loop_of (instr.Eval i) = 0
loop_of (instr.Build i) = loop_in i
loop_of (instr.End i) = 0
loop_of (instr.Meet i) = 0

abbrev pub loops_of : List Instr → ℕ
loops_of [] = 0
loops_of (i ∷ is) = max (loop_of i) (loops_of is)

abbrev pub addresses_of : UnitImage → List ℕ
addresses_of u = map (λ (e : Entry). e.address) u.entries

abbrev pub coded_of : UnitImage → Coded
coded_of u = record { entries = addresses_of u; loops = loops_of u.code; code = u.code }
