-- A small PROGRAM in stack code, with its kinds: it stores 7 in its one variable, prints it, and stops.
-- Source: this profile.
use Rattle.std.specs.Prelude.{ℕ, zero, suc, pos, false, None, List, [], ◌∷◌}
use Rattle.fm_code.specs.declared.body.Body.{Body}
use Rattle.fm_code.specs.declared.body.Frame.{Frame}
use Rattle.fm_code.specs.declared.code.Entry.{Entry}
use Rattle.fm_code.specs.declared.code.Unit as code_unit
use Rattle.fm_code.specs.declared.instr.Build.TheVariants as build
use Rattle.fm_code.specs.declared.instr.End.TheVariants as end
use Rattle.fm_code.specs.declared.instr.Eval.TheVariants as eval
use Rattle.fm_code.specs.declared.instr.Instr.{Instr}
use Rattle.fm_code.specs.declared.instr.Instr.TheVariants as instr
use Rattle.fm_code.specs.declared.instr.Meet.TheVariants as meet
use Rattle.fm_code_kinds.specs.declared.kinds.Kind.TheVariants.{Word}
use Rattle.fm_code_kinds.specs.Effects.{word}
use Rattle.fm_code_kinds.specs.Kinded.{Lists}
use Rattle.fm_code_kinds.specs.declared.sorts.Cell.{Cell}
use Rattle.fm_code_kinds.specs.declared.sorts.Sort.TheVariants.{Integer}
use Rattle.fm_code_kinds.specs.declared.sorts.Heading.TheVariants.{Program}
use Rattle.fm_code_kinds.specs.declared.sorts.Shape.{Shape}
use Rattle.fm_code_kinds.specs.declared.sorts.Shapes.{Shapes}

abbrev pub sample_code : List Instr
sample_code =
    instr.Eval (eval.Push (pos 7))
    ∷ instr.End (end.Store 0 2)
    ∷ instr.Eval (eval.Load 0)
    ∷ instr.Build build.Show
    ∷ instr.End (end.Print 5)
    ∷ instr.Meet meet.Stop
    ∷ []

abbrev pub sample_cells : List Cell
sample_cells = record { sort = Integer; first = 0; words = 1; formal = 0; back = false } ∷ []

abbrev pub sample_unit : Shape
sample_unit = record { heading = Program; cells = sample_cells }

abbrev pub sample_shapes : Shapes
sample_shapes = record { types = []; units = sample_unit ∷ [] }

-- what stands on the list at each address
abbrev pub sample_lists : Lists
sample_lists zero = []
sample_lists (suc zero) = Word None ∷ []
sample_lists (suc (suc zero)) = []
sample_lists (suc (suc (suc zero))) = word ∷ []
sample_lists (suc (suc (suc (suc n)))) = []

abbrev pub begins : (line address : ℕ) → Entry
begins line address = record { line = record { 0 = line }; address = address }

abbrev pub sample_unit_code : code_unit.Unit
sample_unit_code = record { code = sample_code; entries = begins 2 0 ∷ begins 3 2 ∷ begins 4 5 ∷ []; words = 1; ports = []; formals = []; loops = 0; extents = [] }

abbrev pub sample_frame : Frame
sample_frame = record { unit = 0; address = 0; words = pos 0 ∷ []; loops = []; results = []; starts = []; backs = [] }

-- at its first statement
abbrev pub sample_body : Body
sample_body = record { code = record { units = sample_unit_code ∷ [] }; machine = record { first = 0; count = 1 }; node = 0; frame = sample_frame; below = [] }
