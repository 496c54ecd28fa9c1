-- The code of an image.
-- Source: this profile.
use Rattle.std.specs.Prelude.{◌≡◌, ℕ, zero, suc, cond, Option, Some, None, List, [], ◌∷◌, ◌++◌, map}
use Rattle.fm_code.specs.declared.body.Body.{Body}
use Rattle.fm_code.specs.declared.code.Code.{Code}
use Rattle.fm_code.specs.declared.code.Formal.{Formal}
use Rattle.fm_code.specs.declared.code.Span.{Span}
use Rattle.fm_code.specs.declared.code.Unit as code_unit
use Rattle.fm_code_kinds.specs.declared.sorts.Cell.{Cell}
use Rattle.fm_code_kinds.specs.Bodies.{IsAtStatement, GivesBack, formal_of}
use Rattle.fm_code_kinds.specs.Shapes.{cell_span, formal_at, is_word, words_of}
use Rattle.fm_object.specs.declared.image.Image.{Image}
use Rattle.fm_object.specs.declared.image.UnitImage.{UnitImage}
use Rattle.fm_image_typed.specs.Shapes.{cell_of, loops_of, shapes_of}
use Rattle.fm_image_typed.specs.Typed.{how_many, is_formal}

-- which words are port words
abbrev pub ports_of : List Cell → List Span
ports_of [] = []
ports_of (c ∷ cs) = cond (is_word c.sort) (ports_of cs) (cell_span c ∷ ports_of cs)

abbrev pub formal_in : Option Cell → List Formal
formal_in None = []
formal_in (Some c) = formal_of c ∷ []

-- so many formals, from this place on
abbrev pub formals_from : List Cell → (place many : ℕ) → List Formal
formals_from cs place zero = []
formals_from cs place (suc n) = formal_in (formal_at cs place) ++ formals_from cs (suc place) n

abbrev pub unit_of : UnitImage → code_unit.Unit
unit_of u =
    let cells = map cell_of u.cells in
    record {
      code = u.code;
      entries = u.entries;
      words = words_of cells;
      ports = ports_of cells;
      formals = formals_from cells 1 (how_many is_formal u.cells);
      loops = loops_of u.code;
      extents = u.extents;
    }

abbrev pub code_of : Image → Code
code_of i = record { units = map unit_of i.units }

-- a body of the image's code, whose innermost frame stands at a statement with what the kinds tell
pub record RunsImage (i : Image) (b : Body) : Type 0 where
  pub code : b.code ≡ code_of i
  pub frame : IsAtStatement (shapes_of i) b.code b.frame
  pub backs : GivesBack b.frame b.below
