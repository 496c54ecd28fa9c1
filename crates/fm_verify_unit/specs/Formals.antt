-- The formals of a unit by their places.
-- Source: ANSI X3.9-1978, section 15.9.3 (association of arguments).
use Rattle.std.specs.Prelude.{◌≡◌, ℕ, zero, suc, ◌<◌, Option, Some, List, length, slice_get, slice_set}
use Rattle.fm_code_kinds.specs.declared.sorts.Cell.{Cell}
use Rattle.fm_code_kinds.specs.Shapes.{formal_at}

-- the formal with each of the first places, as many as there are variables
pub record HasFormals (formals : List (Option Cell)) (cells : List Cell) : Type 0 where
  pub many : length formals ≡ length cells
  pub each : (p : ℕ) → p < length formals → slice_get formals p ≡ Some (formal_at cells (suc p))

-- with this variable at its place, from 1
abbrev pub with_formal : List (Option Cell) → Cell → (place : ℕ) → List (Option Cell)
with_formal formals c zero = formals
with_formal formals c (suc p) = slice_set formals p (Some c)
