-- The PROGRAM among the units of a program.
-- Source: ANSI X3.9-1978, sections 2.4 (one main program) and 14.1 (PROGRAM).
use Rattle.std.specs.Prelude.{ℕ, Bool, true, false, Option, List, position}
use Rattle.fm_tree.specs.declared.form.UnitKind.{UnitKind}
use Rattle.fm_tree.specs.declared.form.UnitKind.TheVariants as unit_kind
use Rattle.fm_tree.specs.declared.program_unit.Unit.{Unit}
use Rattle.fm_symbols.specs.Headings.{heading_kind}

abbrev pub is_program : UnitKind → Bool
is_program unit_kind.Program = true
is_program unit_kind.Process = false
is_program unit_kind.Subroutine = false
is_program unit_kind.Function = false

abbrev pub is_main : Unit → Bool
is_main u = is_program (heading_kind u.heading.stmt)

-- the number of the PROGRAM, of several the first, from 0
abbrev pub main_of : List Unit → Option ℕ
main_of us = position is_main us
