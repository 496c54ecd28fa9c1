-- What the heading of a unit says.
-- Source: ANSI X3.9-1978, sections 14.1 (PROGRAM), 15.5.1 (FUNCTION) and 15.6.1 (SUBROUTINE); the Fortran M report for PROCESS.
use Rattle.std.specs.Prelude.{ℕ, Bool, true, false, Option, Some, None, unwrap_or, List, []}
use Rattle.fm_tree.specs.declared.form.UnitKind.{UnitKind}
use Rattle.fm_tree.specs.declared.form.UnitKind.TheVariants as unit_kind
use Rattle.fm_tree.specs.declared.statement.Stmt.{Stmt}
use Rattle.fm_tree.specs.declared.statement.Stmt.TheVariants as stmt

-- the name of a heading
unfoldable pub heading_name : Stmt → Option (List ℕ)
heading_name (stmt.Program name) = Some name
heading_name (stmt.Process name formals) = Some name
heading_name (stmt.Subroutine name formals) = Some name
heading_name (stmt.Function name formals) = Some name
heading_name (stmt.IntegerFunction name formals) = Some name
heading_name (stmt.LogicalFunction name formals) = Some name
heading_name s = None

-- the formal arguments, in their order
unfoldable pub heading_formals : Stmt → List (List ℕ)
heading_formals (stmt.Process name formals) = unwrap_or formals []
heading_formals (stmt.Subroutine name formals) = unwrap_or formals []
heading_formals (stmt.Function name formals) = formals
heading_formals (stmt.IntegerFunction name formals) = formals
heading_formals (stmt.LogicalFunction name formals) = formals
heading_formals s = []

-- the kind of unit; a statement that is no heading begins a PROGRAM
unfoldable pub heading_kind : Stmt → UnitKind
heading_kind (stmt.Process name formals) = unit_kind.Process
heading_kind (stmt.Subroutine name formals) = unit_kind.Subroutine
heading_kind (stmt.Function name formals) = unit_kind.Function
heading_kind (stmt.IntegerFunction name formals) = unit_kind.Function
heading_kind (stmt.LogicalFunction name formals) = unit_kind.Function
heading_kind s = unit_kind.Program

abbrev pub is_function : UnitKind → Bool
is_function unit_kind.Function = true
is_function unit_kind.Program = false
is_function unit_kind.Process = false
is_function unit_kind.Subroutine = false
