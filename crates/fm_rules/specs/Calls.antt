-- The calls of a program: which unit calls which, and where.
-- Source: ANSI X3.9-1978, sections 15.2 to 15.6 (function references, CALL); the Fortran M report for PROCESSCALL.
use Rattle.std.specs.Prelude.{ℕ, Bool, true, false, ◌||◌, if◌then◌else◌, Option, Some, None, List, [], ◌∷◌, ◌++◌, map, slice_get}
use Rattle.std.specs.List.{flat_map}
use Rattle.std.specs.FinMap.{get}
use Rattle.fm_base.specs.declared.name.Line.{Line}
use Rattle.fm_tree.specs.declared.form.UnitKind.{UnitKind}
use Rattle.fm_tree.specs.declared.form.UnitKind.TheVariants as unit_kind
use Rattle.fm_tree.specs.declared.program_unit.Entry.{Entry}
use Rattle.fm_tree.specs.declared.program_unit.Unit.{Unit}
use Rattle.fm_tree.specs.declared.statement.Simple.TheVariants as simple
use Rattle.fm_tree.specs.declared.statement.Stmt.{Stmt}
use Rattle.fm_tree.specs.declared.statement.Stmt.TheVariants as stmt
use Rattle.fm_symbols.specs.ByName.{ByName}
use Rattle.fm_symbols.specs.declared.context.Context.{Context}
use Rattle.fm_symbols.specs.declared.context.Scope.{Scope}
use Rattle.fm_rules.specs.Applied.{applied_names}
use Rattle.fm_rules.specs.declared.calls.Call.{Call}

-- the name behind CALL. What stands behind a logical IF is an entry of its own
unfoldable pub called : Stmt → Option (List ℕ)
called (stmt.Simple (simple.Call name arguments)) = Some name
called s = None

-- the name behind PROCESSCALL
unfoldable pub process_called : Stmt → Option (List ℕ)
process_called (stmt.ProcessCall name part) = Some name
process_called s = None

-- the call of a unit by its name, if there is such a unit
abbrev pub call_to : Line → Option ℕ → List Call
call_to line None = []
call_to line (Some number) = record { target = number; line = line } ∷ []

abbrev pub call_by : ByName ℕ → Line → Option (List ℕ) → List Call
call_by units line None = []
call_by units line (Some name) = call_to line (get units name)

-- the calls by the references of functions
abbrev pub referring : ByName ℕ → Line → List (List ℕ) → List ℕ → List Call
referring units line names [] = []
referring units line names (place ∷ places) = call_by units line (slice_get names place) ++ referring units line names places

abbrev pub is_subroutine : UnitKind → Bool
is_subroutine unit_kind.Program = false
is_subroutine unit_kind.Process = false
is_subroutine unit_kind.Subroutine = true
is_subroutine unit_kind.Function = false

abbrev pub is_subroutine_scope : Option Scope → Bool
is_subroutine_scope None = false
is_subroutine_scope (Some s) = is_subroutine s.kind

abbrev pub is_subroutine_unit : Context → Option ℕ → Bool
is_subroutine_unit c None = false
is_subroutine_unit c (Some number) = is_subroutine_scope (slice_get c.scopes number)

abbrev pub names_subroutine : Context → Option (List ℕ) → Bool
names_subroutine c None = false
names_subroutine c (Some name) = is_subroutine_unit c (get c.units name)

-- CALL calls a SUBROUTINE; where processes count, that of any unit counts, whatever it is
abbrev pub counts_call : Bool → Context → Option (List ℕ) → Bool
counts_call processes c name = processes || names_subroutine c name

abbrev pub call_statement : Bool → Context → Entry → List Call
call_statement processes c e = if counts_call processes c (called e.stmt) then call_by c.units e.line (called e.stmt) else []

abbrev pub process_call : Bool → ByName ℕ → Entry → List Call
process_call processes units e = if processes then call_by units e.line (process_called e.stmt) else []

-- the calls of an entry: by CALL, by references of functions and, where processes count, by PROCESSCALL
abbrev pub calls_in : Bool → Context → Entry → List Call
calls_in processes c e =
    call_statement processes c e ++ process_call processes c.units e ++ referring c.units e.line (applied_names e.stmt) e.refs

abbrev pub calls_of : Bool → Context → Unit → List Call
calls_of processes c u = flat_map (calls_in processes c) u.body

-- for each unit its calls
abbrev pub all_calls : Bool → List Unit → Context → List (List Call)
all_calls processes us c = map (calls_of processes c) us

abbrev pub target_of : Call → ℕ
target_of call = call.target

-- for each unit the units that it calls
abbrev pub graph_of : List (List Call) → List (List ℕ)
graph_of calls = map (map target_of) calls

abbrev pub call_graph : Bool → List Unit → Context → List (List ℕ)
call_graph processes us c = graph_of (all_calls processes us c)
