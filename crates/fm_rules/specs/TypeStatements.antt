-- The judgement of statements.
-- Source: ANSI X3.9-1978, sections 10 (assignment), 11 (control), 12 (printing) and 15 (calls); the Fortran M report for ports and
-- processes; this profile for what a FUNCTION may not do.
use Rattle.std.specs.Prelude.{ℕ, nat_eq, not, ◌&&◌, Bool, true, false, if◌then◌else◌, Option, Some, None, unwrap_or, List, [], ◌∷◌, slice_get}
use Rattle.std.specs.FinMap.{get}
use Rattle.fm_tree.specs.Tree.{Tree, trees_from}
use Rattle.fm_tree.specs.declared.form.UnitKind.{UnitKind}
use Rattle.fm_tree.specs.declared.form.UnitKind.TheVariants as unit_kind
use Rattle.fm_tree.specs.declared.statement.Decl.{Decl}
use Rattle.fm_tree.specs.declared.statement.Var.{Var}
use Rattle.fm_tree.specs.declared.statement.LoopHead.{LoopHead}
use Rattle.fm_tree.specs.declared.statement.Item.{Item}
use Rattle.fm_tree.specs.declared.statement.Item.TheVariants as item
use Rattle.fm_tree.specs.declared.statement.Extra.{Extra}
use Rattle.fm_tree.specs.declared.statement.Extra.TheVariants as extra
use Rattle.fm_tree.specs.declared.statement.Where.{Where}
use Rattle.fm_tree.specs.declared.statement.Where.TheVariants as position
use Rattle.fm_tree.specs.declared.statement.CallPart.{CallPart}
use Rattle.fm_tree.specs.declared.statement.Simple.{Simple}
use Rattle.fm_tree.specs.declared.statement.Simple.TheVariants as simple
use Rattle.fm_tree.specs.declared.statement.Stmt.{Stmt}
use Rattle.fm_tree.specs.declared.statement.Stmt.TheVariants as stmt
use Rattle.fm_symbols.specs.declared.names.Variable.{Variable}
use Rattle.fm_symbols.specs.declared.symbol.Scalar.{Scalar}
use Rattle.fm_symbols.specs.declared.symbol.Scalar.TheVariants.{Integer, Logical}
use Rattle.fm_symbols.specs.declared.symbol.Symbol.{Symbol}
use Rattle.fm_symbols.specs.declared.symbol.Symbol.TheVariants as symbol
use Rattle.fm_symbols.specs.declared.context.Scope.{Scope}
use Rattle.fm_symbols.specs.declared.context.Context.{Context}
use Rattle.fm_symbols.specs.Context.{symbol_in, symbol_place}
use Rattle.fm_symbols.specs.Headings.{is_function}
use Rattle.fm_rules.specs.declared.flags.Flags.{Flags}
use Rattle.fm_rules.specs.declared.typing.ExprType.{ExprType}
use Rattle.fm_rules.specs.declared.typing.ExprType.TheVariants.{Value, Array, Port, Ports, Function, Nothing}
use Rattle.fm_rules.specs.declared.typing.Judgement.{Judgement}
use Rattle.fm_rules.specs.declared.typing.Referent.{Referent}
use Rattle.fm_rules.specs.declared.typing.Referent.TheVariants as referent
use Rattle.fm_rules.specs.Flags.{both, e40, e42, e46, e50, no_flags}
use Rattle.fm_rules.specs.Typing.{needed_value, operand, result_of, same_scalar}
use Rattle.fm_rules.specs.Expressions.{arguments_judged, judged, reference_judged}
use Rattle.fm_rules.specs.VariableTypes.{target_judged, target_named, variable_judged}
use Rattle.fm_rules.specs.declared.calls.CallKind.{CallKind}
use Rattle.fm_rules.specs.declared.calls.CallKind.TheVariants as call_kind

-- what is broken in one of a list
abbrev pub in_any : {X : Type 0} → (X → Flags) → List X → Flags
in_any g [] = no_flags
in_any g (x ∷ xs) = both (g x) (in_any g xs)

-- Operands, ports and targets.

abbrev pub integer_flags : Context → Scope → Tree → Flags
integer_flags c s e = operand Integer (judged c s e)

abbrev pub logical_flags : Context → Scope → Tree → Flags
logical_flags c s e = operand Logical (judged c s e)

abbrev pub optional_flags : Context → Scope → Option Tree → Flags
optional_flags c s None = no_flags
optional_flags c s (Some e) = integer_flags c s e

abbrev pub expr_flags : Context → Scope → Tree → Flags
expr_flags c s e = (judged c s e).flags

abbrev pub port_flags : Context → Scope → Var → Flags
port_flags c s v = (variable_judged c s v).flags

abbrev pub target_flags : Context → Scope → Var → Flags
target_flags c s v = (target_judged c s v).flags

-- Formals of a FUNCTION as targets.

abbrev pub is_formal : Option Variable → Bool
is_formal None = false
is_formal (Some v) = not (nat_eq v.formal 0)

abbrev pub is_formal_at : List Variable → Option ℕ → Bool
is_formal_at vs None = false
is_formal_at vs (Some place) = is_formal (slice_get vs place)

-- a FUNCTION gives a formal a value
abbrev pub changes_formal : Scope → List Variable → List ℕ → Bool
changes_formal s vs name = is_function s.kind && is_formal_at vs (symbol_place (get s.symbols name))

-- Assignment.

-- a value that is given to a target of this type: both sides have one type
abbrev pub value_for : ExprType → Judgement → Flags
value_for (Value t) j = operand t j
value_for (Array t n) j = both j.flags (e40 true)
value_for (Port place) j = both (both j.flags (needed_value j.expr_type)) (e50 true)
value_for (Ports place) j = both (both j.flags (needed_value j.expr_type)) (e50 true)
value_for Function j = both j.flags (e40 true)
value_for Nothing j = both j.flags (needed_value j.expr_type)

abbrev pub assignment_flags : Context → Scope → List Variable → Var → Tree → Flags
assignment_flags c s vs v e =
    both (both (target_judged c s v).flags (e46 (changes_formal s vs v.name))) (value_for (target_judged c s v).expr_type (judged c s e))

-- Loops: a scalar integer variable, and integers.

abbrev pub loop_variable_flags : Context → Scope → List Variable → List ℕ → Flags
loop_variable_flags c s vs name = both (operand Integer (target_named c (symbol_in c s name))) (e46 (changes_formal s vs name))

abbrev pub loop_flags : Context → Scope → List Variable → LoopHead → Flags
loop_flags c s vs h =
    both (loop_variable_flags c s vs h.variable) (both (both (integer_flags c s h.from) (integer_flags c s h.to)) (optional_flags c s h.step))

-- Printing: a whole array may be printed.

abbrev pub printed : ExprType → Flags
printed (Value s) = no_flags
printed (Array s n) = no_flags
printed (Port place) = e50 true
printed (Ports place) = e50 true
printed Function = e40 true
printed Nothing = no_flags

abbrev pub item_flags : Context → Scope → Item → Flags
item_flags c s (item.Expr e) = both (judged c s e).flags (printed (judged c s e).expr_type)
item_flags c s (item.Constant bytes) = no_flags

-- Calls.

abbrev pub calls : CallKind → UnitKind → Bool
calls call_kind.Call unit_kind.Subroutine = true
calls call_kind.Call unit_kind.Program = false
calls call_kind.Call unit_kind.Process = false
calls call_kind.Call unit_kind.Function = false
calls call_kind.ProcessCall unit_kind.Process = true
calls call_kind.ProcessCall unit_kind.Program = false
calls call_kind.ProcessCall unit_kind.Subroutine = false
calls call_kind.ProcessCall unit_kind.Function = false

abbrev pub callee_in : CallKind → ℕ → Option Scope → Referent
callee_in k n None = referent.Unknown
callee_in k n (Some s) = if calls k s.kind then referent.Unit n else referent.Unknown

abbrev pub callee_at : Context → CallKind → Option ℕ → Referent
callee_at c k None = referent.Unknown
callee_at c k (Some n) = callee_in k n (slice_get c.scopes n)

-- the SUBROUTINE or the PROCESS with a name
abbrev pub callee_of : Context → CallKind → List ℕ → Referent
callee_of c k name = callee_at c k (get c.units name)

abbrev pub call_flags : Context → Scope → CallKind → List ℕ → List Tree → Flags
call_flags c s k name args = (reference_judged c (callee_of c k name) (arguments_judged c s (callee_of c k name) 0 (trees_from args))).flags

abbrev pub position_flags : Context → Scope → Option Where → Flags
position_flags c s None = no_flags
position_flags c s (Some (position.Location es)) = in_any (integer_flags c s) es
position_flags c s (Some (position.Submachine a b)) = both (integer_flags c s a) (integer_flags c s b)

abbrev pub process_call_flags : Context → Scope → List ℕ → Option CallPart → Flags
process_call_flags c s name None = call_flags c s call_kind.ProcessCall name []
process_call_flags c s name (Some p) = both (call_flags c s call_kind.ProcessCall name p.arguments) (position_flags c s p.place)

-- Channels and messages. Directions, and what fits a message, are judged when all types are known.

abbrev pub two_ports_flags : Context → Scope → Var → Var → Flags
two_ports_flags c s v w = both (port_flags c s v) (port_flags c s w)

abbrev pub merger_flags : Context → Scope → Var → List Var → Flags
merger_flags c s inport outports = both (port_flags c s inport) (in_any (port_flags c s) outports)

abbrev pub send_flags : Context → Scope → Var → List Tree → Flags
send_flags c s port items = both (port_flags c s port) (in_any (expr_flags c s) items)

abbrev pub extra_flags : Context → Scope → Extra → Flags
extra_flags c s (extra.End label) = no_flags
extra_flags c s (extra.Iostat v) = operand Integer (target_judged c s v)

abbrev pub receive_flags : Context → Scope → Var → List Extra → List Var → Flags
receive_flags c s port extras items = both (both (port_flags c s port) (in_any (extra_flags c s) extras)) (in_any (target_flags c s) items)

abbrev pub probe_flags : Context → Scope → Var → Var → Flags
probe_flags c s port empty = both (port_flags c s port) (operand Logical (target_judged c s empty))

-- A type statement: the name of another FUNCTION has the type of its value.

abbrev pub is_other_type : Scalar → ExprType → Bool
is_other_type s (Value t) = not (same_scalar t s)
is_other_type s (Array t n) = false
is_other_type s (Port place) = false
is_other_type s (Ports place) = false
is_other_type s Function = false
is_other_type s Nothing = false

abbrev pub is_wrongly_declared : Context → Scalar → Option Symbol → Bool
is_wrongly_declared c t None = false
is_wrongly_declared c t (Some (symbol.Constant s)) = false
is_wrongly_declared c t (Some (symbol.Variable s place)) = false
is_wrongly_declared c t (Some (symbol.Array s place x)) = false
is_wrongly_declared c t (Some (symbol.Port d place)) = false
is_wrongly_declared c t (Some (symbol.Ports d place x)) = false
is_wrongly_declared c t (Some (symbol.Function k)) = is_other_type t (result_of c k)

abbrev pub declaration_flags : Context → Scope → Scalar → Decl → Flags
declaration_flags c s t d = e42 (is_wrongly_declared c t (symbol_in c s d.name))

-- Statements.

-- what may not stand in a FUNCTION. A CALL, STOP, printing, and all that has to do with channels and ports
unfoldable pub is_barred_simple : Simple → Bool
is_barred_simple (simple.Assignment v e) = false
is_barred_simple (simple.Goto label) = false
is_barred_simple simple.Continue = false
is_barred_simple simple.Return = false
is_barred_simple s = true

-- and the declaration of ports, and processes
unfoldable pub is_barred : Stmt → Bool
is_barred (stmt.Inport p ds) = true
is_barred (stmt.Outport p ds) = true
is_barred (stmt.Simple s) = is_barred_simple s
is_barred stmt.Processes = true
is_barred stmt.EndProcesses = true
is_barred (stmt.ProcessCall name part) = true
is_barred (stmt.ProcessDo h) = true
is_barred stmt.EndProcessDo = true
is_barred s = false

unfoldable pub simple_flags : Context → Scope → List Variable → Simple → Flags
simple_flags c s vs (simple.Assignment v e) = assignment_flags c s vs v e
simple_flags c s vs (simple.Goto label) = no_flags
simple_flags c s vs simple.Continue = no_flags
simple_flags c s vs simple.Return = no_flags
simple_flags c s vs simple.Stop = no_flags
simple_flags c s vs (simple.Call name args) = call_flags c s call_kind.Call name (unwrap_or args [])
simple_flags c s vs (simple.Print items) = in_any (item_flags c s) items
simple_flags c s vs (simple.Write unit items) = in_any (item_flags c s) items
simple_flags c s vs (simple.Channel in_first inport outport) = two_ports_flags c s inport outport
simple_flags c s vs (simple.Merger inport outports) = merger_flags c s inport outports
simple_flags c s vs (simple.Send named port items) = send_flags c s port items
simple_flags c s vs (simple.Receive named port extras items) = receive_flags c s port extras items
simple_flags c s vs (simple.EndChannel named port) = port_flags c s port
simple_flags c s vs (simple.MovePort from to) = two_ports_flags c s from to
simple_flags c s vs (simple.Probe named port empty) = probe_flags c s port empty

-- types, units and targets
unfoldable pub typed_flags : Context → Scope → List Variable → Stmt → Flags
typed_flags c s vs (stmt.Integer ds) = in_any (declaration_flags c s Integer) ds
typed_flags c s vs (stmt.Logical ds) = in_any (declaration_flags c s Logical) ds
typed_flags c s vs (stmt.Simple x) = simple_flags c s vs x
typed_flags c s vs (stmt.LogicalIf e x) = logical_flags c s e
typed_flags c s vs (stmt.BlockIf e) = logical_flags c s e
typed_flags c s vs (stmt.ElseIf e) = logical_flags c s e
typed_flags c s vs (stmt.Do h) = loop_flags c s vs h
typed_flags c s vs (stmt.DoWhile e) = logical_flags c s e
typed_flags c s vs (stmt.ProcessCall name part) = process_call_flags c s name part
typed_flags c s vs (stmt.ProcessDo h) = loop_flags c s vs h
typed_flags c s vs x = no_flags

-- what a statement breaks in the unit of a scope, which has these variables. A logical IF is two statements here, its test
-- and what it contains
abbrev pub flags_of : Context → Scope → List Variable → Stmt → Flags
flags_of c s vs x = both (typed_flags c s vs x) (e46 (is_function s.kind && is_barred x))
