-- The rules on ports.
-- Source: the Fortran M report (CHANNEL, MERGER, SEND, RECEIVE, ENDCHANNEL, MOVEPORT, PROBE, process calls, LOCATION);
-- ANSI X3.9-1978, section 15.9.3 for actual arguments; this profile.
use Rattle.std.specs.Prelude.{ℕ, ◌==◌, not, ◌||◌, Bool, false, Option, Some, None, List, [], ◌∷◌, map, length, slice_get}
use Rattle.std.specs.List.{list_any}
use Rattle.std.specs.FinMap.{get}
use Rattle.fm_tree.specs.PortFields.{PortFields}
use Rattle.fm_tree.specs.Tree.{Tree}
use Rattle.fm_tree.specs.declared.statement.CallPart.{CallPart}
use Rattle.fm_tree.specs.declared.statement.Simple.{Simple}
use Rattle.fm_tree.specs.declared.statement.Simple.TheVariants as simple
use Rattle.fm_tree.specs.declared.statement.Stmt.{Stmt}
use Rattle.fm_tree.specs.declared.statement.Stmt.TheVariants as stmt
use Rattle.fm_tree.specs.declared.statement.Var.{Var}
use Rattle.fm_tree.specs.declared.statement.Where.{Where}
use Rattle.fm_tree.specs.declared.statement.Where.TheVariants as annotation
use Rattle.fm_symbols.specs.declared.context.Context.{Context}
use Rattle.fm_symbols.specs.declared.context.Scope.{Scope}
use Rattle.fm_symbols.specs.declared.names.UnitNames.{UnitNames}
use Rattle.fm_symbols.specs.declared.symbol.Direction.TheVariants.{In, Out}
use Rattle.fm_rules.specs.declared.typing.ExprType.{ExprType}
use Rattle.fm_rules.specs.JudgedStatements.{type_of, variable_type}
use Rattle.fm_rules.specs.PortFitting.{break_formals, fit_fields, is_one_port, lacks_port, lacks_ports, message_of, messages_differ, port_variable, ports_differ}

-- The parts of statements.

-- the statement of an entry that may stand behind a logical IF. What does stand behind one is an entry of its own
unfoldable pub simple_in : Stmt → Option Simple
simple_in (stmt.Simple s) = Some s
simple_in s = None

abbrev pub actuals_in : Option CallPart → List Tree
actuals_in None = []
actuals_in (Some part) = part.arguments

abbrev pub actuals_or : Option (List Tree) → List Tree
actuals_or None = []
actuals_or (Some es) = es

-- the subroutine or the process that is called, with its actuals
unfoldable pub call_in_simple : Simple → Option (List ℕ × List Tree)
call_in_simple (simple.Call name arguments) = Some (name, actuals_or arguments)
call_in_simple s = None

unfoldable pub call_in : Stmt → Option (List ℕ × List Tree)
call_in (stmt.Simple s) = call_in_simple s
call_in (stmt.ProcessCall name part) = Some (name, actuals_in part)
call_in s = None

abbrev pub values_in : Option Where → Option (List Tree)
values_in None = None
values_in (Some (annotation.Location es)) = Some es
values_in (Some (annotation.Submachine low high)) = None

abbrev pub location_by : Option CallPart → Option (List Tree)
location_by None = None
location_by (Some part) = values_in part.place

-- the values of a LOCATION
unfoldable pub location_in : Stmt → Option (List Tree)
location_in (stmt.ProcessCall name part) = location_by part
location_in s = None

-- The rules at a statement of a unit with its names and its scope, in a program with its context.

-- E51: SEND, ENDCHANNEL and OUT= need an outport, RECEIVE, PROBE and IN= an inport. OUT= of MERGER may be a whole array
unfoldable pub lacks_direction : UnitNames → Context → Scope → Simple → Bool
lacks_direction n c s (simple.Send named port items) = lacks_port Out n (variable_type c s port)
lacks_direction n c s (simple.EndChannel named port) = lacks_port Out n (variable_type c s port)
lacks_direction n c s (simple.Receive named port extras items) = lacks_port In n (variable_type c s port)
lacks_direction n c s (simple.Probe named port empty) = lacks_port In n (variable_type c s port)
lacks_direction n c s (simple.Channel in_first inport outport) = lacks_port In n (variable_type c s inport) || lacks_port Out n (variable_type c s outport)
lacks_direction n c s (simple.Merger inport outports) = lacks_port In n (variable_type c s inport) || list_any (λ v. lacks_ports Out n (variable_type c s v)) outports
lacks_direction n c s x = false

abbrev pub breaks_fields : UnitNames → List ExprType → Option PortFields → Bool
breaks_fields n ts None = false
breaks_fields n ts (Some p) = not (fit_fields n ts p)

-- the type of the messages of a port
abbrev pub message_at : UnitNames → Context → Scope → Var → Option PortFields
message_at n c s v = message_of (port_variable n (variable_type c s v))

-- E52: the items of SEND and RECEIVE are to fit the fields of the port's messages
unfoldable pub breaks_message : UnitNames → Context → Scope → Simple → Bool
breaks_message n c s (simple.Send named port items) = breaks_fields n (map (type_of c s) items) (message_at n c s port)
breaks_message n c s (simple.Receive named port extras items) = breaks_fields n (map (variable_type c s) items) (message_at n c s port)
breaks_message n c s x = false

-- MOVEPORT moves from one port to one port of the same direction and type
abbrev pub breaks_move : UnitNames → (from to : ExprType) → Bool
breaks_move n t u = not (is_one_port t) || not (is_one_port u) || ports_differ (port_variable n t) (port_variable n u)

-- E53: the ports of CHANNEL, MERGER and MOVEPORT are to have one type
unfoldable pub breaks_type : UnitNames → Context → Scope → Simple → Bool
breaks_type n c s (simple.Channel in_first inport outport) = messages_differ (message_at n c s inport) (message_at n c s outport)
breaks_type n c s (simple.Merger inport outports) = list_any (λ v. messages_differ (message_at n c s inport) (message_at n c s v)) outports
breaks_type n c s (simple.MovePort from to) = breaks_move n (variable_type c s from) (variable_type c s to)
breaks_type n c s x = false

abbrev pub actuals_break : UnitNames → List ExprType → Option UnitNames → Option Scope → Bool
actuals_break n ts None r = false
actuals_break n ts (Some m) None = false
actuals_break n ts (Some m) (Some r) = break_formals m n ts r.formals

-- E53: an actual of a call of the unit with a number that doesn't fit a formal that is a port
abbrev pub breaks_unit : List UnitNames → Context → UnitNames → List ExprType → Option ℕ → Bool
breaks_unit ns c n ts None = false
breaks_unit ns c n ts (Some k) = actuals_break n ts (slice_get ns k) (slice_get c.scopes k)

abbrev pub breaks_call : List UnitNames → UnitNames → Context → Scope → Option (List ℕ × List Tree) → Bool
breaks_call ns n c s None = false
breaks_call ns n c s (Some call) = breaks_unit ns c n (map (type_of c s) call.1) (get c.units call.0)

-- the extents of PROCESSORS, or one where there is none
abbrev pub rank : List ℕ → ℕ
rank [] = 1
rank (e ∷ es) = length (e ∷ es)

-- E54: LOCATION is to have as many values as PROCESSORS of its unit has extents
abbrev pub breaks_rank : UnitNames → Option (List Tree) → Bool
breaks_rank n None = false
breaks_rank n (Some es) = not (length es == rank n.extents)

abbrev pub in_simple : (Simple → Bool) → Option Simple → Bool
in_simple test None = false
in_simple test (Some x) = test x
