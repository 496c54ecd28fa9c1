-- Declarations of ports over which ports go.
-- Source: the Fortran M report (types of ports); that such programs don't run on hosts is this profile's.
use Rattle.std.specs.Prelude.{◌≡◌, ◌||◌, ℕ, ◌≤◌, Bool, true, false, Option, Some, MatchOption, List, slice_get, Contains}
use Rattle.fm_base.specs.declared.name.Line.{Line}
use Rattle.fm_graph.specs.Graph.{Reaches}
use Rattle.fm_tree.specs.PortFields.{PortFields, FieldKind, NoFields, FieldThen, Integer, Logical, In, Out}
use Rattle.fm_tree.specs.declared.program_unit.Placed.{Placed}
use Rattle.fm_tree.specs.declared.program_unit.Unit.{Unit}
use Rattle.fm_tree.specs.declared.statement.Stmt.{Stmt}
use Rattle.fm_tree.specs.declared.statement.Stmt.TheVariants as stmt
use Rattle.fm_symbols.specs.declared.context.Context.{Context}
use Rattle.fm_rules.specs.Calls.{call_graph}
use Rattle.fm_rules.specs.Main.{main_of}

-- a port, and no word
abbrev pub is_port : FieldKind → Bool
is_port Integer = false
is_port Logical = false
is_port (In t) = true
is_port (Out t) = true

-- a message of this type holds a port
abbrev pub carries_ports : PortFields → Bool
carries_ports NoFields = false
carries_ports (FieldThen k name bounds rest) = is_port k || carries_ports rest

-- a declaration of ports of such a type
unfoldable pub declares_carrier : Stmt → Bool
declares_carrier (stmt.Inport t ds) = carries_ports t
declares_carrier (stmt.Outport t ds) = carries_ports t
declares_carrier s = false

-- such a declaration at a line, in a unit that the PROGRAM reaches by CALL, references and PROCESSCALL, or that is it
pub record IsCarrier (us : List Unit) (c : Context) (line : ℕ) : Type 0 where
  pub main : ℕ
  pub starts : main_of us ≡ Some main
  pub number : ℕ
  pub reached : Reaches (call_graph true us c) main number
  pub unit : Unit
  pub here : slice_get us number ≡ Some unit
  pub placed : Placed
  pub within : Contains unit.specs placed
  pub carries : declares_carrier placed.stmt ≡ true
  pub at : line ≡ placed.line.0

-- the least line of one
pub record IsFirstCarrier (us : List Unit) (c : Context) (line : Line) : Type 0 where
  pub carrier : IsCarrier us c line.0
  pub least : (other : ℕ) → IsCarrier us c other → line.0 ≤ other

-- or none where there is none
abbrev pub IsFirstCarrierOf : List Unit → Context → Option Line → Type 0
IsFirstCarrierOf us c best = MatchOption best ((line : ℕ) → ¬ IsCarrier us c line) (IsFirstCarrier us c)
