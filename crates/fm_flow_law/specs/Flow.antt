-- Which programs come to the end of the PROGRAM: each port of the PROGRAM goes to one process, no process keeps an outport or
-- makes channels and processes of its own, and no channels lead from a process back to itself.
-- Source: the Fortran M report (processes, channels, process blocks), with this profile's check.
use Rattle.std.specs.Prelude.{◌≡◌, ℕ, suc, ◌≤◌, ◌||◌, ◌&&◌, ◌==◌, Bool, true, false, not, cond, Option, Some, None, MatchOption, List, [], ◌∷◌, ◌++◌, take, map, slice_get, Contains}
use Rattle.std.specs.List.{flat_map}
use Rattle.fm_base.specs.declared.name.Line.{Line}
use Rattle.fm_graph.specs.Graph.{Reaches}
use Rattle.fm_tree.specs.Tree.{Tree, Number, Truth, Named, Ref, Paren, Signed, Not, Binary}
use Rattle.fm_tree.specs.PortFields.{PortFields, FieldKind, NoFields, FieldThen, Integer, Logical, In, Out}
use Rattle.fm_tree.specs.declared.port_type.Kind.{Kind}
use Rattle.fm_tree.specs.declared.port_type.Kind.TheVariants as kind
use Rattle.fm_tree.specs.declared.port_type.Bound.{Bound}
use Rattle.fm_tree.specs.declared.program_unit.Entry.{Entry}
use Rattle.fm_tree.specs.declared.program_unit.Placed.{Placed}
use Rattle.fm_tree.specs.declared.statement.Decl.{Decl}
use Rattle.fm_tree.specs.declared.statement.Simple.TheVariants as simple
use Rattle.fm_tree.specs.declared.statement.Stmt.{Stmt}
use Rattle.fm_tree.specs.declared.statement.Stmt.TheVariants as stmt
use Rattle.fm_symbols.specs.declared.names.Variable.{Variable}
use Rattle.fm_rules.specs.Calls.{call_graph}
use Rattle.fm_rules.specs.declared.program.Program.{Program}
use Rattle.fm_mean.specs.Names.{ProgramUnit, same_name, unit_at, unit_named, main_number, variable_of, context}
use Rattle.fm_mean.specs.Calls.{is_formal}
use Rattle.fm_mean.specs.Actions.{arguments_in}
use Rattle.fm_flow_law.specs.Cycles.{IsOnCycle}

-- Ports of a unit, by their places among its variables.

abbrev pub is_outport : Kind → Bool
is_outport kind.Integer = false
is_outport kind.Logical = false
is_outport (kind.In t) = false
is_outport (kind.Out t) = true

abbrev pub is_port : Kind → Bool
is_port kind.Integer = false
is_port kind.Logical = false
is_port (kind.In t) = true
is_port (kind.Out t) = true

abbrev pub port_with : Option (ℕ × Variable) → List ℕ
port_with None = []
port_with (Some v) = cond (is_port v.1.kind) (v.0 ∷ []) []

abbrev pub port_named : ProgramUnit → List ℕ → List ℕ
port_named u name = port_with (variable_of u name)

abbrev pub port_in : ProgramUnit → Tree → List ℕ
port_in u (Named name) = port_named u name
port_in u (Number n) = []
port_in u (Truth b) = []
port_in u (Ref name args) = []
port_in u (Paren t) = []
port_in u (Signed op t) = []
port_in u (Not t) = []
port_in u (Binary op a b) = []

-- the ports that a PROCESSCALL gives
unfoldable pub given : ProgramUnit → Stmt → List ℕ
given u (stmt.ProcessCall name part) = flat_map (port_in u) (arguments_in part)
given u s = []

-- the inport, and the outport, that a CHANNEL names
unfoldable pub channel_in : ProgramUnit → Stmt → List ℕ
channel_in u (stmt.Simple (simple.Channel in_first i o)) = port_named u i.name
channel_in u s = []

unfoldable pub channel_out : ProgramUnit → Stmt → List ℕ
channel_out u (stmt.Simple (simple.Channel in_first i o)) = port_named u o.name
channel_out u s = []

abbrev pub channel_ports : ProgramUnit → Stmt → List ℕ
channel_ports u s = channel_in u s ++ channel_out u s

abbrev pub is_among : ℕ → List ℕ → Bool
is_among n [] = false
is_among n (m ∷ ms) = (m == n) || is_among n ms

abbrev pub any_among : List ℕ → List ℕ → Bool
any_among [] ms = false
any_among (n ∷ ns) ms = is_among n ms || any_among ns ms

abbrev pub all_among : List ℕ → List ℕ → Bool
all_among [] ms = true
all_among (n ∷ ns) ms = is_among n ms && all_among ns ms

abbrev pub over : (Stmt → List ℕ) → List Entry → List ℕ
over f es = flat_map (λ (e : Entry). f e.stmt) es

-- 1. Declarations.

abbrev pub is_field_port : FieldKind → Bool
is_field_port Integer = false
is_field_port Logical = false
is_field_port (In t) = true
is_field_port (Out t) = true

abbrev pub sends_ports : PortFields → Bool
sends_ports NoFields = false
sends_ports (FieldThen k name bounds rest) = is_field_port k || sends_ports rest

abbrev pub is_bounded : List Bound → Bool
is_bounded [] = false
is_bounded (b ∷ bs) = true

abbrev pub any_bounded : List Decl → Bool
any_bounded [] = false
any_bounded (d ∷ ds) = is_bounded d.bounds || any_bounded ds

-- a variable of this name is a port
abbrev pub names_port : List Variable → List ℕ → Bool
names_port [] name = false
names_port (v ∷ vs) name = same_name v.name name && is_port v.kind || names_port vs name

abbrev pub any_port : List Variable → List Decl → Bool
any_port vs [] = false
any_port vs (d ∷ ds) = names_port vs d.name || any_port vs ds

-- it declares ports that are arrays, or whose messages have ports
unfoldable pub is_wide : ProgramUnit → Stmt → Bool
is_wide u (stmt.Inport t ds) = sends_ports t || any_bounded ds
is_wide u (stmt.Outport t ds) = sends_ports t || any_bounded ds
is_wide u (stmt.Dimension ds) = any_port u.names.variables ds
is_wide u s = false

-- 2. Statements.

-- an assignment, PRINT, WRITE, CONTINUE, CHANNEL, PROCESSES, PROCESSCALL, ENDPROCESSES, STOP or END
unfoldable pub is_simple : Stmt → Bool
is_simple (stmt.Simple (simple.Assignment v t)) = true
is_simple (stmt.Simple (simple.Print items)) = true
is_simple (stmt.Simple (simple.Write unit items)) = true
is_simple (stmt.Simple simple.Continue) = true
is_simple (stmt.Simple (simple.Channel in_first i o)) = true
is_simple (stmt.Simple simple.Stop) = true
is_simple stmt.Processes = true
is_simple (stmt.ProcessCall name part) = true
is_simple stmt.EndProcesses = true
is_simple stmt.End = true
is_simple s = false

unfoldable pub is_processes : Stmt → Bool
is_processes stmt.Processes = true
is_processes s = false

unfoldable pub is_once : Stmt → Bool
is_once stmt.Processes = true
is_once (stmt.Simple (simple.Channel in_first i o)) = true
is_once s = false

abbrev pub any_processes : List Entry → Bool
any_processes [] = false
any_processes (e ∷ es) = is_processes e.stmt || any_processes es

abbrev pub is_foreign : List Entry → Stmt → Bool
is_foreign before s = not (is_simple s) || is_once s && any_processes before

-- 3. Channels.

abbrev pub is_shared : ProgramUnit → List Entry → Stmt → Bool
is_shared u before s = any_among (channel_ports u s) (over (channel_ports u) before) || not (all_among (channel_out u s) (over (given u) u.tree.body))

-- 4. Process calls.

abbrev pub repeats : (seen ports : List ℕ) → Bool
repeats seen [] = false
repeats seen (p ∷ ps) = is_among p seen || repeats (p ∷ seen) ps

abbrev pub keeps_outport : List Variable → Bool
keeps_outport [] = false
keeps_outport (v ∷ vs) = is_outport v.kind && is_formal v.formal && not v.input || keeps_outport vs

-- CHANNEL, MERGER, PROCESSES, PROCESSCALL or PROCESSDO. What stands in a logical IF is an entry of its own
unfoldable pub is_making : Stmt → Bool
is_making (stmt.Simple (simple.Channel in_first i o)) = true
is_making (stmt.Simple (simple.Merger i os)) = true
is_making stmt.Processes = true
is_making (stmt.ProcessCall name part) = true
is_making (stmt.ProcessDo h) = true
is_making s = false

-- for each unit the units that it calls. PROCESSCALLs may count too, since a unit that has one makes processes itself
abbrev pub calls_inside : Program → List (List ℕ)
calls_inside p = call_graph true p.units.units (context p)

-- a unit that this one reaches has such an entry
pub record Makes (p : Program) (from : ℕ) : Type 0 where
  pub number : ℕ
  pub reached : Reaches (calls_inside p) from number
  pub unit : ProgramUnit
  pub here : unit_at p number ≡ Some unit
  pub entry : Entry
  pub within : Contains unit.tree.body entry
  pub makes : is_making entry.stmt ≡ true

-- the unit that a PROCESSCALL starts
unfoldable pub started : Program → Stmt → Option (ℕ × ProgramUnit)
started p (stmt.ProcessCall name part) = unit_named p name
started p s = None

-- 5. Edges, between the entries of the PROGRAM.

-- whether a CHANNEL leads from a call that gives these ports to one that gives those
abbrev pub joins : ProgramUnit → (froms tos : List ℕ) → List Entry → Bool
joins u froms tos [] = false
joins u froms tos (e ∷ es) = any_among (channel_out u e.stmt) froms && any_among (channel_in u e.stmt) tos || joins u froms tos es

abbrev pub ends_from : ProgramUnit → (froms : List ℕ) → (place : ℕ) → List Entry → List ℕ
ends_from u froms k [] = []
ends_from u froms k (e ∷ es) = cond (joins u froms (given u e.stmt) u.tree.body) (k ∷ []) [] ++ ends_from u froms (suc k) es

-- for each entry those to which its edges lead
abbrev pub edges : ProgramUnit → List (List ℕ)
edges u = map (λ (e : Entry). ends_from u (given u e.stmt) 0 u.tree.body) u.tree.body

-- The five sentences, each at a line.

-- 1. a declaration makes ports that are arrays or carry ports
abbrev pub DeclaresWidePort : ProgramUnit → ℕ → Type 0
DeclaresWidePort u line = (d : Placed) × Contains u.tree.specs d × (is_wide u d.stmt ≡ true) × (line ≡ d.line.0)

-- the entry with this number, at this line
pub record IsEntryAt (u : ProgramUnit) (line k : ℕ) (e : Entry) : Type 0 where
  pub there : slice_get u.tree.body k ≡ Some e
  pub same : line ≡ e.line.0

-- 2. a statement that isn't allowed, or not behind PROCESSES
abbrev pub HasForeignStatement : ProgramUnit → ℕ → Type 0
HasForeignStatement u line = (k : ℕ) × (e : Entry) × IsEntryAt u line k e × (is_foreign (take k u.tree.body) e.stmt ≡ true)

-- 3. a CHANNEL whose port another CHANNEL has too, or whose outport goes to no process
abbrev pub HasSharedChannel : ProgramUnit → ℕ → Type 0
HasSharedChannel u line = (k : ℕ) × (e : Entry) × IsEntryAt u line k e × (is_shared u (take k u.tree.body) e.stmt ≡ true)

-- a PROCESSCALL that gives a port again, or whose process keeps an outport or makes channels or processes
pub data IsRiskyCall (p : Program) (u : ProgramUnit) (k : ℕ) (e : Entry) : Type 0 where
  again : repeats (over (given u) (take k u.tree.body)) (given u e.stmt) ≡ true → IsRiskyCall p u k e
  keeps : (v : ℕ × ProgramUnit) → started p e.stmt ≡ Some v → keeps_outport v.1.names.variables ≡ true → IsRiskyCall p u k e
  makes : (v : ℕ × ProgramUnit) → started p e.stmt ≡ Some v → Makes p v.0 → IsRiskyCall p u k e

-- 4. such a call
abbrev pub HasRiskyCall : Program → ProgramUnit → ℕ → Type 0
HasRiskyCall p u line = (k : ℕ) × (e : Entry) × IsEntryAt u line k e × IsRiskyCall p u k e

-- 5. a call from which channels lead back to itself
abbrev pub HasRing : ProgramUnit → ℕ → Type 0
HasRing u line = (k : ℕ) × (e : Entry) × IsEntryAt u line k e × IsOnCycle (edges u) k

-- a sentence holds at this line
pub data IsRiskIn (p : Program) (u : ProgramUnit) (line : ℕ) : Type 0 where
  wide : DeclaresWidePort u line → IsRiskIn p u line
  foreign : HasForeignStatement u line → IsRiskIn p u line
  shared : HasSharedChannel u line → IsRiskIn p u line
  risky : HasRiskyCall p u line → IsRiskIn p u line
  ring : HasRing u line → IsRiskIn p u line

pub record IsRisk (p : Program) (line : ℕ) : Type 0 where
  pub main : ℕ
  pub unit : ProgramUnit
  pub starts : main_number p ≡ Some main
  pub there : unit_at p main ≡ Some unit
  pub risk : IsRiskIn p unit line

-- no sentence holds at any line
abbrev pub IsFlowSafe : Program → Type 0
IsFlowSafe p = (line : ℕ) → ¬ IsRisk p line

pub record IsFirstRisk (p : Program) (line : Line) : Type 0 where
  pub risk : IsRisk p line.0
  pub least : (other : ℕ) → IsRisk p other → line.0 ≤ other

-- none where the program is safe, and else the least line
abbrev pub IsFlowVerdict : Program → Option Line → Type 0
IsFlowVerdict p verdict = MatchOption verdict (IsFlowSafe p) (IsFirstRisk p)
