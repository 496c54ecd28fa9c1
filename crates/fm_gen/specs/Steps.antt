-- How a statement of code and an action of the meaning agree.
-- Source: this profile.
use Rattle.std.specs.Prelude.{◌≡◌, ◌≤◌, ℕ, ◌+◌, ℤ, pos, true, false, Option, Some, None, option_map, List, [], ◌∷◌, length, map, slice_get, Result, Ok}
use Rattle.std.specs.Ordering.{int_eq}
use Rattle.fm_base.specs.declared.fault.Fault.{Fault}
use Rattle.fm_base.specs.declared.output.Printed.{Printed}
use Rattle.fm_base.specs.declared.path.ChanName.{ChanName}
use Rattle.fm_base.specs.declared.port.PortValue.TheVariants.{Writer, Reader}
use Rattle.fm_map.specs.Placement.{Seat, located, parted, fitted}
use Rattle.fm_net.specs.Typed.{AllIn}
use Rattle.fm_tree.specs.Tree.{Trees, Ref}
use Rattle.fm_tree.specs.PortFields.{PortFields, In}
use Rattle.fm_tree.specs.declared.form.UnitKind.TheVariants as unit_kind
use Rattle.fm_tree.specs.declared.statement.Var.{Var}
use Rattle.fm_rules.specs.declared.program.Program.{Program}
use Rattle.fm_mean.specs.Operands.{◌>>=◌}
use Rattle.fm_mean.specs.Names.{ProgramUnit, Point, unit_at, kind_of, line_of, result_variable}
use Rattle.fm_mean.specs.Places.{word_at, port_at}
use Rattle.fm_mean.specs.Process as mean
use Rattle.fm_mean.specs.Process.{Execution}
use Rattle.fm_mean.specs.Evaluate.{Call, reference_of, places_of}
use Rattle.fm_mean.specs.Fits.{sort_at}
use Rattle.fm_mean.specs.Calls.{entered, backs_of}
use Rattle.fm_mean.specs.Actions.{Action, Rest, Meets, Make, Send, Receive, Probe, Begin, End, fails, goes_to, prints, at_entry, opens, gives_back, results_in, starts_one, closes, moves, scalar_place, elements_of, next_reference}
use Rattle.fm_mean.specs.declared.place.Actual.{Actual}
use Rattle.fm_symbols.specs.declared.names.Variable.{Variable}
use Rattle.fm_code.specs.declared.ask.Ask.{Ask}
use Rattle.fm_code.specs.declared.ask.Ask.TheVariants as ask
use Rattle.fm_code.specs.declared.ask.Operand.{Operand}
use Rattle.fm_code.specs.declared.body.Frame.{Frame}
use Rattle.fm_code.specs.declared.scratch.Place.{Place}
use Rattle.fm_code.specs.declared.scratch.Place.TheVariants.{Here, Location, Submachine}
use Rattle.fm_code.specs.Acts.{StatementEnd, Goes, Prints, Calls, Refers, Returns, ReturnsValue, Starts, Closes, Moves, Fails, Asks, Stuck}
use Rattle.fm_mean.specs.Referring.{names_in}
use Rattle.fm_gen_relation.specs.Sound.{formals_among}
use Rattle.fm_gen_relation.specs.Targets.{TargetsFit}
use Rattle.fm_gen_relation.specs.Standing.{Slots, scope_in, IsResultOf}
use Rattle.fm_gen_relation.specs.Operands.{MeanSpan, word_number, operand_of, item_of, target_of, IsPlace, IsActual, IsItem, TakesFrom, holds_words}
use Rattle.fm_gen_relation.specs.Frames.{Stands}
use Rattle.fm_gen.specs.Statements.{Addresses}

-- what a statement of its process alone leaves as it is in a frame of the meaning, and in one of code
pub record LeavesFrame (f g : mean.Frame) : Type 0 where
  pub unit : g.unit ≡ f.unit
  pub starts : g.starts ≡ f.starts
  pub backs : g.backs ≡ f.backs

pub record LeavesCode (m n : Frame) : Type 0 where
  pub unit : n.unit ≡ m.unit
  pub count : length n.words ≡ length m.words
  pub starts : n.starts ≡ m.starts
  pub backs : n.backs ≡ m.backs

-- Where a statement is done: its unit and entry, what runs, with its innermost frame and those below, and the frame of code
-- that stands for the innermost one; where entries begin, where the statement behind the entry's next reference does, and
-- where the join of its block.
pub record Site : Type 0 where
  pub program : Program
  pub unit : ProgramUnit
  pub slots : Slots
  pub address : Addresses
  pub behind : ℕ
  pub join : ℕ
  pub runs : Execution
  pub point : Point
  pub frame : mean.Frame
  pub below : List mean.Frame
  pub code : Frame

abbrev pub variables : Site → List Variable
variables s = s.unit.names.variables

abbrev pub after : Site → ℕ
after s = s.point.entry.after

-- both go on, at one entry and in frames of which one stands for the other
pub record GoesOn (s : Site) (to : ℕ) (m : Frame) (a : Action) : Type 0 where
  pub frame : mean.Frame
  pub entry : ℕ
  pub does : a ≡ goes_to s.runs s.below frame entry
  pub leads : to ≡ s.address entry
  pub stands : Stands s.unit s.slots frame m
  pub leaves : LeavesFrame s.frame frame
  pub leaves_code : LeavesCode s.code m

-- both print a line, and then go on
pub record PrintsLine (s : Site) (to : ℕ) (line : List Printed) (a : Action) : Type 0 where
  pub does : a ≡ prints s.runs s.point s.frame s.below (Ok line)
  pub leads : to ≡ s.address (after s)

-- Calls.

-- a unit, and arguments that its formals take, as operands
pub record Passes (s : Site) (number : ℕ) (operands : List Operand) : Type 0 where
  pub callee : ProgramUnit
  pub there : unit_at s.program number ≡ Some callee
  pub arguments : List Actual
  pub same : operands ≡ map (operand_of (variables s)) arguments
  pub whole : AllIn (IsActual (variables s) s.frame.values) arguments
  pub taken : TakesFrom callee 1 arguments
  pub full : length (formals_among callee.names.variables) ≡ length arguments

-- both open a frame of a SUBROUTINE
pub record CallsAlike (s : Site) (number to : ℕ) (operands : List Operand) (a : Action) : Type 0 where
  pub passes : Passes s number operands
  pub kind : kind_of passes.callee ≡ unit_kind.Subroutine
  pub leads : to ≡ s.address (after s)
  pub does : a ≡ opens s.runs (at_entry s.frame (after s)) s.below number passes.callee (entered passes.callee s.frame.values passes.arguments) (backs_of passes.callee passes.arguments)

-- both open a frame of the FUNCTION to which the entry's next reference refers
pub record RefersAlike (s : Site) (number to : ℕ) (operands : List Operand) (a : Action) : Type 0 where
  pub passes : Passes s number operands
  pub name : List ℕ
  pub trees : Trees
  pub next : next_reference s.point.entry (length s.frame.results) ≡ Some (Ref name trees)
  pub means : reference_of (names_in s.program s.unit) name ≡ Call number passes.callee
  pub leads : to ≡ s.behind
  pub does : a ≡ opens s.runs s.frame s.below number passes.callee (entered passes.callee s.frame.values passes.arguments) []

-- both return from a SUBROUTINE
pub record ReturnsAlike (s : Site) (a : Action) : Type 0 where
  pub kind : kind_of s.unit ≡ unit_kind.Subroutine
  pub does : a ≡ gives_back s.runs s.frame s.below

-- both return from a FUNCTION, with its result
pub record ResultsAlike (s : Site) (value : ℤ) (a : Action) : Type 0 where
  pub kind : kind_of s.unit ≡ unit_kind.Function
  pub result : value ≡ word_at s.frame.values (scalar_place (result_variable s.unit))
  pub typed : IsResultOf (result_variable s.unit) value
  pub does : a ≡ results_in s.runs s.unit s.frame s.below

-- where a process is put
abbrev pub seat_by : ProgramUnit → Execution → Place → Result Seat Fault
seat_by u w Here = Ok (w.machine, w.node)
seat_by u w (Location ks) = located u.names.extents w.machine ks
seat_by u w (Submachine low high) = parted w.machine low high

-- both add a start to those of the block, or meet the fault of its place
pub record StartsAlike (s : Site) (number to : ℕ) (operands : List Operand) (place : Place) (a : Action) : Type 0 where
  pub passes : Passes s number operands
  pub leads : to ≡ s.address (after s)
  pub does : a
      ≡ starts_one s.runs s.point s.frame s.below number passes.callee
      (seat_by s.unit s.runs place >>= λ seat. fitted passes.callee.names.extents seat >>= λ there. Ok (passes.arguments, there))

-- Ports.

-- the port word of a place, which isn't NULL
pub record HoldsSlot (s : Site) (q : MeanSpan) (slot : ℤ) : Type 0 where
  pub place : IsPlace (variables s) false q
  pub some : 1 ≤ q.count
  pub at : slice_get s.code.words (word_number (variables s) q) ≡ Some slot
  pub live : int_eq slot (pos 0) ≡ false

pub record ClosesAlike (s : Site) (port to : ℕ) (a : Action) : Type 0 where
  pub span : MeanSpan
  pub slot : ℤ
  pub holds : HoldsSlot s span slot
  pub number : port ≡ word_number (variables s) span
  pub leads : to ≡ s.address (after s)
  pub does : a ≡ closes s.runs s.point s.frame s.below (Ok span)

-- a place of ports with an element at least
pub record IsPortPlace (s : Site) (q : MeanSpan) : Type 0 where
  pub place : IsPlace (variables s) false q
  pub some : 1 ≤ q.count

pub record MovesAlike (s : Site) (from into to : ℕ) (a : Action) : Type 0 where
  pub source : MeanSpan
  pub target : MeanSpan
  pub first : IsPortPlace s source
  pub second : IsPortPlace s target
  pub from_is : from ≡ word_number (variables s) source
  pub into_is : into ≡ word_number (variables s) target
  pub leads : to ≡ s.address (after s)
  pub does : a ≡ moves s.runs s.point s.frame s.below (Ok (source, target))

-- What is asked for.

pub record MakesChannel (s : Site) (inport outport next : ℕ) (a : Action) : Type 0 where
  pub i : MeanSpan
  pub o : MeanSpan
  pub first : IsPortPlace s i
  pub second : IsPortPlace s o
  pub inport_is : inport ≡ word_number (variables s) i
  pub outport_is : outport ≡ word_number (variables s) o
  pub leads : next ≡ s.address (after s)
  pub does : a ≡ Meets (Make (i ∷ o ∷ []) 1 1 (after s))

pub record MakesMerger (s : Site) (inport : ℕ) (outports : List Operand) (next : ℕ) (a : Action) : Type 0 where
  pub i : MeanSpan
  pub os : List MeanSpan
  pub first : IsPortPlace s i
  pub others : AllIn (IsPlace (variables s) false) os
  pub inport_is : inport ≡ word_number (variables s) i
  pub outports_are : outports ≡ map (target_of (variables s)) os
  pub leads : next ≡ s.address (after s)
  pub does : a ≡ Meets (Make (i ∷ elements_of os) (length (elements_of os)) (1 + length (elements_of os)) (after s))

pub record SendsAlike (s : Site) (slot : ℤ) (items : List Operand) (next : ℕ) (a : Action) : Type 0 where
  pub channel : ChanName
  pub writer : ℕ
  pub actuals : List Actual
  pub live : int_eq slot (pos 0) ≡ false
  pub port : s.slots slot ≡ Writer channel writer
  pub same : items ≡ map (item_of (variables s)) actuals
  pub whole : AllIn (IsItem (variables s) s.frame.values) actuals
  pub leads : next ≡ s.address (after s)
  pub does : a ≡ Meets (Send channel writer actuals (after s))

-- the place of IOSTAT, where it is asked for, is one of words
abbrev pub IsStatus : Site → Option MeanSpan → Type 0
IsStatus s None = Unit {0}
IsStatus s (Some q) = IsPlace (variables s) true q × (1 ≤ q.count)

-- each place lies in a variable
abbrev pub AreWhole : Site → List MeanSpan → Type 0
AreWhole s = AllIn (λ (q : MeanSpan). IsPlace (variables s) (holds_words (variables s) q.variable) q)

pub record ReceivesAlike (s : Site) (slot : ℤ) (items : List Operand) (status at_end : Option ℕ) (next : ℕ) (a : Action) : Type 0 where
  pub channel : ChanName
  pub places : List MeanSpan
  pub iostat : Option MeanSpan
  pub live : int_eq slot (pos 0) ≡ false
  pub port : s.slots slot ≡ Reader channel
  pub same : items ≡ map (target_of (variables s)) places
  pub whole : AreWhole s places
  -- the port stands at a place for inports of this type, and what is received is of it
  pub fields : PortFields
  pub inport : MeanSpan
  pub stands : port_at s.frame.values inport ≡ Some (Reader channel)
  pub sort : sort_at (variables s) inport.variable ≡ Some (In fields)
  pub targets : List Var
  pub done : ℕ
  pub evaluated : places_of (scope_in s.program s.unit s.slots s.code) targets done ≡ Ok places
  pub fit : TargetsFit s.unit fields targets
  pub status_whole : IsStatus s iostat
  pub status_is : status ≡ option_map (word_number (variables s)) iostat
  pub at_end_is : at_end ≡ option_map s.address s.point.links.jump
  pub leads : next ≡ s.address (after s)
  pub does : a ≡ Meets (Receive channel (line_of s.point) places iostat s.point.links.jump (after s))

pub record ProbesAlike (s : Site) (slot : ℤ) (empty next : ℕ) (a : Action) : Type 0 where
  pub channel : ChanName
  pub place : MeanSpan
  pub live : int_eq slot (pos 0) ≡ false
  pub port : s.slots slot ≡ Reader channel
  pub whole : IsPlace (variables s) true place
  pub some : 1 ≤ place.count
  pub number : empty ≡ word_number (variables s) place
  pub leads : next ≡ s.address (after s)
  pub does : a ≡ Meets (Probe channel place (after s))

-- the starts of the block begin, and the join comes next
pub record BeginsAlike (s : Site) (next : ℕ) (a : Action) : Type 0 where
  pub leads : next ≡ s.join
  pub does : a ≡ Meets Begin

abbrev pub AsksAlike : Site → Ask → Action → Type 0
AsksAlike s (ask.Fail line fault) a = ⊥
AsksAlike s (ask.LetGo slots) a = ⊥
AsksAlike s (ask.Channel inport outport next) a = MakesChannel s inport outport next a
AsksAlike s (ask.Merger inport outports next) a = MakesMerger s inport outports next a
AsksAlike s (ask.Send slot items next) a = SendsAlike s slot items next a
AsksAlike s (ask.Receive slot items status at_end next) a = ReceivesAlike s slot items status at_end next a
AsksAlike s (ask.Probe slot empty next) a = ProbesAlike s slot empty next a
AsksAlike s (ask.Begin next) a = BeginsAlike s next a
AsksAlike s (ask.Join next) a = ⊥
AsksAlike s ask.End a = a ≡ Meets End

abbrev pub Agree : Site → StatementEnd → Action → Type 0
Agree s (Goes to m) a = GoesOn s to m a
Agree s (Prints to line) a = PrintsLine s to line a
Agree s (Calls number to operands) a = CallsAlike s number to operands a
Agree s (Refers number to operands) a = RefersAlike s number to operands a
Agree s Returns a = ReturnsAlike s a
Agree s (ReturnsValue value) a = ResultsAlike s value a
Agree s (Starts number to operands place) a = StartsAlike s number to operands place a
Agree s (Closes port to) a = ClosesAlike s port to a
Agree s (Moves from into to) a = MovesAlike s from into to a
Agree s (Fails fault) a = a ≡ fails (line_of s.point) fault
Agree s (Asks k) a = AsksAlike s k a
Agree s Stuck a = a ≡ Rest
