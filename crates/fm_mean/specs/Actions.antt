-- What a process does next, with its operands evaluated: one entry, or one reference of it.
-- Source: ANSI X3.9-1978, sections 10 to 12 and 15, MIL-STD-1753 for DO WHILE, and the Fortran M report for processes and channels; faults and costs by this profile.
use Rattle.std.specs.Prelude.{ℕ, zero, suc, pred, ℤ, pos, negsuc, ◌+◌, ◌-◌, nat_lt, nat_le, Bool, true, false, cond, Option, Some, None, option_and_then, List, [], ◌∷◌, ◌++◌, length, take, option_to_list, slice_get, Result, Ok, Err}
use Rattle.std.specs.FinMap as finite
use Rattle.std.specs.Ordering.{int_eq}
use Rattle.fm_base.specs.declared.fault.Fault.{Fault}
use Rattle.fm_base.specs.declared.fault.Fault.TheVariants.{NullPort, Subscript, ZeroDivide}
use Rattle.fm_base.specs.declared.output.Printed.{Printed}
use Rattle.fm_base.specs.declared.path.ChanName.{ChanName}
use Rattle.fm_base.specs.declared.port.PortValue.{PortValue}
use Rattle.fm_base.specs.declared.port.PortValue.TheVariants.{Writer, Reader}
use Rattle.fm_base.specs.declared.schedule.Machine.{Machine}
use Rattle.fm_base.specs.Channels.{Item, Words, Ports, Message}
use Rattle.fm_base.specs.Output.{line_text}
use Rattle.fm_values.specs.declared.value.Value.{Value}
use Rattle.fm_values.specs.Values.{sum, word_of, is_true}
use Rattle.fm_values.specs.Trips.{trips}
use Rattle.fm_tree.specs.Tree.{Tree, Trees, Number, Truth, Named, Ref, Paren, Signed, Not, Binary, NoTrees, trees_from}
use Rattle.fm_tree.specs.References.{reference_at}
use Rattle.fm_tree.specs.PortFields.{PortFields, FieldKind, NoFields, FieldThen}
use Rattle.fm_tree.specs.PortFields as field_kind
use Rattle.fm_tree.specs.PortReading as reading
use Rattle.fm_tree.specs.declared.form.UnitKind.{UnitKind}
use Rattle.fm_tree.specs.declared.form.UnitKind.TheVariants as unit_kind
use Rattle.fm_tree.specs.declared.program_unit.Entry.{Entry}
use Rattle.fm_tree.specs.declared.statement.Var.{Var}
use Rattle.fm_tree.specs.declared.statement.LoopHead.{LoopHead}
use Rattle.fm_tree.specs.declared.statement.Extra.{Extra}
use Rattle.fm_tree.specs.declared.statement.Extra.TheVariants as extra
use Rattle.fm_tree.specs.declared.statement.Where.{Where}
use Rattle.fm_tree.specs.declared.statement.Where.TheVariants as put_at
use Rattle.fm_tree.specs.declared.statement.CallPart.{CallPart}
use Rattle.fm_tree.specs.declared.statement.Simple.{Simple}
use Rattle.fm_tree.specs.declared.statement.Simple.TheVariants as simple
use Rattle.fm_tree.specs.declared.statement.Stmt.{Stmt}
use Rattle.fm_tree.specs.declared.statement.Stmt.TheVariants as stmt
use Rattle.fm_symbols.specs.declared.names.Variable.{Variable}
use Rattle.fm_rules.specs.PortTypes.{sizing_place}
use Rattle.fm_rules.specs.declared.program.Program.{Program}
use Rattle.fm_mean.specs.Operands.{◌>>=◌}
use Rattle.fm_mean.specs.Names.{ProgramUnit, Point, unit_at, unit_named, kind_of, variable_of, result_variable, point_at, line_of}
use Rattle.fm_mean.specs.declared.place.Actual.{Actual}
use Rattle.fm_mean.specs.declared.place.Actual.TheVariants.{Given, Taken}
use Rattle.fm_mean.specs.declared.place.Back.{Back}
use Rattle.fm_mean.specs.declared.place.Span.{Span}
use Rattle.fm_mean.specs.Places.{first_word, word_at, port_at, written, put_port, emptied_place, Returned, returned}
use Rattle.fm_mean.specs.Evaluate.{Scope, Reference, Element, Call, Built, Unknown, reference_of, refs_in, refs_in_all, refs_in_var, value_of, number_of, numbers_of, single, whole, place_of, places_of, actuals_of, printed_all}
use Rattle.fm_mean.specs.Process.{Frame, Execution, Kid, Phase, Running, Joining, Ended, Faulted, Proc, framed, started_ports, frame_ports}
use Rattle.fm_map.specs.Placement.{Seat, located, parted, fitted}
use Rattle.fm_mean.specs.Calls.{entered, backs_of, back_words, new_frame}

-- what a process meets others by, or what changes its phase. All operands are evaluated; places are those of
-- the innermost frame, and `next` is the entry that it does then
pub data Event : Type 0 where
  -- a fault at a line
  Fail : (line : ℕ) → (fault : Fault) → Event
  -- a new channel: the places of its inport and of its outports
  Make : (places : List Span) → (writers cost next : ℕ) → Event
  -- a message of these items goes into a channel
  Send : (channel : ChanName) → (writer : ℕ) → (items : List Actual) → (next : ℕ) → Event
  -- a message comes from a channel, for these places; where IOSTAT and END lead
  Receive : (channel : ChanName) → (line : ℕ) → (items : List Span) → (iostat : Option Span) → (at_end : Option ℕ) → (next : ℕ) → Event
  -- whether a receive would wait, for this place
  Probe : (channel : ChanName) → (empty : Span) → (next : ℕ) → Event
  -- the starts of the innermost frame begin as a block
  Begin : Event
  -- the children of a block are joined
  Join : (block : ℕ) → (kids : List Kid) → (next : ℕ) → Event
  -- the process ends
  End : Event

pub data Action : Type 0 where
  -- nothing more
  Rest : Action
  -- a step that touches nothing but the process and what it lets go: what runs after it, the lines that it
  -- puts out, and the cost
  Own : (after : Execution) → (lines : List (List ℕ)) → (drops : List PortValue) → (cost : ℕ) → Action
  -- an event
  Meets : Event → Action

abbrev pub fails : ℕ → Fault → Action
fails line fault = Meets (Fail line fault)

-- Frames and scopes.

abbrev pub scope_of : Program → ProgramUnit → Frame → Scope
scope_of p u f = record { program = p; unit = u; values = f.values; results = f.results }

-- the frame at another entry: no reference of that one is done yet
abbrev pub at_entry : Frame → ℕ → Frame
at_entry f n = record f { entry = n; results = [] }

-- what runs, with its innermost frame at another entry
abbrev pub goes_to : Execution → List Frame → Frame → ℕ → Action
goes_to w below f n = Own (framed w (at_entry f n ∷ below)) [] [] 1

abbrev pub jumps : Execution → List Frame → Frame → Option ℕ → Action
jumps w below f None = Rest
jumps w below f (Some n) = goes_to w below f n

-- References.

-- the frame of a unit is opened on those that are there
abbrev pub opens : Execution → (caller : Frame) → (below : List Frame) → (number : ℕ) → ProgramUnit → Returned → List Back → Action
opens w caller below n u r backs = Own (framed w (new_frame n r.theirs backs ∷ record caller { values = r.mine } ∷ below)) [] r.drops (1 + u.names.words)

abbrev pub refers : Execution → (line : ℕ) → Frame → List Frame → Reference → Result (List Actual) Fault → Action
refers w line f below (Element i v) args = Rest
refers w line f below (Built g) args = Rest
refers w line f below Unknown args = Rest
refers w line f below (Call n u) (Ok args) = opens w f below n u (entered u f.values args) []
refers w line f below (Call n u) (Err fault) = fails line fault

-- the next reference of an entry, whose arguments' own references are the last that were done
abbrev pub reference_step : Execution → (line : ℕ) → Scope → Frame → List Frame → Tree → Action
reference_step w line s f below (Ref name args) = refers w line f below (reference_of s name) (actuals_of s args (length f.results - refs_in_all s args))
reference_step w line s f below (Number k) = Rest
reference_step w line s f below (Truth b) = Rest
reference_step w line s f below (Named name) = Rest
reference_step w line s f below (Paren e) = Rest
reference_step w line s f below (Signed op e) = Rest
reference_step w line s f below (Not e) = Rest
reference_step w line s f below (Binary op a b) = Rest

-- Assignments, printing, tests and loops.

-- what runs, with other values in its innermost frame, at another entry
abbrev pub behind : Execution → (next : ℕ) → Frame → List Frame → List Item → Execution
behind w next f below vs = framed w (at_entry (record f { values = vs }) next ∷ below)

-- the place comes before the value
abbrev pub assigns : Execution → Point → Frame → List Frame → Result Span Fault → Result Value Fault → Action
assigns w e f below (Err fault) value = fails (line_of e) fault
assigns w e f below (Ok place) (Err fault) = fails (line_of e) fault
assigns w e f below (Ok place) (Ok v) = Own (behind w e.entry.after f below (written f.values place (word_of v ∷ []))) [] [] 1

-- a line costs its bytes with its line feed
abbrev pub prints : Execution → Point → Frame → List Frame → Result (List Printed) Fault → Action
prints w e f below (Err fault) = fails (line_of e) fault
prints w e f below (Ok items) = Own (framed w (at_entry f e.entry.after ∷ below)) (line_text items ∷ []) [] (1 + (length (line_text items) + 1))

-- a test leads into its branch or body, or elsewhere
abbrev pub tests : Execution → Point → Frame → List Frame → Result Value Fault → Action
tests w e f below (Err fault) = fails (line_of e) fault
tests w e f below (Ok v) = goes_to w below f (cond (is_true v) e.entry.after e.links.other)

-- the place of a scalar variable
abbrev pub scalar_place : Option (ℕ × Variable) → Span
scalar_place None = single 0 0
scalar_place (Some v) = whole v.0 v.1

abbrev pub step_number : Scope → Option Tree → ℕ → Result ℤ Fault
step_number s None n = Ok (pos 1)
step_number s (Some e) n = number_of s e n

abbrev pub loop_bounds : Scope → LoopHead → Result (ℤ × ℤ × ℤ) Fault
loop_bounds s h =
    number_of s h.from 0 >>= λ m1. number_of s h.to (refs_in s h.from) >>= λ m2. step_number s h.step (refs_in s h.from + refs_in s h.to) >>= λ m3. Ok (m1, m2, m3)

-- the loop begins with its first value; without trips it is left
abbrev pub loops : Execution → Point → Frame → List Frame → Span → Result (ℤ × ℤ × ℤ) Fault → Action
loops w e f below place (Err fault) = fails (line_of e) fault
loops w e f below place (Ok m) = cond (int_eq m.2 (pos 0)) (fails (line_of e) ZeroDivide)
    (Own (framed w (at_entry (record f { values = written f.values place (m.0 ∷ []); loops = finite.insert f.loops f.entry (trips m.0 m.1 m.2, m.2) }) (cond (nat_lt 0 (trips m.0 m.1 m.2)) e.entry.after e.links.other) ∷ below)) [] [] 1)

-- a loop end adds to the variable, and goes back into the body while trips are left
abbrev pub adds : Execution → Point → Frame → List Frame → (opener body : ℕ) → Span → (count : ℕ) → (by : ℤ) → Result ℤ Fault → Action
adds w e f below opener body place count by (Err fault) = fails (line_of e) fault
adds w e f below opener body place count by (Ok n) =
    Own (framed w (at_entry (record f { values = written f.values place (n ∷ []); loops = finite.insert f.loops opener (pred count, by) }) (cond (nat_lt 0 (pred count)) body e.entry.after) ∷ below)) [] [] 1

abbrev pub loop_trips : Execution → Point → Frame → List Frame → (opener body : ℕ) → Span → Option (ℕ × ℤ) → Action
loop_trips w e f below opener body place None = goes_to w below f e.entry.after
loop_trips w e f below opener body place (Some l) = adds w e f below opener body place l.0 l.1 (sum (word_at f.values place) l.1)

-- CALL, and the return from a unit.

abbrev pub calls : Execution → Point → Frame → List Frame → Option (ℕ × ProgramUnit) → Result (List Actual) Fault → Action
calls w e f below None args = Rest
calls w e f below (Some u) (Err fault) = fails (line_of e) fault
calls w e f below (Some u) (Ok args) = opens w (at_entry f e.entry.after) below u.0 u.1 (entered u.1 f.values args) (backs_of u.1 args)

-- the frame of a subroutine gives back and is gone, with what it still holds
abbrev pub gave : Execution → Frame → Frame → List Frame → Returned → Action
gave w f g below r = Own (framed w (record g { values = r.mine } ∷ below)) [] (r.drops ++ started_ports f.starts) (1 + back_words f.backs)

abbrev pub gives_back : Execution → Frame → List Frame → Action
gives_back w f [] = Meets End
gives_back w f (g ∷ below) = gave w f g below (returned g.values f.values f.backs)

-- the frame of a function leaves its result with the entry that refers to it
abbrev pub results_in : Execution → ProgramUnit → Frame → List Frame → Action
results_in w u f [] = Meets End
results_in w u f (g ∷ below) =
    Own (framed w (record g { results = g.results ++ word_at f.values (scalar_place (result_variable u)) ∷ [] } ∷ below)) [] (frame_ports f) 1

abbrev pub returns : Execution → ProgramUnit → Frame → List Frame → UnitKind → Action
returns w u f below unit_kind.Program = Meets End
returns w u f below unit_kind.Process = Meets End
returns w u f below unit_kind.Subroutine = gives_back w f below
returns w u f below unit_kind.Function = results_in w u f below

-- Ports.

abbrev pub message_words : Message → ℕ
message_words [] = 0
message_words (Words ws ∷ is) = length ws + message_words is
message_words (Ports ps ∷ is) = length ps + message_words is

-- the number that a scalar item is
abbrev pub size_in : Option Actual → ℤ
size_in None = pos 0
size_in (Some (Given ws back)) = first_word ws
size_in (Some (Taken s)) = pos 0

-- the first elements of an item, so many; Subscript where it has fewer
abbrev pub cut_to : ℤ → Actual → Result Actual Fault
cut_to (pos n) (Given ws back) = cond (nat_le n (length ws)) (Ok (Given (take n ws) back)) (Err Subscript)
cut_to (pos n) (Taken s) = cond (nat_le n s.count) (Ok (Taken (record s { count = n }))) (Err Subscript)
cut_to (negsuc n) a = Err Subscript

-- an item as it is sent, behind others: one for a field that an earlier one sizes has as many elements as that one says
abbrev pub cut_item : List Actual → (size : Option ℕ) → Actual → Result Actual Fault
cut_item before None a = Ok a
cut_item before (Some place) a = cut_to (size_in (slice_get before place)) a

abbrev pub cut_items : List Actual → PortFields → List Actual → Result (List Actual) Fault
cut_items before NoFields items = Ok items
cut_items before (FieldThen kind name bounds rest) [] = Ok []
cut_items before (FieldThen kind name bounds rest) (a ∷ more) =
    cut_item before (sizing_place bounds) a >>= λ i. cut_items (before ++ i ∷ []) rest more >>= λ is. Ok (i ∷ is)

abbrev pub sent_items : Point → ChanName → (writer : ℕ) → Result (List Actual) Fault → Action
sent_items e c w (Err fault) = fails (line_of e) fault
sent_items e c w (Ok items) = Meets (Send c w items e.entry.after)

abbrev pub sent : Point → PortFields → Option PortValue → List Actual → Action
sent e layout None items = fails (line_of e) NullPort
sent e layout (Some (Reader c)) items = fails (line_of e) NullPort
sent e layout (Some (Writer c w)) items = sent_items e c w (cut_items [] layout items)

-- the port is looked at when all items are evaluated, and then the sizes
abbrev pub sends : Point → PortFields → Frame → Result Span Fault → Result (List Actual) Fault → Action
sends e layout f (Err fault) items = fails (line_of e) fault
sends e layout f (Ok q) (Err fault) = fails (line_of e) fault
sends e layout f (Ok q) (Ok items) = sent e layout (port_at f.values q) items

-- the fields of the messages of a port
abbrev pub fields_by : FieldKind → PortFields
fields_by field_kind.Integer = NoFields
fields_by field_kind.Logical = NoFields
fields_by (field_kind.In fields) = fields
fields_by (field_kind.Out fields) = fields

abbrev pub fields_in : Option (ℕ × Variable) → PortFields
fields_in None = NoFields
fields_in (Some v) = fields_by (reading.kind_of v.1.kind)

abbrev pub fields_at : ProgramUnit → Var → PortFields
fields_at u v = fields_in (variable_of u v.name)

-- the place of IOSTAT behind the port of a RECEIVE, with the number of references up to it
abbrev pub iostat_of : Scope → List Extra → ℕ → Result (Option Span × ℕ) Fault
iostat_of s [] n = Ok (None, n)
iostat_of s (extra.End l ∷ es) n = iostat_of s es n
iostat_of s (extra.Iostat v ∷ es) n = place_of s v n >>= λ p. iostat_of s es (n + refs_in_var s v) >>= λ r. Ok (Some p, r.1)

-- the port of a RECEIVE, IOSTAT and the items, evaluated
abbrev pub Receiving : Type 0
Receiving = Span × Option Span × List Span

abbrev pub receives_at : Point → Receiving → Option PortValue → Action
receives_at e r None = fails (line_of e) NullPort
receives_at e r (Some (Writer c w)) = fails (line_of e) NullPort
receives_at e r (Some (Reader c)) = Meets (Receive c (line_of e) r.2 r.1 e.links.jump e.entry.after)

abbrev pub receives : Point → Frame → Result Receiving Fault → Action
receives e f (Err fault) = fails (line_of e) fault
receives e f (Ok r) = receives_at e r (port_at f.values r.0)

abbrev pub receive_places : Scope → Var → List Extra → List Var → Result Receiving Fault
receive_places s port extras items =
    place_of s port 0 >>= λ p. iostat_of s extras (refs_in_var s port) >>= λ r. places_of s items r.1 >>= λ is. Ok (p, r.0, is)

-- what is left, and the port that was there and is let go
abbrev pub closed : Execution → Point → Frame → List Frame → List Item → Option PortValue → Action
closed w e f below vs None = fails (line_of e) NullPort
closed w e f below vs (Some p) = Own (behind w e.entry.after f below vs) [] (p ∷ []) 1

abbrev pub closes : Execution → Point → Frame → List Frame → Result Span Fault → Action
closes w e f below (Err fault) = fails (line_of e) fault
closes w e f below (Ok q) = closed w e f below (emptied_place f.values q).0 (emptied_place f.values q).1

abbrev pub moved : Execution → Point → Frame → List Frame → List Item × Option PortValue → Action
moved w e f below m = Own (behind w e.entry.after f below m.0) [] (option_to_list m.1) 1

-- what is in the one place goes to the other, NULL too
abbrev pub moves : Execution → Point → Frame → List Frame → Result (Span × Span) Fault → Action
moves w e f below (Err fault) = fails (line_of e) fault
moves w e f below (Ok r) = moved w e f below (put_port (emptied_place f.values r.0).0 r.1 (emptied_place f.values r.0).1)

abbrev pub probes_at : Point → Span → Option PortValue → Action
probes_at e empty None = fails (line_of e) NullPort
probes_at e empty (Some (Writer c w)) = fails (line_of e) NullPort
probes_at e empty (Some (Reader c)) = Meets (Probe c empty e.entry.after)

abbrev pub probes : Point → Frame → Result (Span × Span) Fault → Action
probes e f (Err fault) = fails (line_of e) fault
probes e f (Ok r) = probes_at e r.1 (port_at f.values r.0)

abbrev pub two_places : Scope → Var → Var → Result (Span × Span) Fault
two_places s a b = place_of s a 0 >>= λ p. place_of s b (refs_in_var s a) >>= λ q. Ok (p, q)

-- the elements of spans, one by one
abbrev pub elements_from : ℕ → ℕ → ℕ → List Span
elements_from i k zero = []
elements_from i k (suc n) = single i k ∷ elements_from i (suc k) n

abbrev pub elements_of : List Span → List Span
elements_of [] = []
elements_of (s ∷ ss) = elements_from s.variable s.first s.count ++ elements_of ss

-- the inport and the outport of a channel
abbrev pub makes : Point → Result (Span × Span) Fault → Action
makes e (Err fault) = fails (line_of e) fault
makes e (Ok r) = Meets (Make (r.0 ∷ r.1 ∷ []) 1 1 e.entry.after)

-- the inport of a merger, and its outports, an array's one by one; it costs its writers besides
abbrev pub merges : Point → Result (Span × List Span) Fault → Action
merges e (Err fault) = fails (line_of e) fault
merges e (Ok r) = Meets (Make (r.0 ∷ elements_of r.1) (length (elements_of r.1)) (1 + length (elements_of r.1)) e.entry.after)

-- in order of text
abbrev pub channel_places : Scope → (in_first : Bool) → (inport outport : Var) → Result (Span × Span) Fault
channel_places s true p q = place_of s p 0 >>= λ i. place_of s q (refs_in_var s p) >>= λ o. Ok (i, o)
channel_places s false p q = place_of s q 0 >>= λ o. place_of s p (refs_in_var s q) >>= λ i. Ok (i, o)

abbrev pub merger_places : Scope → Var → List Var → Result (Span × List Span) Fault
merger_places s p qs = place_of s p 0 >>= λ i. places_of s qs (refs_in_var s p) >>= λ os. Ok (i, os)

-- Process calls.

abbrev pub seat_at : Scope → Machine → Seat → Option Where → ℕ → Result Seat Fault
seat_at s m here None n = Ok here
seat_at s m here (Some (put_at.Location ks)) n = numbers_of s (trees_from ks) n >>= λ xs. located s.unit.names.extents m xs
seat_at s m here (Some (put_at.Submachine lo hi)) n = number_of s lo n >>= λ a. number_of s hi (n + refs_in s lo) >>= λ b. parted m a b

-- the start comes last among those of the block
abbrev pub pended : Execution → Point → Frame → List Frame → (number : ℕ) → ProgramUnit → List Back → Seat → Returned → Action
pended w e f below n u backs seat t = Own (framed w (at_entry (record f {
  values = t.mine;
  starts = f.starts ++ record { unit = n; values = t.theirs; backs = backs; machine = seat.0; node = seat.1 } ∷ [];
}) e.entry.after ∷ below)) [] t.drops (1 + u.names.words)

abbrev pub starts_one : Execution → Point → Frame → List Frame → (number : ℕ) → ProgramUnit → Result (List Actual × Seat) Fault → Action
starts_one w e f below n u (Err fault) = fails (line_of e) fault
starts_one w e f below n u (Ok r) = pended w e f below n u (backs_of u r.0) r.1 (entered u f.values r.0)

abbrev pub arguments_in : Option CallPart → List Tree
arguments_in None = []
arguments_in (Some c) = c.arguments

abbrev pub where_in : Option CallPart → Option Where
where_in None = None
where_in (Some c) = c.place

abbrev pub process_calls : Execution → Scope → Point → Frame → List Frame → Option (ℕ × ProgramUnit) → List Tree → Option Where → Action
process_calls w s e f below None args at = Rest
process_calls w s e f below (Some u) args at =
    starts_one w e f below u.0 u.1
    (actuals_of s (trees_from args) 0 >>= λ actuals. seat_at s w.machine (w.machine, w.node) at (refs_in_all s (trees_from args)) >>= λ seat. fitted u.1.names.extents seat >>= λ there. Ok (actuals, there))

-- Statements.

abbrev pub trees_in : Option (List Tree) → Trees
trees_in None = NoTrees
trees_in (Some ts) = trees_from ts

abbrev pub simple_action : Program → Execution → ProgramUnit → Point → Frame → List Frame → Scope → Simple → Action
simple_action p w u e f below s (simple.Assignment v t) = assigns w e f below (place_of s v 0) (value_of s t (refs_in_var s v))
simple_action p w u e f below s (simple.Goto l) = jumps w below f e.links.jump
simple_action p w u e f below s simple.Continue = goes_to w below f e.entry.after
simple_action p w u e f below s simple.Return = returns w u f below (kind_of u)
simple_action p w u e f below s simple.Stop = Meets End
simple_action p w u e f below s (simple.Call name args) = calls w e f below (unit_named p name) (actuals_of s (trees_in args) 0)
simple_action p w u e f below s (simple.Print items) = prints w e f below (printed_all s items 0)
simple_action p w u e f below s (simple.Write unit items) = prints w e f below (printed_all s items 0)
simple_action p w u e f below s (simple.Channel in_first i o) = makes e (channel_places s in_first i o)
simple_action p w u e f below s (simple.Merger i os) = merges e (merger_places s i os)
simple_action p w u e f below s (simple.Send named q items) = sends e (fields_at u q) f (place_of s q 0) (actuals_of s (trees_from items) (refs_in_var s q))
simple_action p w u e f below s (simple.Receive named q extras items) = receives e f (receive_places s q extras items)
simple_action p w u e f below s (simple.EndChannel named q) = closes w e f below (place_of s q 0)
simple_action p w u e f below s (simple.MovePort from to) = moves w e f below (two_places s from to)
simple_action p w u e f below s (simple.Probe named q empty) = probes e f (two_places s q empty)

-- which loop an opener opens
pub data Loop : Type 0 where
  Counted : (variable : List ℕ) → Loop
  While : Loop
  NoLoop : Loop

abbrev pub loop_of : Stmt → Loop
loop_of (stmt.Do h) = Counted h.variable
loop_of (stmt.ProcessDo h) = Counted h.variable
loop_of (stmt.DoWhile t) = While
loop_of other = NoLoop

abbrev pub ends_loop : Execution → ProgramUnit → Point → Frame → List Frame → (opener body : ℕ) → Loop → Action
ends_loop w u e f below opener body (Counted name) = loop_trips w e f below opener body (scalar_place (variable_of u name)) (finite.get f.loops opener)
ends_loop w u e f below opener body While = goes_to w below f opener
ends_loop w u e f below opener body NoLoop = Rest

-- a loop end ends a trip of its loop, or goes back to the test of a DOWHILE
abbrev pub end_by : Execution → ProgramUnit → Point → Frame → List Frame → (opener : ℕ) → Option Entry → Action
end_by w u e f below opener None = Rest
end_by w u e f below opener (Some o) = ends_loop w u e f below opener o.after (loop_of o.stmt)

abbrev pub end_of : Execution → ProgramUnit → Point → Frame → List Frame → Option ℕ → Action
end_of w u e f below None = Rest
end_of w u e f below (Some opener) = end_by w u e f below opener (slice_get u.tree.body opener)

abbrev pub loop_end : Execution → ProgramUnit → Point → Frame → List Frame → Action
loop_end w u e f below = end_of w u e f below e.entry.mate

abbrev pub statement_action : Program → Execution → ProgramUnit → Point → Frame → List Frame → Scope → Stmt → Action
statement_action p w u e f below s (stmt.Simple k) = simple_action p w u e f below s k
statement_action p w u e f below s (stmt.LogicalIf t k) = tests w e f below (value_of s t 0)
statement_action p w u e f below s (stmt.BlockIf t) = tests w e f below (value_of s t 0)
statement_action p w u e f below s (stmt.ElseIf t) = tests w e f below (value_of s t 0)
statement_action p w u e f below s stmt.Else = goes_to w below f e.entry.after
statement_action p w u e f below s stmt.EndIf = goes_to w below f e.entry.after
statement_action p w u e f below s (stmt.Do h) = loops w e f below (scalar_place (variable_of u h.variable)) (loop_bounds s h)
statement_action p w u e f below s (stmt.ProcessDo h) = loops w e f below (scalar_place (variable_of u h.variable)) (loop_bounds s h)
statement_action p w u e f below s (stmt.DoWhile t) = tests w e f below (value_of s t 0)
statement_action p w u e f below s stmt.EndDo = loop_end w u e f below
statement_action p w u e f below s stmt.EndProcessDo = loop_end w u e f below
statement_action p w u e f below s stmt.LoopEnd = loop_end w u e f below
statement_action p w u e f below s stmt.End = returns w u f below (kind_of u)
statement_action p w u e f below s stmt.Processes = goes_to w below f e.entry.after
statement_action p w u e f below s stmt.EndProcesses = Meets Begin
statement_action p w u e f below s (stmt.ProcessCall name part) = process_calls w s e f below (unit_named p name) (arguments_in part) (where_in part)
statement_action p w u e f below s (stmt.Program name) = Rest
statement_action p w u e f below s (stmt.Process name formals) = Rest
statement_action p w u e f below s (stmt.Subroutine name formals) = Rest
statement_action p w u e f below s (stmt.Function name formals) = Rest
statement_action p w u e f below s (stmt.IntegerFunction name formals) = Rest
statement_action p w u e f below s (stmt.LogicalFunction name formals) = Rest
statement_action p w u e f below s stmt.ImplicitNone = Rest
statement_action p w u e f below s (stmt.Integer ds) = Rest
statement_action p w u e f below s (stmt.Logical ds) = Rest
statement_action p w u e f below s (stmt.Dimension ds) = Rest
statement_action p w u e f below s (stmt.Parameter ds) = Rest
statement_action p w u e f below s (stmt.Inport t ds) = Rest
statement_action p w u e f below s (stmt.Outport t ds) = Rest
statement_action p w u e f below s (stmt.Intent way names) = Rest
statement_action p w u e f below s (stmt.Processors es) = Rest

-- the references of an entry come first, each a step of its own
abbrev pub action_by : Program → Execution → ProgramUnit → Point → Frame → List Frame → Option Tree → Action
action_by p w u e f below (Some t) = reference_step w (line_of e) (scope_of p u f) f below t
action_by p w u e f below None = statement_action p w u e f below (scope_of p u f) e.entry.stmt

-- the reference of an entry that comes when so many are done
abbrev pub next_reference : Entry → ℕ → Option Tree
next_reference e n = option_and_then (reference_at e.stmt) (slice_get e.refs n)

abbrev pub point_action : Program → Execution → ProgramUnit → Frame → List Frame → Option Point → Action
point_action p w u f below None = Rest
point_action p w u f below (Some e) = action_by p w u e f below (next_reference e.entry (length f.results))

abbrev pub action_at : Program → Execution → Frame → List Frame → Option ProgramUnit → Action
action_at p w f below None = Rest
action_at p w f below (Some u) = point_action p w u f below (point_at u f.entry)

abbrev pub running : Program → Execution → List Frame → Action
running p w [] = Rest
running p w (f ∷ below) = action_at p w f below (unit_at p f.unit)

-- the entry behind the one at which a process joins

abbrev pub after_in : Option Point → ℕ
after_in None = 0
after_in (Some e) = e.entry.after

abbrev pub after_at : Option ProgramUnit → ℕ → ℕ
after_at None n = 0
after_at (Some u) n = after_in (point_at u n)

abbrev pub joining : Program → (block : ℕ) → List Kid → List Frame → Action
joining p block kids [] = Rest
joining p block kids (f ∷ below) = Meets (Join block kids (after_at (unit_at p f.unit) f.entry))

abbrev pub action_in : Program → Execution → Phase → Action
action_in p w Running = running p w w.frames
action_in p w (Joining block kids) = joining p block kids w.frames
action_in p w Ended = Rest
action_in p w (Faulted line fault) = Rest

-- what the process does next
abbrev pub action_of : Program → Proc → Action
action_of p x = action_in p x.execution x.phase

-- The steps that touch nothing but the process: the process after it, and the cost.

abbrev pub gone_on : Proc → Execution → List (List ℕ) → Proc
gone_on x w lines = record x { execution = w; lines = x.lines ++ lines }

abbrev pub local_by : Proc → List PortValue → ℕ → Option (Proc × ℕ)
local_by y [] cost = Some (y, cost)
local_by y (z ∷ zs) cost = None

abbrev pub local_in : Proc → Action → Option (Proc × ℕ)
local_in x Rest = None
local_in x (Own w lines drops cost) = local_by (gone_on x w lines) drops cost
local_in x (Meets e) = None

abbrev pub local_step : Program → Proc → Option (Proc × ℕ)
local_step p x = local_in x (action_of p x)
