-- Where a block begins and where it is joined: starts begin at the end of a block alone, and who runs joins nobody.
use Rattle.std.proofs.Common.{◌≡◌, ℕ, ℤ, pos, Bool, true, false, cond, Option, Some, None, List, [], ◌∷◌, length, refl, Result, Ok, Err}
use Rattle.std.specs.Prelude.{slice_get}
use Rattle.std.specs.Ordering.{int_eq}
use Rattle.std.specs.FinMap as finite
use Rattle.fm_base.specs.declared.fault.Fault.{Fault}
use Rattle.fm_base.specs.declared.path.ChanName.{ChanName}
use Rattle.fm_base.specs.declared.output.Printed.{Printed}
use Rattle.fm_base.specs.declared.port.PortValue.{PortValue}
use Rattle.fm_base.specs.declared.port.PortValue.TheVariants.{Writer, Reader}
use Rattle.fm_base.specs.Channels.{Item}
use Rattle.fm_values.specs.declared.value.Value.{Value}
use Rattle.fm_tree.specs.Tree.{Tree, Number, Truth, Named, Ref, Paren, Signed, Not, Binary}
use Rattle.fm_tree.specs.PortFields.{PortFields}
use Rattle.fm_tree.specs.declared.form.UnitKind.{UnitKind}
use Rattle.fm_tree.specs.declared.form.UnitKind.TheVariants as unit_kind
use Rattle.fm_tree.specs.declared.program_unit.Entry.{Entry}
use Rattle.fm_tree.specs.declared.statement.Simple.{Simple}
use Rattle.fm_tree.specs.declared.statement.Simple.TheVariants as simple
use Rattle.fm_tree.specs.declared.statement.Stmt.{Stmt}
use Rattle.fm_tree.specs.declared.statement.Stmt.TheVariants as stmt
use Rattle.fm_rules.specs.declared.program.Program.{Program}
use Rattle.fm_map.specs.Placement.{Seat}
use Rattle.fm_mean.specs.Names.{ProgramUnit, Point, unit_named, kind_of, variable_of, line_of}
use Rattle.fm_mean.specs.declared.place.Actual.{Actual}
use Rattle.fm_mean.specs.declared.place.Span.{Span}
use Rattle.fm_mean.specs.Evaluate.{Scope, Reference, Element, Call, Built, Unknown, reference_of}
use Rattle.fm_mean.specs.Process.{Frame, Execution}
use Rattle.fm_mean.specs.Actions as action
use Rattle.fm_mean.specs.Actions.{Event, Fail, Make, Send, Receive, Probe, Begin, Join, End, Action, Rest, Own, Meets, Receiving, Loop, Counted, While, NoLoop, scalar_place}

-- what a statement meets: others begin no starts, and none joins
abbrev pub MayMeet : Stmt → Event → Type 0
MayMeet t (Fail line fault) = Unit {0}
MayMeet t (Make places writers cost next) = Unit {0}
MayMeet t (Send channel writer items next) = Unit {0}
MayMeet t (Receive channel line items iostat at_end next) = Unit {0}
MayMeet t (Probe channel empty next) = Unit {0}
MayMeet t Begin = t ≡ stmt.EndProcesses
MayMeet t (Join block kids next) = ⊥
MayMeet t End = Unit {0}

abbrev pub MayDo : Stmt → Action → Type 0
MayDo t Rest = Unit {0}
MayDo t (Own after lines drops cost) = Unit {0}
MayDo t (Meets k) = MayMeet t k

module _ (t : Stmt) (w : Execution) (f : Frame) (below : List Frame) where
  refers_so : (line : ℕ) (r : Reference) (args : Result (List Actual) Fault) → MayDo t (action.refers w line f below r args)
  refers_so line (Element i v) args = tt
  refers_so line (Built g) args = tt
  refers_so line Unknown args = tt
  refers_so line (Call n u) (Ok args) = tt
  refers_so line (Call n u) (Err fault) = tt

  reference_so : (line : ℕ) (s : Scope) (r : Tree) → MayDo t (action.reference_step w line s f below r)
  reference_so line s (Ref name args) = refers_so line (reference_of s name) _
  reference_so line s (Number k) = tt
  reference_so line s (Truth b) = tt
  reference_so line s (Named name) = tt
  reference_so line s (Paren e) = tt
  reference_so line s (Signed op e) = tt
  reference_so line s (Not e) = tt
  reference_so line s (Binary op a b) = tt

  jumps_so : (o : Option ℕ) → MayDo t (action.jumps w below f o)
  jumps_so None = tt
  jumps_so (Some n) = tt

  module _ (e : Point) where
    assigns_so : (place : Result Span Fault) (value : Result Value Fault) → MayDo t (action.assigns w e f below place value)
    assigns_so (Err fault) value = tt
    assigns_so (Ok place) (Err fault) = tt
    assigns_so (Ok place) (Ok v) = tt

    prints_so : (items : Result (List Printed) Fault) → MayDo t (action.prints w e f below items)
    prints_so (Err fault) = tt
    prints_so (Ok items) = tt

    tests_so : (value : Result Value Fault) → MayDo t (action.tests w e f below value)
    tests_so (Err fault) = tt
    tests_so (Ok v) = tt

    loops_so : (place : Span) (bounds : Result (ℤ × ℤ × ℤ) Fault) → MayDo t (action.loops w e f below place bounds)
    loops_so place (Err fault) = tt
    loops_so place (Ok m) = go (int_eq m.2 (pos 0)) _ _ tt tt
      where
        go : (c : Bool) (a b : Action) → MayDo t a → MayDo t b → MayDo t (cond c a b)
        go true a b h g = h
        go false a b h g = g

    adds_so : (opener body : ℕ) (place : Span) (count : ℕ) (by : ℤ) (sum : Result ℤ Fault) → MayDo t (action.adds w e f below opener body place count by sum)
    adds_so opener body place count by (Err fault) = tt
    adds_so opener body place count by (Ok n) = tt

    trips_so : (opener body : ℕ) (place : Span) (o : Option (ℕ × ℤ)) → MayDo t (action.loop_trips w e f below opener body place o)
    trips_so opener body place None = tt
    trips_so opener body place (Some l) = adds_so opener body place l.0 l.1 _

    ends_loop_so : (u : ProgramUnit) (opener body : ℕ) (l : Loop) → MayDo t (action.ends_loop w u e f below opener body l)
    ends_loop_so u opener body (Counted name) = trips_so opener body (scalar_place (variable_of u name)) (finite.get f.loops opener)
    ends_loop_so u opener body While = tt
    ends_loop_so u opener body NoLoop = tt

    end_by_so : (u : ProgramUnit) (opener : ℕ) (o : Option Entry) → MayDo t (action.end_by w u e f below opener o)
    end_by_so u opener None = tt
    end_by_so u opener (Some o) = ends_loop_so u opener o.after (action.loop_of o.stmt)

    end_of_so : (u : ProgramUnit) (o : Option ℕ) → MayDo t (action.end_of w u e f below o)
    end_of_so u None = tt
    end_of_so u (Some opener) = end_by_so u opener (slice_get u.tree.body opener)

    calls_so : (u : Option (ℕ × ProgramUnit)) (args : Result (List Actual) Fault) → MayDo t (action.calls w e f below u args)
    calls_so None args = tt
    calls_so (Some u) (Err fault) = tt
    calls_so (Some u) (Ok args) = tt

    gives_so : (fs : List Frame) → MayDo t (action.gives_back w f fs)
    gives_so [] = tt
    gives_so (g ∷ fs) = tt

    results_so : (u : ProgramUnit) (fs : List Frame) → MayDo t (action.results_in w u f fs)
    results_so u [] = tt
    results_so u (g ∷ fs) = tt

    returns_so : (u : ProgramUnit) (k : UnitKind) → MayDo t (action.returns w u f below k)
    returns_so u unit_kind.Program = tt
    returns_so u unit_kind.Process = tt
    returns_so u unit_kind.Subroutine = gives_so below
    returns_so u unit_kind.Function = results_so u below

    items_so : (c : ChanName) (v : ℕ) (items : Result (List Actual) Fault) → MayDo t (action.sent_items e c v items)
    items_so c v (Err fault) = tt
    items_so c v (Ok items) = tt

    sent_so : (fs : PortFields) (o : Option PortValue) (items : List Actual) → MayDo t (action.sent e fs o items)
    sent_so fs None items = tt
    sent_so fs (Some (Reader c)) items = tt
    sent_so fs (Some (Writer c v)) items = items_so c v _

    sends_so : (fs : PortFields) (place : Result Span Fault) (items : Result (List Actual) Fault) → MayDo t (action.sends e fs f place items)
    sends_so fs (Err fault) items = tt
    sends_so fs (Ok q) (Err fault) = tt
    sends_so fs (Ok q) (Ok items) = sent_so fs _ items

    receives_at_so : (r : Receiving) (o : Option PortValue) → MayDo t (action.receives_at e r o)
    receives_at_so r None = tt
    receives_at_so r (Some (Writer c v)) = tt
    receives_at_so r (Some (Reader c)) = tt

    receives_so : (r : Result Receiving Fault) → MayDo t (action.receives e f r)
    receives_so (Err fault) = tt
    receives_so (Ok r) = receives_at_so r _

    closed_so : (vs : List Item) (o : Option PortValue) → MayDo t (action.closed w e f below vs o)
    closed_so vs None = tt
    closed_so vs (Some z) = tt

    closes_so : (place : Result Span Fault) → MayDo t (action.closes w e f below place)
    closes_so (Err fault) = tt
    closes_so (Ok q) = closed_so _ _

    moves_so : (places : Result (Span × Span) Fault) → MayDo t (action.moves w e f below places)
    moves_so (Err fault) = tt
    moves_so (Ok r) = tt

    probes_at_so : (empty : Span) (o : Option PortValue) → MayDo t (action.probes_at e empty o)
    probes_at_so empty None = tt
    probes_at_so empty (Some (Writer c v)) = tt
    probes_at_so empty (Some (Reader c)) = tt

    probes_so : (places : Result (Span × Span) Fault) → MayDo t (action.probes e f places)
    probes_so (Err fault) = tt
    probes_so (Ok r) = probes_at_so r.1 _

    makes_so : (places : Result (Span × Span) Fault) → MayDo t (action.makes e places)
    makes_so (Err fault) = tt
    makes_so (Ok r) = tt

    merges_so : (places : Result (Span × List Span) Fault) → MayDo t (action.merges e places)
    merges_so (Err fault) = tt
    merges_so (Ok r) = tt

    starts_so : (n : ℕ) (u : ProgramUnit) (r : Result (List Actual × Seat) Fault) → MayDo t (action.starts_one w e f below n u r)
    starts_so n u (Err fault) = tt
    starts_so n u (Ok r) = tt

module _ (p : Program) (w : Execution) (u : ProgramUnit) (e : Point) (f : Frame) (below : List Frame) where
  process_calls_so : (t : Stmt) (s : Scope) (o : Option (ℕ × ProgramUnit)) (args : List Tree) (place : _) → MayDo t (action.process_calls w s e f below o args place)
  process_calls_so t s None args place = tt
  process_calls_so t s (Some v) args place = starts_so t w f below e v.0 v.1 _

  simple_so : (t : Stmt) (s : Scope) (k : Simple) → MayDo t (action.simple_action p w u e f below s k)
  simple_so t s (simple.Assignment v value) = assigns_so t w f below e _ _
  simple_so t s (simple.Goto l) = jumps_so t w f below e.links.jump
  simple_so t s simple.Continue = tt
  simple_so t s simple.Return = returns_so t w f below e u (kind_of u)
  simple_so t s simple.Stop = tt
  simple_so t s (simple.Call name args) = calls_so t w f below e (unit_named p name) _
  simple_so t s (simple.Print items) = prints_so t w f below e _
  simple_so t s (simple.Write unit items) = prints_so t w f below e _
  simple_so t s (simple.Channel in_first i o) = makes_so t w f below e _
  simple_so t s (simple.Merger i os) = merges_so t w f below e _
  simple_so t s (simple.Send named q items) = sends_so t w f below e _ _ _
  simple_so t s (simple.Receive named q extras items) = receives_so t w f below e _
  simple_so t s (simple.EndChannel named q) = closes_so t w f below e _
  simple_so t s (simple.MovePort from to) = moves_so t w f below e _
  simple_so t s (simple.Probe named q empty) = probes_so t w f below e _

  statement_so : (s : Scope) (t : Stmt) → MayDo t (action.statement_action p w u e f below s t)
  statement_so s (stmt.Simple k) = simple_so (stmt.Simple k) s k
  statement_so s (stmt.LogicalIf c k) = tests_so (stmt.LogicalIf c k) w f below e _
  statement_so s (stmt.BlockIf c) = tests_so (stmt.BlockIf c) w f below e _
  statement_so s (stmt.ElseIf c) = tests_so (stmt.ElseIf c) w f below e _
  statement_so s stmt.Else = tt
  statement_so s stmt.EndIf = tt
  statement_so s (stmt.Do h) = loops_so (stmt.Do h) w f below e (scalar_place (variable_of u h.variable)) (action.loop_bounds s h)
  statement_so s (stmt.ProcessDo h) = loops_so (stmt.ProcessDo h) w f below e (scalar_place (variable_of u h.variable)) (action.loop_bounds s h)
  statement_so s (stmt.DoWhile c) = tests_so (stmt.DoWhile c) w f below e _
  statement_so s stmt.EndDo = end_of_so stmt.EndDo w f below e u e.entry.mate
  statement_so s stmt.EndProcessDo = end_of_so stmt.EndProcessDo w f below e u e.entry.mate
  statement_so s stmt.LoopEnd = end_of_so stmt.LoopEnd w f below e u e.entry.mate
  statement_so s stmt.End = returns_so stmt.End w f below e u (kind_of u)
  statement_so s stmt.Processes = tt
  statement_so s stmt.EndProcesses = refl
  statement_so s (stmt.ProcessCall name part) = process_calls_so (stmt.ProcessCall name part) s (unit_named p name) (action.arguments_in part) (action.where_in part)
  statement_so s (stmt.Program name) = tt
  statement_so s (stmt.Process name formals) = tt
  statement_so s (stmt.Subroutine name formals) = tt
  statement_so s (stmt.Function name formals) = tt
  statement_so s (stmt.IntegerFunction name formals) = tt
  statement_so s (stmt.LogicalFunction name formals) = tt
  statement_so s stmt.ImplicitNone = tt
  statement_so s (stmt.Integer ds) = tt
  statement_so s (stmt.Logical ds) = tt
  statement_so s (stmt.Dimension ds) = tt
  statement_so s (stmt.Parameter ds) = tt
  statement_so s (stmt.Inport kept ds) = tt
  statement_so s (stmt.Outport kept ds) = tt
  statement_so s (stmt.Intent way names) = tt
  statement_so s (stmt.Processors es) = tt

  by_so : (o : Option Tree) → MayDo e.entry.stmt (action.action_by p w u e f below o)
  by_so (Some r) = reference_so e.entry.stmt w f below (line_of e) (action.scope_of p u f) r
  by_so None = statement_so (action.scope_of p u f) e.entry.stmt

  pub point_meets : MayDo e.entry.stmt (action.point_action p w u f below (Some e))
  point_meets = by_so (action.next_reference e.entry (length f.results))
