-- In a deterministic program every process stays in units that the PROGRAM reaches, and so none of its steps
-- looks at a channel or makes one with a second writer. A MERGER of one writer makes a channel as CHANNEL does.
use Rattle.std.proofs.Common.{◌≡◌, ◌≤◌, ◌+◌, ℕ, zero, suc, ℤ, pos, Bool, true, false, cond, Option, Some, None, List, [], ◌∷◌, ◌++◌, map, length, slice_get, Result, Ok, Err, refl, ap, sym, subst, ◌∙◌, arith}
use Rattle.std.specs.Prelude.{Contains, slice_index_or, option_and_then}
use Rattle.std.specs.List.{flat_map}
use Rattle.std.specs.Option.{option_map}
use Rattle.std.specs.Ordering.{int_eq}
use Rattle.std.specs.FinMap as finite
use Rattle.std.proofs.lemmas.List.Elements.{Contains-append_left, Contains-append_right}
use Rattle.std.proofs.lemmas.Option.{slice_get-map}
use Rattle.fm_base.specs.declared.name.Line.{Line}
use Rattle.fm_base.specs.declared.fault.Fault.{Fault}
use Rattle.fm_base.specs.declared.fault.Fault.TheVariants.{NullPort, ZeroDivide}
use Rattle.fm_base.specs.declared.output.Printed.{Printed}
use Rattle.fm_base.specs.declared.path.ChanName.{ChanName}
use Rattle.fm_base.specs.declared.port.PortValue.{PortValue}
use Rattle.fm_base.specs.declared.port.PortValue.TheVariants.{Writer, Reader}
use Rattle.fm_base.specs.Channels.{Item, Message}
use Rattle.fm_values.specs.Values.{sum}
use Rattle.fm_values.specs.declared.value.Value.{Value}
use Rattle.fm_values.specs.declared.intrinsic.Intrinsic.{Intrinsic}
use Rattle.fm_values.specs.Intrinsics.{intrinsic_named}
use Rattle.fm_tree.specs.PortFields.{PortFields}
use Rattle.fm_tree.specs.Tree.{Tree, Trees, Number, Truth, Named, Ref, Paren, Signed, Not, Binary}
use Rattle.fm_tree.specs.References.{applied_in, applied_name, reference_at}
use Rattle.fm_tree.specs.declared.form.UnitKind.{UnitKind}
use Rattle.fm_tree.specs.declared.form.UnitKind.TheVariants as unit_kind
use Rattle.fm_tree.specs.declared.program_unit.Entry.{Entry}
use Rattle.fm_tree.specs.declared.program_unit.Unit as tree
use Rattle.fm_tree.specs.declared.statement.Var.{Var}
use Rattle.fm_tree.specs.declared.statement.Where.{Where}
use Rattle.fm_tree.specs.declared.statement.Simple.{Simple}
use Rattle.fm_tree.specs.declared.statement.Simple.TheVariants as simple
use Rattle.fm_tree.specs.declared.statement.Stmt.{Stmt}
use Rattle.fm_tree.specs.declared.statement.Stmt.TheVariants as stmt
use Rattle.fm_rules.specs.declared.entry_links.EntryLinks.{EntryLinks}
use Rattle.fm_rules.specs.Links.{links_of}
use Rattle.fm_symbols.specs.Headings.{is_function}
use Rattle.fm_symbols.specs.ByName.{ByName}
use Rattle.fm_symbols.specs.Context.{unit_numbers}
use Rattle.fm_symbols.specs.declared.context.Context.{Context}
use Rattle.fm_symbols.specs.declared.names.Variable.{Variable}
use Rattle.fm_symbols.specs.declared.names.UnitNames.{UnitNames}
use Rattle.fm_rules.specs.Applied.{applied_names}
use Rattle.fm_graph.specs.Graph.{IsEdge, IsWalk}
use Rattle.fm_rules.specs.declared.calls.Call as graph
use Rattle.fm_rules.specs.Calls.{called, process_called, call_to, call_by, referring, process_call, calls_in, calls_of}
use Rattle.fm_rules.specs.Calls as edge
use Rattle.fm_rules.specs.Race.{are_several, is_racy}
use Rattle.fm_rules.proofs.Lists.{at_head, behind_head, in_map, some_same}
use Rattle.fm_net.specs.Typed.{AllIn}
use Rattle.fm_net.specs.Plain.{IsPlainAsk, KeepsPlain}
use Rattle.fm_rules.specs.declared.program.Program.{Program}
use Rattle.fm_mean.specs.Names.{ProgramUnit, Point, context, unit_with, unit_at, numbered, unit_named, kind_of, variable_of, point_with, point_at, line_of}
use Rattle.fm_mean.specs.declared.place.Actual.{Actual}
use Rattle.fm_mean.specs.declared.place.Span.{Span}
use Rattle.fm_mean.specs.Places.{word_at, port_at, emptied_place}
use Rattle.fm_mean.specs.Evaluate.{Scope, Reference, Element, Call, Built, Unknown, function_by, intrinsic_or, is_array, array_or, reference_of}
use Rattle.fm_mean.specs.Process.{Start, Frame, Execution, Kid, Phase, Running, Joining, Ended, Faulted, Proc}
use Rattle.fm_map.specs.Placement.{Seat}
use Rattle.fm_mean.specs.Calls.{child_of, ended_frames}
use Rattle.fm_mean.specs.Actions as action
use Rattle.fm_mean.specs.Actions.{Event, Fail, Make, Send, Receive, Probe, Begin, Join, End, Action, Rest, Own, Meets, at_entry, gone_on, Receiving, Loop, Counted, While, NoLoop, scalar_place, action_in, scope_of, elements_of, merger_places}
use Rattle.fm_mean.specs.Steps as steps
use Rattle.fm_mean.specs.Steps.{received, ask_at, ask_event, ask_for, language}
use Rattle.fm_mean.specs.Determinism.{IsDeterministic, calls_among, IsReached}
use Rattle.fm_mean.proofs.Writers.{one_writer}

-- a process in units that main reaches
abbrev pub IsReachedStart : Program → Start → Type 0
IsReachedStart p s = IsReached p s.unit

abbrev pub IsReachedFrame : Program → Frame → Type 0
IsReachedFrame p f = IsReached p f.unit × AllIn (IsReachedStart p) f.starts

abbrev pub IsWithin : Program → Proc → Type 0
IsWithin p x = AllIn (IsReachedFrame p) x.execution.frames

abbrev PlainOf : Program → Proc → Action → Type 0
PlainOf p x a = IsPlainAsk (language p) (IsWithin p) (ask_for p x a)

-- ---- what a name refers to

function_is : (o : Option (ℕ × ProgramUnit)) (n : ℕ) (c : ProgramUnit) → function_by o ≡ Call n c → o ≡ Some (n, c)
function_is None n c e = absurd (cc)
function_is (Some u) n c e = go (is_function (kind_of u.1)) e
  where
    go : (b : Bool) → cond b (Call u.0 u.1) Unknown ≡ Call n c → Some u ≡ Some (n, c)
    go true e' = let number : u.0 ≡ n = cc e' in let unit : u.1 ≡ c = cc e' in λ i. Some (number i, unit i)
    go false e' = absurd (cc e')

intrinsic_is : (f : Option Intrinsic) (other : Reference) (n : ℕ) (c : ProgramUnit) → intrinsic_or f other ≡ Call n c → other ≡ Call n c
intrinsic_is None other n c e = e
intrinsic_is (Some f) other n c e = absurd (cc)

array_is : (v : Option (ℕ × Variable)) (other : Reference) (n : ℕ) (c : ProgramUnit) → array_or v other ≡ Call n c → other ≡ Call n c
array_is None other n c e = e
array_is (Some v) other n c e = go (is_array v.1.bounds) e
  where
    go : (b : Bool) → cond b (Element v.0 v.1) other ≡ Call n c → other ≡ Call n c
    go true e' = absurd (cc e')
    go false e' = e'

pub reference_is : (s : Scope) (name : List ℕ) (n : ℕ) (c : ProgramUnit) → reference_of s name ≡ Call n c → unit_named s.program name ≡ Some (n, c)
reference_is s name n c e =
    let f = function_by (unit_named s.program name) in
    function_is (unit_named s.program name) n c (intrinsic_is (intrinsic_named name) f n c (array_is (variable_of s.unit name) (intrinsic_or (intrinsic_named name) f) n c e))

numbered_is : (p : Program) (o : Option ℕ) (v : ℕ × ProgramUnit) → numbered p o ≡ Some v → o ≡ Some v.0
numbered_is p None v e = absurd (cc)
numbered_is p (Some k) v e = go (unit_at p k) e
  where
    go : (u : Option ProgramUnit) → option_map (λ u. (k, u)) u ≡ Some v → Some k ≡ Some v.0
    go None e' = absurd (cc e')
    go (Some u) e' = ap (λ (x : ℕ × ProgramUnit). Some x.0) (some_same (k, u) v e')

unit_tree : (t : Option tree.Unit) (n : Option UnitNames) (u : ProgramUnit) → unit_with t n ≡ Some u → t ≡ Some u.tree
unit_tree None n u e = absurd (cc)
unit_tree (Some t) None u e = absurd (cc)
unit_tree (Some t) (Some n) u e = ap (λ (x : ProgramUnit). Some x.tree) (some_same (record { tree = t; names = n }) u e)

pub point_entry : (e : Option Entry) (l : Option EntryLinks) (d : Point) → point_with e l ≡ Some d → e ≡ Some d.entry
point_entry None l d is = absurd (cc)
point_entry (Some e) None d is = absurd (cc)
point_entry (Some e) (Some l) d is = ap (λ (x : Point). Some x.entry) (some_same (record { entry = e; links = l }) d is)

-- ---- calls of an entry are edges

element_of : {X : Type 0} (xs : List X) (i : ℕ) (x : X) → slice_get xs i ≡ Some x → Contains xs x
element_of [] i x e = absurd (cc)
element_of (y ∷ ys) zero x e = subst (λ z. Contains (y ∷ ys) z) (some_same y x e) (at_head y ys)
element_of (y ∷ ys) (suc i) x e = behind_head y x ys (element_of ys i x e)

in_flat : {X Y : Type 0} (f : X → List Y) (xs : List X) (i : ℕ) (x : X) (y : Y) → slice_get xs i ≡ Some x → Contains (f x) y → Contains (flat_map f xs) y
in_flat f [] i x y e h = absurd (cc)
in_flat f (z ∷ zs) zero x y e h = Contains-append_left (f z) (flat_map f zs) y (subst (λ w. Contains (f w) y) (sym (some_same z x e)) h)
in_flat f (z ∷ zs) (suc i) x y e h = Contains-append_right (f z) (flat_map f zs) y (in_flat f zs i x y e h)

edges_are : (c : Context) (us : List tree.Unit) (k : ℕ) (u : tree.Unit) → slice_get us k ≡ Some u
    → slice_index_or (map (map edge.target_of) (map (calls_of true c) us)) k [] ≡ map edge.target_of (calls_of true c u)
edges_are c [] k u e = absurd (cc)
edges_are c (t ∷ us) zero u e = ap (λ w. map edge.target_of (calls_of true c w)) (some_same t u e)
edges_are c (t ∷ us) (suc k) u e = edges_are c us k u e

call_there : (ns : ByName ℕ) (line : Line) (o : Option (List ℕ)) (name : List ℕ) (m : ℕ) → o ≡ Some name → finite.get ns name ≡ Some m → Contains (call_by ns line o) (record { target = m; line = line })
call_there ns line o name m is found =
    subst (λ q. Contains (call_by ns line q) (record { target = m; line = line })) (sym is)
    (subst (λ q. Contains (call_to line q) (record { target = m; line = line })) (sym found) (at_head _ []))

in_referring : (ns : ByName ℕ) (line : Line) (names : List (List ℕ)) (places : List ℕ) (n place : ℕ) (c : graph.Call) → slice_get places n ≡ Some place → Contains (call_by ns line (slice_get names place)) c → Contains (referring ns line names places) c
in_referring ns line names [] n place c e h = absurd (cc)
in_referring ns line names (q ∷ qs) zero place c e h =
    Contains-append_left (call_by ns line (slice_get names q)) (referring ns line names qs) c (subst (λ w. Contains (call_by ns line (slice_get names w)) c) (sym (some_same q place e)) h)
in_referring ns line names (q ∷ qs) (suc n) place c e h = Contains-append_right (call_by ns line (slice_get names q)) (referring ns line names qs) c (in_referring ns line names qs n place c e h)

-- how an entry calls the unit of a name
data EntryCalls (e : Entry) (name : List ℕ) : Type 0 where
  by_call : called e.stmt ≡ Some name → EntryCalls e name
  by_process_call : process_called e.stmt ≡ Some name → EntryCalls e name
  by_reference : (n place : ℕ) → slice_get e.refs n ≡ Some place → slice_get (applied_names e.stmt) place ≡ Some name → EntryCalls e name

call_in : (ctx : Context) (e : Entry) (name : List ℕ) (m : ℕ) → finite.get ctx.units name ≡ Some m → EntryCalls e name → Contains (calls_in true ctx e) (record { target = m; line = e.line })
call_in ctx e name m found (by_call is) =
    let a = call_by ctx.units e.line (called e.stmt) in
    let b = process_call true ctx.units e in
    let c = referring ctx.units e.line (applied_names e.stmt) e.refs in
    let x : graph.Call = record { target = m; line = e.line } in
    Contains-append_left (a ++ b) c x (Contains-append_left a b x (call_there ctx.units e.line (called e.stmt) name m is found))
call_in ctx e name m found (by_process_call is) =
    let a = call_by ctx.units e.line (called e.stmt) in
    let b = process_call true ctx.units e in
    let c = referring ctx.units e.line (applied_names e.stmt) e.refs in
    let x : graph.Call = record { target = m; line = e.line } in
    Contains-append_left (a ++ b) c x (Contains-append_right a b x (call_there ctx.units e.line (process_called e.stmt) name m is found))
call_in ctx e name m found (by_reference n place is named) =
    let a = call_by ctx.units e.line (called e.stmt) in
    let b = process_call true ctx.units e in
    let c = referring ctx.units e.line (applied_names e.stmt) e.refs in
    let x : graph.Call = record { target = m; line = e.line } in
    Contains-append_right (a ++ b) c x (in_referring ctx.units e.line (applied_names e.stmt) e.refs n place x is (call_there ctx.units e.line (slice_get (applied_names e.stmt) place) name m named found))

edge_to : (p : Program) (k i : ℕ) (u : tree.Unit) (e : Entry) (name : List ℕ) (m : ℕ) → slice_get p.units.units k ≡ Some u → slice_get u.body i ≡ Some e → EntryCalls e name
    → finite.get (unit_numbers p.units.units) name ≡ Some m → IsEdge (calls_among p) k m
edge_to p k i u e name m is there how found =
    let ctx = context p in
    let c : graph.Call = record { target = m; line = e.line } in
    subst (λ xs. Contains xs m) (sym (edges_are ctx p.units.units k u is)) (in_map edge.target_of c (calls_of true ctx u) (in_flat (calls_in true ctx) u.body i e c there (call_in ctx e name m found how)))

walk_on : (g : List (List ℕ)) (n : ℕ) (a b c : ℕ) → IsWalk g n a b → IsEdge g b c → IsWalk g (suc n) a c
walk_on g zero a b c walk step = (c, subst (λ x. IsEdge g x c) (sym walk) step, refl)
walk_on g (suc n) a b c walk step = (walk.0, walk.1, walk_on g n walk.0 b c walk.2 step)

reached_on : (p : Program) (k m : ℕ) → IsReached p k → IsEdge (calls_among p) k m → IsReached p m
reached_on p k m r step = record { main = r.main; starts = r.starts; leads = (suc r.leads.0, walk_on (calls_among p) r.leads.0 r.main k m r.leads.1 step) }

-- the name of a reference, by its place
reference_named : (e : Entry) (n : ℕ) (o : Option ℕ) (name : List ℕ) (args : Trees) → slice_get e.refs n ≡ o → option_and_then (reference_at e.stmt) o ≡ Some (Ref name args) → EntryCalls e name
reference_named e n None name args is at = absurd (cc)
reference_named e n (Some place) name args is at = by_reference n place is (slice_get-map applied_name (applied_in e.stmt) place ∙ ap (option_map applied_name) at)

-- ---- lists

starts_last : (p : Program) (ss : List Start) (s : Start) → AllIn (IsReachedStart p) ss → IsReached p s.unit → AllIn (IsReachedStart p) (ss ++ s ∷ [])
starts_last p [] s all h = (h, tt)
starts_last p (t ∷ ss) s all h = (all.0, starts_last p ss s all.1 h)

children_within : (p : Program) (ss : List Start) → AllIn (IsReachedStart p) ss → AllIn (IsWithin p) (map child_of ss)
children_within p [] all = tt
children_within p (s ∷ ss) all = (((all.0, tt), tt), children_within p ss all.1)

ended_within : (p : Program) (fs : List Frame) → AllIn (IsReachedFrame p) fs → AllIn (IsReachedFrame p) (ended_frames p fs).0
ended_within p [] all = tt
ended_within p (f ∷ []) all = ((all.0.0, tt), tt)
ended_within p (f ∷ g ∷ fs) all = ended_within p (g ∷ fs) all.1

module _ (p : Program) (det : IsDeterministic p) (x : Proc) (plain : IsWithin p x) where
  lone : (w : Execution) (lines : List (List ℕ)) (drops : List PortValue) (cost : ℕ) → AllIn (IsReachedFrame p) w.frames → PlainOf p x (Own w lines drops cost)
  lone w lines drops cost h = record { single = tt; goes_on = λ c r all. (h, tt) }

  met : (e : Event) (fs : List Frame) → x.execution.frames ≡ fs → IsPlainAsk (language p) (IsWithin p) (ask_event p x e fs) → PlainOf p x (Meets e)
  met e fs at h = subst (λ gs. IsPlainAsk (language p) (IsWithin p) (ask_event p x e gs)) (sym at) h

  ends : (f : Frame) (below : List Frame) → x.execution.frames ≡ f ∷ below → PlainOf p x (Meets End)
  ends f below at = met End (f ∷ below) at (record { single = tt; goes_on = λ c r all. (ended_within p x.execution.frames plain, tt) })

  module _ (f : Frame) (below : List Frame) (at : x.execution.frames ≡ f ∷ below) (top : IsReachedFrame p f) (rest : AllIn (IsReachedFrame p) below) where
    meets : (e : Event) → IsPlainAsk (language p) (IsWithin p) (ask_at p x below f e) → PlainOf p x (Meets e)
    meets e h = met e (f ∷ below) at h

    fails : (line : ℕ) (fault : Fault) → PlainOf p x (action.fails line fault)
    fails line fault = meets (Fail line fault) (record { single = tt; goes_on = λ c r all. (plain, tt) })

    goes : (n : ℕ) → PlainOf p x (action.goes_to x.execution below f n)
    goes n = lone _ [] [] 1 (top, rest)

    jumps : (n : Option ℕ) → PlainOf p x (action.jumps x.execution below f n)
    jumps None = tt
    jumps (Some n) = goes n

    assigns : (e : Point) (s : Result Span Fault) (v : Result Value Fault) → PlainOf p x (action.assigns x.execution e f below s v)
    assigns e (Err fault) v = fails (line_of e) fault
    assigns e (Ok s) (Err fault) = fails (line_of e) fault
    assigns e (Ok s) (Ok v) = lone _ [] [] 1 (top, rest)

    prints : (e : Point) (v : Result (List Printed) Fault) → PlainOf p x (action.prints x.execution e f below v)
    prints e (Err fault) = fails (line_of e) fault
    prints e (Ok items) = lone _ _ [] _ (top, rest)

    tests : (e : Point) (v : Result Value Fault) → PlainOf p x (action.tests x.execution e f below v)
    tests e (Err fault) = fails (line_of e) fault
    tests e (Ok v) = goes _

    begins : (b : Bool) (e : Point) (w : Execution) → AllIn (IsReachedFrame p) w.frames → PlainOf p x (cond b (action.fails (line_of e) ZeroDivide) (Own w [] [] 1))
    begins true e w h = fails (line_of e) ZeroDivide
    begins false e w h = lone w [] [] 1 h

    loops : (e : Point) (s : Span) (m : Result (ℤ × ℤ × ℤ) Fault) → PlainOf p x (action.loops x.execution e f below s m)
    loops e s (Err fault) = fails (line_of e) fault
    loops e s (Ok m) = begins (int_eq m.2 (pos 0)) e _ (top, rest)

    adds : (e : Point) (opener body : ℕ) (s : Span) (count : ℕ) (by : ℤ) (v : Result ℤ Fault) → PlainOf p x (action.adds x.execution e f below opener body s count by v)
    adds e opener body s count by (Err fault) = fails (line_of e) fault
    adds e opener body s count by (Ok n) = lone _ [] [] 1 (top, rest)

    trips_end : (e : Point) (opener body : ℕ) (s : Span) (l : Option (ℕ × ℤ)) → PlainOf p x (action.loop_trips x.execution e f below opener body s l)
    trips_end e opener body s None = goes e.entry.after
    trips_end e opener body s (Some l) = adds e opener body s l.0 l.1 (sum (word_at f.values s) l.1)

    ends_loop : (u : ProgramUnit) (e : Point) (opener body : ℕ) (l : Loop) → PlainOf p x (action.ends_loop x.execution u e f below opener body l)
    ends_loop u e opener body (Counted name) = trips_end e opener body (scalar_place (variable_of u name)) (finite.get f.loops opener)
    ends_loop u e opener body While = goes opener
    ends_loop u e opener body NoLoop = tt

    end_by : (u : ProgramUnit) (e : Point) (opener : ℕ) (o : Option Entry) → PlainOf p x (action.end_by x.execution u e f below opener o)
    end_by u e opener None = tt
    end_by u e opener (Some o) = ends_loop u e opener o.after (action.loop_of o.stmt)

    end_of : (u : ProgramUnit) (e : Point) (o : Option ℕ) → PlainOf p x (action.end_of x.execution u e f below o)
    end_of u e None = tt
    end_of u e (Some o) = end_by u e o (slice_get u.tree.body o)

    refers : (line : ℕ) (g : Reference) (args : Result (List Actual) Fault) → ((n : ℕ) (c : ProgramUnit) → g ≡ Call n c → IsReached p n) → PlainOf p x (action.refers x.execution line f below g args)
    refers line (Element i v) args h = tt
    refers line (Built g) args h = tt
    refers line Unknown args h = tt
    refers line (Call n u) (Ok args) h = lone _ [] _ _ ((h n u refl, tt), (top, rest))
    refers line (Call n u) (Err fault) h = fails line fault

    calls : (e : Point) (u : Option (ℕ × ProgramUnit)) (args : Result (List Actual) Fault) → ((v : ℕ × ProgramUnit) → u ≡ Some v → IsReached p v.0) → PlainOf p x (action.calls x.execution e f below u args)
    calls e None args h = tt
    calls e (Some u) (Err fault) h = fails (line_of e) fault
    calls e (Some u) (Ok args) h = lone _ [] _ _ ((h u refl, tt), (top, rest))

    sent_items : (e : Point) (c : ChanName) (w : ℕ) (items : Result (List Actual) Fault) → PlainOf p x (action.sent_items e c w items)
    sent_items e c w (Err fault) = fails (line_of e) fault
    sent_items e c w (Ok items) = meets (Send c w items e.entry.after) (record { single = tt; goes_on = λ d r all. ((top, rest), tt) })

    sent : (e : Point) (fields : PortFields) (items : List Actual) (o : Option PortValue) → PlainOf p x (action.sent e fields o items)
    sent e t items None = fails (line_of e) NullPort
    sent e t items (Some (Reader c)) = fails (line_of e) NullPort
    sent e t items (Some (Writer c w)) = sent_items e c w (action.cut_items [] t items)

    sends : (e : Point) (fields : PortFields) (q : Result Span Fault) (items : Result (List Actual) Fault) → PlainOf p x (action.sends e fields f q items)
    sends e t (Err fault) items = fails (line_of e) fault
    sends e t (Ok q) (Err fault) = fails (line_of e) fault
    sends e t (Ok q) (Ok items) = sent e t items (port_at f.values q)

    closed : (e : Point) (vs : List Item) (o : Option PortValue) → PlainOf p x (action.closed x.execution e f below vs o)
    closed e vs None = fails (line_of e) NullPort
    closed e vs (Some v) = lone _ [] _ 1 (top, rest)

    closes : (e : Point) (q : Result Span Fault) → PlainOf p x (action.closes x.execution e f below q)
    closes e (Err fault) = fails (line_of e) fault
    closes e (Ok q) = closed e (emptied_place f.values q).0 (emptied_place f.values q).1

    moves : (e : Point) (r : Result (Span × Span) Fault) → PlainOf p x (action.moves x.execution e f below r)
    moves e (Err fault) = fails (line_of e) fault
    moves e (Ok r) = lone _ [] _ 1 (top, rest)

    makes : (e : Point) (r : Result (Span × Span) Fault) → PlainOf p x (action.makes e r)
    makes e (Err fault) = fails (line_of e) fault
    makes e (Ok r) = meets (Make (r.0 ∷ r.1 ∷ []) 1 1 e.entry.after) (record { single = omega arith; goes_on = λ d y all. ((top, rest), tt) })

    merges : (e : Point) (r : Result (Span × List Span) Fault) → ((v : Span × List Span) → r ≡ Ok v → length (elements_of v.1) ≤ 1) → PlainOf p x (action.merges e r)
    merges e (Err fault) one = fails (line_of e) fault
    merges e (Ok r) one =
        meets (Make (r.0 ∷ elements_of r.1) (length (elements_of r.1)) (1 + length (elements_of r.1)) e.entry.after) (record { single = one r refl; goes_on = λ d y all. ((top, rest), tt) })

    taken : (line next : ℕ) (items : List Span) (iostat : Option Span) (to : Option ℕ) (m : Option Message)
        → IsWithin p (received x line below f next items iostat to m).self × AllIn (IsWithin p) (received x line below f next items iostat to m).starts
    taken line next items iostat to (Some m) = ((top, rest), tt)
    taken line next items None None None = (plain, tt)
    taken line next items None (Some n) None = ((top, rest), tt)
    taken line next items (Some s) to None = ((top, rest), tt)

    came : (line next : ℕ) (items : List Span) (iostat : Option Span) (to : Option ℕ) (exceeds : Bool) (m : Option Message)
        → IsWithin p (steps.met x line below f next items iostat to exceeds m).self × AllIn (IsWithin p) (steps.met x line below f next items iostat to exceeds m).starts
    came line next items iostat to true None = (plain, tt)
    came line next items iostat to true (Some m) = taken line next items iostat to (Some m)
    came line next items iostat to false m = taken line next items iostat to m

    receives_at : (e : Point) (r : Receiving) (o : Option PortValue) → PlainOf p x (action.receives_at e r o)
    receives_at e r None = fails (line_of e) NullPort
    receives_at e r (Some (Writer c w)) = fails (line_of e) NullPort
    receives_at e r (Some (Reader c)) =
        meets (Receive c (line_of e) r.2 r.1 e.links.jump e.entry.after) (record { single = tt; goes_on = λ d y all. came (line_of e) e.entry.after r.2 r.1 e.links.jump y.exceeds y.message })

    receives : (e : Point) (r : Result Receiving Fault) → PlainOf p x (action.receives e f r)
    receives e (Err fault) = fails (line_of e) fault
    receives e (Ok r) = receives_at e r (port_at f.values r.0)

    starts_one : (e : Point) (n : ℕ) (u : ProgramUnit) (r : Result (List Actual × Seat) Fault) → IsReached p n → PlainOf p x (action.starts_one x.execution e f below n u r)
    starts_one e n u (Err fault) h = fails (line_of e) fault
    starts_one e n u (Ok r) h = lone _ [] _ _ ((top.0, starts_last p f.starts _ top.1 h), rest)

    process_calls : (s : Scope) (e : Point) (u : Option (ℕ × ProgramUnit)) (args : List Tree) (w : Option Where) → ((v : ℕ × ProgramUnit) → u ≡ Some v → IsReached p v.0) → PlainOf p x (action.process_calls x.execution s e f below u args w)
    process_calls s e None args w h = tt
    process_calls s e (Some u) args w h = starts_one e u.0 u.1 _ (h u refl)

    begin : PlainOf p x (Meets Begin)
    begin = meets Begin (record { single = tt; goes_on = λ c r all. (((top.0, tt), rest), children_within p f.starts top.1) })

    join : (block : ℕ) (kids : List Kid) (next : ℕ) → PlainOf p x (Meets (Join block kids next))
    join block kids next = meets (Join block kids next) (record { single = tt; goes_on = λ c r all. ((top, rest), tt) })

  gives_back : (f : Frame) (below : List Frame) → x.execution.frames ≡ f ∷ below → AllIn (IsReachedFrame p) below → PlainOf p x (action.gives_back x.execution f below)
  gives_back f [] at rest = ends f [] at
  gives_back f (g ∷ below) at rest = lone _ [] _ _ rest

  results_in : (u : ProgramUnit) (f : Frame) (below : List Frame) → x.execution.frames ≡ f ∷ below → AllIn (IsReachedFrame p) below → PlainOf p x (action.results_in x.execution u f below)
  results_in u f [] at rest = ends f [] at
  results_in u f (g ∷ below) at rest = lone _ [] _ _ rest

  returns : (u : ProgramUnit) (f : Frame) (below : List Frame) → x.execution.frames ≡ f ∷ below → AllIn (IsReachedFrame p) below → (k : UnitKind) → PlainOf p x (action.returns x.execution u f below k)
  returns u f below at rest unit_kind.Program = ends f below at
  returns u f below at rest unit_kind.Process = ends f below at
  returns u f below at rest unit_kind.Subroutine = gives_back f below at rest
  returns u f below at rest unit_kind.Function = results_in u f below at rest

  module _ (f : Frame) (below : List Frame) (at : x.execution.frames ≡ f ∷ below) (top : IsReachedFrame p f) (rest : AllIn (IsReachedFrame p) below) (u : ProgramUnit) (is_unit : unit_at p f.unit ≡ Some u) (e : Point) (there : point_at u f.entry ≡ Some e) where
    is_tree : slice_get p.units.units f.unit ≡ Some u.tree
    is_tree = unit_tree (slice_get p.units.units f.unit) (slice_get p.names.units f.unit) u is_unit

    is_entry : slice_get u.tree.body f.entry ≡ Some e.entry
    is_entry = point_entry (slice_get u.tree.body f.entry) (slice_get (links_of u.tree.body) f.entry) e there

    reached : (name : List ℕ) (v : ℕ × ProgramUnit) → EntryCalls e.entry name → unit_named p name ≡ Some v → IsReached p v.0
    reached name v how is =
        reached_on p f.unit v.0 top.0 (edge_to p f.unit f.entry u.tree e.entry name v.0 is_tree is_entry how (numbered_is p (finite.get (unit_numbers p.units.units) name) v is))

    references : (n : ℕ) (t : Tree) → action.next_reference e.entry n ≡ Some t → PlainOf p x (action.reference_step x.execution (line_of e) (scope_of p u f) f below t)
    references n (Ref name args) is =
        refers f below at top rest (line_of e) (reference_of (scope_of p u f) name) _
        (λ m c same. reached name (m, c) (reference_named e.entry n (slice_get e.entry.refs n) name args refl is) (reference_is (scope_of p u f) name m c same))
    references n (Number k) is = tt
    references n (Truth b) is = tt
    references n (Named name) is = tt
    references n (Paren t) is = tt
    references n (Signed op t) is = tt
    references n (Not t) is = tt
    references n (Binary op a b) is = tt

    calm : is_racy (slice_get (context p).scopes f.unit) e.entry.stmt ≡ true → ⊥
    calm racy = det e.entry.line.0 (record {
      main = top.0.main;
      starts = top.0.starts;
      number = f.unit;
      reached = top.0.leads;
      unit = u.tree;
      here = is_tree;
      entry = e.entry;
      within = element_of u.tree.body f.entry e.entry is_entry;
      racy = racy;
      at = refl;
    })

    alone : (os : List Var) → (are_several (slice_get (context p).scopes f.unit) os ≡ true → ⊥) → are_several (slice_get (context p).scopes f.unit) os ≡ false
    alone os never = elim (are_several (slice_get (context p).scopes f.unit) os) as (λ (b : Bool). (b ≡ true → ⊥) → b ≡ false) [ true ↦ λ h. absurd (h refl) | false ↦ λ h. refl ] never

    simple_plain : (s : Scope) → unit_at p f.unit ≡ Some s.unit → (k : Simple) → e.entry.stmt ≡ stmt.Simple k → PlainOf p x (action.simple_action p x.execution u e f below s k)
    unfolding called is_racy
    simple_plain s here (simple.Assignment v t) is = assigns f below at top rest e _ _
    simple_plain s here (simple.Goto l) is = jumps f below at top rest e.links.jump
    simple_plain s here simple.Continue is = goes f below at top rest e.entry.after
    simple_plain s here simple.Return is = returns u f below at rest (kind_of u)
    simple_plain s here simple.Stop is = ends f below at
    simple_plain s here (simple.Call name args) is = calls f below at top rest e (unit_named p name) _ (λ v named. reached name v (by_call (ap called is)) named)
    simple_plain s here (simple.Print items) is = prints f below at top rest e _
    simple_plain s here (simple.Write unit items) is = prints f below at top rest e _
    simple_plain s here (simple.Channel in_first i o) is = makes f below at top rest e _
    simple_plain s here (simple.Merger i os) is =
        merges f below at top rest e (merger_places s i os) (λ v made. one_writer p f.unit s here i os v (alone os (λ several. calm (ap (is_racy (slice_get (context p).scopes f.unit)) is ∙ several))) made)
    simple_plain s here (simple.Send named q items) is = sends f below at top rest e (action.fields_at u q) _ _
    simple_plain s here (simple.Receive named q extras items) is = receives f below at top rest e _
    simple_plain s here (simple.EndChannel named q) is = closes f below at top rest e _
    simple_plain s here (simple.MovePort from to) is = moves f below at top rest e _
    simple_plain s here (simple.Probe named q empty) is = absurd (calm (ap (is_racy (slice_get (context p).scopes f.unit)) is))

    statement_plain : (s : Scope) → unit_at p f.unit ≡ Some s.unit → (k : Stmt) → e.entry.stmt ≡ k → PlainOf p x (action.statement_action p x.execution u e f below s k)
    unfolding process_called
    statement_plain s here (stmt.Simple k) is = simple_plain s here k is
    statement_plain s here (stmt.LogicalIf t k) is = tests f below at top rest e _
    statement_plain s here (stmt.BlockIf t) is = tests f below at top rest e _
    statement_plain s here (stmt.ElseIf t) is = tests f below at top rest e _
    statement_plain s here stmt.Else is = goes f below at top rest e.entry.after
    statement_plain s here stmt.EndIf is = goes f below at top rest e.entry.after
    statement_plain s here (stmt.Do h) is = loops f below at top rest e (scalar_place (variable_of u h.variable)) (action.loop_bounds s h)
    statement_plain s here (stmt.ProcessDo h) is = loops f below at top rest e (scalar_place (variable_of u h.variable)) (action.loop_bounds s h)
    statement_plain s here (stmt.DoWhile t) is = tests f below at top rest e _
    statement_plain s here stmt.EndDo is = end_of f below at top rest u e e.entry.mate
    statement_plain s here stmt.EndProcessDo is = end_of f below at top rest u e e.entry.mate
    statement_plain s here stmt.LoopEnd is = end_of f below at top rest u e e.entry.mate
    statement_plain s here stmt.End is = returns u f below at rest (kind_of u)
    statement_plain s here stmt.Processes is = goes f below at top rest e.entry.after
    statement_plain s here stmt.EndProcesses is = begin f below at top rest
    statement_plain s here (stmt.ProcessCall name part) is = process_calls f below at top rest s e (unit_named p name) _ _ (λ v named. reached name v (by_process_call (ap process_called is)) named)
    statement_plain s here (stmt.Program name) is = tt
    statement_plain s here (stmt.Process name formals) is = tt
    statement_plain s here (stmt.Subroutine name formals) is = tt
    statement_plain s here (stmt.Function name formals) is = tt
    statement_plain s here (stmt.IntegerFunction name formals) is = tt
    statement_plain s here (stmt.LogicalFunction name formals) is = tt
    statement_plain s here stmt.ImplicitNone is = tt
    statement_plain s here (stmt.Integer ds) is = tt
    statement_plain s here (stmt.Logical ds) is = tt
    statement_plain s here (stmt.Dimension ds) is = tt
    statement_plain s here (stmt.Parameter ds) is = tt
    statement_plain s here (stmt.Inport t ds) is = tt
    statement_plain s here (stmt.Outport t ds) is = tt
    statement_plain s here (stmt.Intent w names) is = tt
    statement_plain s here (stmt.Processors es) is = tt

    by_plain : (n : ℕ) (t : Option Tree) → action.next_reference e.entry n ≡ t → PlainOf p x (action.action_by p x.execution u e f below t)
    by_plain n (Some t) is = references n t is
    by_plain n None is = statement_plain (scope_of p u f) is_unit e.entry.stmt refl

  point_plain : (f : Frame) (below : List Frame) → x.execution.frames ≡ f ∷ below → IsReachedFrame p f → AllIn (IsReachedFrame p) below → (u : ProgramUnit) → unit_at p f.unit ≡ Some u → (e : Option Point) → point_at u f.entry ≡ e
      → PlainOf p x (action.point_action p x.execution u f below e)
  point_plain f below at top rest u is_unit None there = tt
  point_plain f below at top rest u is_unit (Some e) there = by_plain f below at top rest u is_unit e there (length f.results) (action.next_reference e.entry (length f.results)) refl

  at_plain : (f : Frame) (below : List Frame) → x.execution.frames ≡ f ∷ below → IsReachedFrame p f → AllIn (IsReachedFrame p) below → (u : Option ProgramUnit) → unit_at p f.unit ≡ u → PlainOf p x (action.action_at p x.execution f below u)
  at_plain f below at top rest None is_unit = tt
  at_plain f below at top rest (Some u) is_unit = point_plain f below at top rest u is_unit (point_at u f.entry) refl

  running_plain : (fs : List Frame) → x.execution.frames ≡ fs → AllIn (IsReachedFrame p) fs → PlainOf p x (action.running p x.execution fs)
  running_plain [] at all = tt
  running_plain (f ∷ below) at all = at_plain f below at all.0 all.1 (unit_at p f.unit) refl

  joining_plain : (block : ℕ) (kids : List Kid) (fs : List Frame) → x.execution.frames ≡ fs → AllIn (IsReachedFrame p) fs → PlainOf p x (action.joining p block kids fs)
  joining_plain block kids [] at all = tt
  joining_plain block kids (f ∷ below) at all = join f below at all.0 all.1 block kids _

  phase_plain : (phase : Phase) → PlainOf p x (action_in p x.execution phase)
  phase_plain Running = running_plain x.execution.frames refl plain
  phase_plain (Joining block kids) = joining_plain block kids x.execution.frames refl plain
  phase_plain Ended = tt
  phase_plain (Faulted line fault) = tt

pub stays_within : (p : Program) → IsDeterministic p → KeepsPlain (language p) (IsWithin p)
stays_within p det = record { goes = λ x plain. phase_plain p det x plain x.phase; empties = λ x plain. tt }
