-- A process that begins in a unit from which no CHANNEL, MERGER or PROCESSCALL is reached makes no channel and starts nobody.
use Rattle.std.proofs.Common.{◌≡◌, ℕ, zero, suc, ℤ, pos, Bool, true, false, cond, Option, Some, None, List, [], ◌∷◌, ◌++◌, map, length, slice_get, Result, Ok, Err, refl, ap, sym, subst, ◌∙◌}
use Rattle.std.specs.Prelude.{Contains, slice_index_or, option_and_then}
use Rattle.std.specs.List.{flat_map}
use Rattle.std.specs.Option.{option_map}
use Rattle.std.specs.Ordering.{int_eq}
use Rattle.std.specs.FinMap as finite
use Rattle.std.proofs.lemmas.List.Elements.{Contains-append_left, Contains-append_right}
use Rattle.std.proofs.lemmas.Option.{slice_get-map}
use Rattle.fm_base.specs.declared.name.Line.{Line}
use Rattle.fm_base.specs.declared.fault.Fault.{Fault}
use Rattle.fm_base.specs.declared.fault.Fault.TheVariants.{NullPort, ZeroDivide}
use Rattle.fm_base.specs.declared.output.Printed.{Printed}
use Rattle.fm_base.specs.declared.port.PortValue.{PortValue}
use Rattle.fm_base.specs.declared.port.PortValue.TheVariants.{Writer, Reader}
use Rattle.fm_base.specs.Channels.{Item, Message}
use Rattle.fm_values.specs.Values.{sum}
use Rattle.fm_values.specs.declared.value.Value.{Value}
use Rattle.fm_values.specs.declared.intrinsic.Intrinsic.{Intrinsic}
use Rattle.fm_values.specs.Intrinsics.{intrinsic_named}
use Rattle.fm_tree.specs.PortFields.{PortFields}
use Rattle.fm_tree.specs.Tree.{Tree, Trees, Number, Truth, Named, Ref, Paren, Signed, Not, Binary}
use Rattle.fm_tree.specs.References.{applied_in, applied_name, reference_at}
use Rattle.fm_tree.specs.declared.form.UnitKind.{UnitKind}
use Rattle.fm_tree.specs.declared.form.UnitKind.TheVariants as unit_kind
use Rattle.fm_tree.specs.declared.program_unit.Entry.{Entry}
use Rattle.fm_tree.specs.declared.program_unit.Unit as tree
use Rattle.fm_tree.specs.declared.statement.Simple.{Simple}
use Rattle.fm_tree.specs.declared.statement.Simple.TheVariants as simple
use Rattle.fm_tree.specs.declared.statement.Stmt.{Stmt}
use Rattle.fm_tree.specs.declared.statement.Stmt.TheVariants as stmt
use Rattle.fm_rules.specs.declared.entry_links.EntryLinks.{EntryLinks}
use Rattle.fm_rules.specs.Links.{links_of}
use Rattle.fm_symbols.specs.Headings.{is_function}
use Rattle.fm_symbols.specs.ByName.{ByName}
use Rattle.fm_symbols.specs.Context.{unit_numbers}
use Rattle.fm_symbols.specs.declared.context.Context.{Context}
use Rattle.fm_symbols.specs.declared.names.Variable.{Variable}
use Rattle.fm_symbols.specs.declared.names.UnitNames.{UnitNames}
use Rattle.fm_rules.specs.Applied.{applied_names}
use Rattle.fm_graph.specs.Graph.{IsEdge, IsWalk}
use Rattle.fm_rules.specs.declared.calls.Call as graph
use Rattle.fm_rules.specs.Calls.{called, process_called, call_to, call_by, referring, process_call, calls_in, calls_of}
use Rattle.fm_rules.specs.Calls as edge
use Rattle.fm_rules.proofs.Lists.{at_head, behind_head, in_map, some_same}
use Rattle.fm_net.specs.Typed.{AllIn}
use Rattle.fm_net.specs.Machine.{Need, Reply, Onward, Ask, Stop, Go}
use Rattle.fm_base.specs.declared.path.ChanName.{ChanName}
use Rattle.fm_graph.specs.Graph.{Reaches}
use Rattle.fm_flow_law.specs.Pipes.{IsChildNeed}
use Rattle.fm_flow_law.specs.Flow.{calls_inside, Makes, is_making}
use Rattle.fm_rules.specs.declared.program.Program.{Program}
use Rattle.fm_mean.specs.Names.{ProgramUnit, context, Point, unit_with, unit_at, numbered, unit_named, kind_of, variable_of, point_with, point_at, line_of}
use Rattle.fm_mean.specs.declared.place.Actual.{Actual}
use Rattle.fm_mean.specs.declared.place.Span.{Span}
use Rattle.fm_mean.specs.Places.{word_at, port_at, emptied_place}
use Rattle.fm_mean.specs.Evaluate.{Scope, Reference, Element, Call, Built, Unknown, function_by, intrinsic_or, is_array, array_or, reference_of}
use Rattle.fm_mean.specs.Process.{Frame, Execution, Kid, Phase, Running, Joining, Ended, Faulted, Proc}
use Rattle.fm_mean.specs.Calls.{child_of, ended_frames}
use Rattle.fm_mean.specs.Steps.{kid_of, ask}
use Rattle.fm_mean.specs.Actions as action
use Rattle.fm_mean.specs.Actions.{Event, Fail, Make, Send, Receive, Probe, Begin, Join, End, Action, Rest, Own, Meets, at_entry, gone_on, Receiving, Loop, Counted, While, NoLoop, scalar_place, action_in, scope_of}
use Rattle.fm_mean.specs.Steps as steps
use Rattle.fm_mean.specs.Steps.{received, ask_at, ask_event, ask_for}

-- a frame in a unit that this one reaches, with no start
abbrev pub IsInsideFrame : Program → ℕ → Frame → Type 0
IsInsideFrame p root f = Reaches (calls_inside p) root f.unit × (f.starts ≡ [])

abbrev pub JoinsNobody : Phase → Type 0
JoinsNobody Running = Unit {0}
JoinsNobody (Joining block kids) = kids ≡ []
JoinsNobody Ended = Unit {0}
JoinsNobody (Faulted line fault) = Unit {0}

-- the unit of the last frame, which is the process's own
abbrev pub last_unit : ℕ → List Frame → ℕ
last_unit n [] = n
last_unit n (f ∷ fs) = last_unit f.unit fs

abbrev pub BeginsIn : ℕ → List Frame → Type 0
BeginsIn root [] = Unit {0}
BeginsIn root (f ∷ fs) = last_unit f.unit fs ≡ root

-- a process in such units that began in this one, and joins nobody
abbrev pub IsInside : Program → ℕ → Proc → Type 0
IsInside p root x = AllIn (IsInsideFrame p root) x.execution.frames × JoinsNobody x.phase × BeginsIn root x.execution.frames

-- it goes on as such a one, and starts nobody
pub record IsLoneStep (p : Program) (root : ℕ) (need : Need) (f : ChanName → Reply Proc → Onward Proc) : Type 0 where
  pub lone : IsChildNeed need
  pub goes_on : (c : ChanName) (r : Reply Proc) → IsInside p root (f c r).self × ((f c r).starts ≡ [])

abbrev pub IsLoneAsk : Program → ℕ → Ask Proc → Type 0
IsLoneAsk p root Stop = Unit {0}
IsLoneAsk p root (Go need f) = IsLoneStep p root need f

abbrev PlainOf : Program → ℕ → Proc → Action → Type 0
PlainOf p root x a = IsLoneAsk p root (ask_for p x a)

-- ---- what a name refers to

function_is : (o : Option (ℕ × ProgramUnit)) (n : ℕ) (c : ProgramUnit) → function_by o ≡ Call n c → o ≡ Some (n, c)
function_is None n c e = absurd (cc)
function_is (Some u) n c e = go (is_function (kind_of u.1)) e
  where
    go : (b : Bool) → cond b (Call u.0 u.1) Unknown ≡ Call n c → Some u ≡ Some (n, c)
    go true e' = let number : u.0 ≡ n = cc e' in let unit : u.1 ≡ c = cc e' in λ i. Some (number i, unit i)
    go false e' = absurd (cc e')

intrinsic_is : (f : Option Intrinsic) (other : Reference) (n : ℕ) (c : ProgramUnit) → intrinsic_or f other ≡ Call n c → other ≡ Call n c
intrinsic_is None other n c e = e
intrinsic_is (Some f) other n c e = absurd (cc)

array_is : (v : Option (ℕ × Variable)) (other : Reference) (n : ℕ) (c : ProgramUnit) → array_or v other ≡ Call n c → other ≡ Call n c
array_is None other n c e = e
array_is (Some v) other n c e = go (is_array v.1.bounds) e
  where
    go : (b : Bool) → cond b (Element v.0 v.1) other ≡ Call n c → other ≡ Call n c
    go true e' = absurd (cc e')
    go false e' = e'

pub reference_is : (s : Scope) (name : List ℕ) (n : ℕ) (c : ProgramUnit) → reference_of s name ≡ Call n c → unit_named s.program name ≡ Some (n, c)
reference_is s name n c e =
    let f = function_by (unit_named s.program name) in
    function_is (unit_named s.program name) n c (intrinsic_is (intrinsic_named name) f n c (array_is (variable_of s.unit name) (intrinsic_or (intrinsic_named name) f) n c e))

numbered_is : (p : Program) (o : Option ℕ) (v : ℕ × ProgramUnit) → numbered p o ≡ Some v → o ≡ Some v.0
numbered_is p None v e = absurd (cc)
numbered_is p (Some k) v e = go (unit_at p k) e
  where
    go : (u : Option ProgramUnit) → option_map (λ u. (k, u)) u ≡ Some v → Some k ≡ Some v.0
    go None e' = absurd (cc e')
    go (Some u) e' = ap (λ (x : ℕ × ProgramUnit). Some x.0) (some_same (k, u) v e')

unit_tree : (t : Option tree.Unit) (n : Option UnitNames) (u : ProgramUnit) → unit_with t n ≡ Some u → t ≡ Some u.tree
unit_tree None n u e = absurd (cc)
unit_tree (Some t) None u e = absurd (cc)
unit_tree (Some t) (Some n) u e = ap (λ (x : ProgramUnit). Some x.tree) (some_same (record { tree = t; names = n }) u e)

pub point_entry : (e : Option Entry) (l : Option EntryLinks) (d : Point) → point_with e l ≡ Some d → e ≡ Some d.entry
point_entry None l d is = absurd (cc)
point_entry (Some e) None d is = absurd (cc)
point_entry (Some e) (Some l) d is = ap (λ (x : Point). Some x.entry) (some_same (record { entry = e; links = l }) d is)

-- ---- calls of an entry are edges

element_of : {X : Type 0} (xs : List X) (i : ℕ) (x : X) → slice_get xs i ≡ Some x → Contains xs x
element_of [] i x e = absurd (cc)
element_of (y ∷ ys) zero x e = subst (λ z. Contains (y ∷ ys) z) (some_same y x e) (at_head y ys)
element_of (y ∷ ys) (suc i) x e = behind_head y x ys (element_of ys i x e)

in_flat : {X Y : Type 0} (f : X → List Y) (xs : List X) (i : ℕ) (x : X) (y : Y) → slice_get xs i ≡ Some x → Contains (f x) y → Contains (flat_map f xs) y
in_flat f [] i x y e h = absurd (cc)
in_flat f (z ∷ zs) zero x y e h = Contains-append_left (f z) (flat_map f zs) y (subst (λ w. Contains (f w) y) (sym (some_same z x e)) h)
in_flat f (z ∷ zs) (suc i) x y e h = Contains-append_right (f z) (flat_map f zs) y (in_flat f zs i x y e h)

edges_are : (c : Context) (us : List tree.Unit) (k : ℕ) (u : tree.Unit) → slice_get us k ≡ Some u
    → slice_index_or (map (map edge.target_of) (map (calls_of true c) us)) k [] ≡ map edge.target_of (calls_of true c u)
edges_are c [] k u e = absurd (cc)
edges_are c (t ∷ us) zero u e = ap (λ w. map edge.target_of (calls_of true c w)) (some_same t u e)
edges_are c (t ∷ us) (suc k) u e = edges_are c us k u e

call_there : (ns : ByName ℕ) (line : Line) (o : Option (List ℕ)) (name : List ℕ) (m : ℕ) → o ≡ Some name → finite.get ns name ≡ Some m → Contains (call_by ns line o) (record { target = m; line = line })
call_there ns line o name m is found =
    subst (λ q. Contains (call_by ns line q) (record { target = m; line = line })) (sym is)
    (subst (λ q. Contains (call_to line q) (record { target = m; line = line })) (sym found) (at_head _ []))

in_referring : (ns : ByName ℕ) (line : Line) (names : List (List ℕ)) (places : List ℕ) (n place : ℕ) (c : graph.Call) → slice_get places n ≡ Some place → Contains (call_by ns line (slice_get names place)) c → Contains (referring ns line names places) c
in_referring ns line names [] n place c e h = absurd (cc)
in_referring ns line names (q ∷ qs) zero place c e h =
    Contains-append_left (call_by ns line (slice_get names q)) (referring ns line names qs) c (subst (λ w. Contains (call_by ns line (slice_get names w)) c) (sym (some_same q place e)) h)
in_referring ns line names (q ∷ qs) (suc n) place c e h = Contains-append_right (call_by ns line (slice_get names q)) (referring ns line names qs) c (in_referring ns line names qs n place c e h)

-- how an entry calls the unit of a name
data EntryCalls (e : Entry) (name : List ℕ) : Type 0 where
  by_call : called e.stmt ≡ Some name → EntryCalls e name
  by_process_call : process_called e.stmt ≡ Some name → EntryCalls e name
  by_reference : (n place : ℕ) → slice_get e.refs n ≡ Some place → slice_get (applied_names e.stmt) place ≡ Some name → EntryCalls e name

call_in : (ctx : Context) (e : Entry) (name : List ℕ) (m : ℕ) → finite.get ctx.units name ≡ Some m → EntryCalls e name → Contains (calls_in true ctx e) (record { target = m; line = e.line })
call_in ctx e name m found (by_call is) =
    let a = call_by ctx.units e.line (called e.stmt) in
    let b = process_call true ctx.units e in
    let c = referring ctx.units e.line (applied_names e.stmt) e.refs in
    let x : graph.Call = record { target = m; line = e.line } in
    Contains-append_left (a ++ b) c x (Contains-append_left a b x (call_there ctx.units e.line (called e.stmt) name m is found))
call_in ctx e name m found (by_process_call is) =
    let a = call_by ctx.units e.line (called e.stmt) in
    let b = process_call true ctx.units e in
    let c = referring ctx.units e.line (applied_names e.stmt) e.refs in
    let x : graph.Call = record { target = m; line = e.line } in
    Contains-append_left (a ++ b) c x (Contains-append_right a b x (call_there ctx.units e.line (process_called e.stmt) name m is found))
call_in ctx e name m found (by_reference n place is named) =
    let a = call_by ctx.units e.line (called e.stmt) in
    let b = process_call true ctx.units e in
    let c = referring ctx.units e.line (applied_names e.stmt) e.refs in
    let x : graph.Call = record { target = m; line = e.line } in
    Contains-append_right (a ++ b) c x (in_referring ctx.units e.line (applied_names e.stmt) e.refs n place x is (call_there ctx.units e.line (slice_get (applied_names e.stmt) place) name m named found))

edge_to : (p : Program) (k i : ℕ) (u : tree.Unit) (e : Entry) (name : List ℕ) (m : ℕ) → slice_get p.units.units k ≡ Some u → slice_get u.body i ≡ Some e → EntryCalls e name
    → finite.get (unit_numbers p.units.units) name ≡ Some m → IsEdge (calls_inside p) k m
edge_to p k i u e name m is there how found =
    let ctx = context p in
    let c : graph.Call = record { target = m; line = e.line } in
    subst (λ xs. Contains xs m) (sym (edges_are ctx p.units.units k u is)) (in_map edge.target_of c (calls_of true ctx u) (in_flat (calls_in true ctx) u.body i e c there (call_in ctx e name m found how)))

walk_on : (g : List (List ℕ)) (n : ℕ) (a b c : ℕ) → IsWalk g n a b → IsEdge g b c → IsWalk g (suc n) a c
walk_on g zero a b c walk step = (c, subst (λ x. IsEdge g x c) (sym walk) step, refl)
walk_on g (suc n) a b c walk step = (walk.0, walk.1, walk_on g n walk.0 b c walk.2 step)

reached_on : (p : Program) (root k m : ℕ) → Reaches (calls_inside p) root k → IsEdge (calls_inside p) k m → Reaches (calls_inside p) root m
reached_on p root k m r step = (suc r.0, walk_on (calls_inside p) r.0 root k m r.1 step)

-- the name of a reference, by its place
reference_named : (e : Entry) (n : ℕ) (o : Option ℕ) (name : List ℕ) (args : Trees) → slice_get e.refs n ≡ o → option_and_then (reference_at e.stmt) o ≡ Some (Ref name args) → EntryCalls e name
reference_named e n None name args is at = absurd (cc)
reference_named e n (Some place) name args is at = by_reference n place is (slice_get-map applied_name (applied_in e.stmt) place ∙ ap (option_map applied_name) at)

-- ---- lists

ended_within : (p : Program) (root : ℕ) (fs : List Frame) → AllIn (IsInsideFrame p root) fs → AllIn (IsInsideFrame p root) (ended_frames p fs).0
ended_within p root [] all = tt
ended_within p root (f ∷ []) all = ((all.0.0, refl), tt)
ended_within p root (f ∷ g ∷ fs) all = ended_within p root (g ∷ fs) all.1

ended_begins : (p : Program) (root : ℕ) (fs : List Frame) → BeginsIn root fs → BeginsIn root (ended_frames p fs).0
ended_begins p root [] h = tt
ended_begins p root (f ∷ []) h = h
ended_begins p root (f ∷ g ∷ fs) h = ended_begins p root (g ∷ fs) h

module _ (p : Program) (root : ℕ) (makes_none : Makes p root → ⊥) (x : Proc) (plain : IsInside p root x) where
  lone : (w : Execution) (lines : List (List ℕ)) (drops : List PortValue) (cost : ℕ) → AllIn (IsInsideFrame p root) w.frames → BeginsIn root w.frames → PlainOf p root x (Own w lines drops cost)
  lone w lines drops cost h b = record { lone = tt; goes_on = λ c r. ((h, plain.1, b), refl) }

  met : (e : Event) (fs : List Frame) → x.execution.frames ≡ fs → IsLoneAsk p root (ask_event p x e fs) → PlainOf p root x (Meets e)
  met e fs at h = subst (λ gs. IsLoneAsk p root (ask_event p x e gs)) (sym at) h

  ends : (f : Frame) (below : List Frame) → x.execution.frames ≡ f ∷ below → PlainOf p root x (Meets End)
  ends f below at = met End (f ∷ below) at (record { lone = tt; goes_on = λ c r. ((ended_within p root x.execution.frames plain.0, tt, ended_begins p root x.execution.frames plain.2), refl) })

  module _ (f : Frame) (below : List Frame) (at : x.execution.frames ≡ f ∷ below) (top : IsInsideFrame p root f) (rest : AllIn (IsInsideFrame p root) below) where
    own : BeginsIn root (f ∷ below)
    own = subst (BeginsIn root) at plain.2

    meets : (e : Event) → IsLoneAsk p root (ask_at p x below f e) → PlainOf p root x (Meets e)
    meets e h = met e (f ∷ below) at h

    fails : (line : ℕ) (fault : Fault) → PlainOf p root x (action.fails line fault)
    fails line fault = meets (Fail line fault) (record { lone = tt; goes_on = λ c r. ((plain.0, tt, plain.2), refl) })

    goes : (n : ℕ) → PlainOf p root x (action.goes_to x.execution below f n)
    goes n = lone _ [] [] 1 (top, rest) own

    jumps : (n : Option ℕ) → PlainOf p root x (action.jumps x.execution below f n)
    jumps None = tt
    jumps (Some n) = goes n

    assigns : (e : Point) (s : Result Span Fault) (v : Result Value Fault) → PlainOf p root x (action.assigns x.execution e f below s v)
    assigns e (Err fault) v = fails (line_of e) fault
    assigns e (Ok s) (Err fault) = fails (line_of e) fault
    assigns e (Ok s) (Ok v) = lone _ [] [] 1 (top, rest) own

    prints : (e : Point) (v : Result (List Printed) Fault) → PlainOf p root x (action.prints x.execution e f below v)
    prints e (Err fault) = fails (line_of e) fault
    prints e (Ok items) = lone _ _ [] _ (top, rest) own

    tests : (e : Point) (v : Result Value Fault) → PlainOf p root x (action.tests x.execution e f below v)
    tests e (Err fault) = fails (line_of e) fault
    tests e (Ok v) = goes _

    begins : (b : Bool) (e : Point) (w : Execution) → AllIn (IsInsideFrame p root) w.frames → BeginsIn root w.frames → PlainOf p root x (cond b (action.fails (line_of e) ZeroDivide) (Own w [] [] 1))
    begins true e w h b = fails (line_of e) ZeroDivide
    begins false e w h b = lone w [] [] 1 h b

    loops : (e : Point) (s : Span) (m : Result (ℤ × ℤ × ℤ) Fault) → PlainOf p root x (action.loops x.execution e f below s m)
    loops e s (Err fault) = fails (line_of e) fault
    loops e s (Ok m) = begins (int_eq m.2 (pos 0)) e _ (top, rest) own

    adds : (e : Point) (opener body : ℕ) (s : Span) (count : ℕ) (by : ℤ) (v : Result ℤ Fault) → PlainOf p root x (action.adds x.execution e f below opener body s count by v)
    adds e opener body s count by (Err fault) = fails (line_of e) fault
    adds e opener body s count by (Ok n) = lone _ [] [] 1 (top, rest) own

    turns : (e : Point) (opener body : ℕ) (s : Span) (l : Option (ℕ × ℤ)) → PlainOf p root x (action.loop_trips x.execution e f below opener body s l)
    turns e opener body s None = goes e.entry.after
    turns e opener body s (Some l) = adds e opener body s l.0 l.1 (sum (word_at f.values s) l.1)

    ends_loop : (u : ProgramUnit) (e : Point) (opener body : ℕ) (l : Loop) → PlainOf p root x (action.ends_loop x.execution u e f below opener body l)
    ends_loop u e opener body (Counted name) = turns e opener body (scalar_place (variable_of u name)) (finite.get f.loops opener)
    ends_loop u e opener body While = goes opener
    ends_loop u e opener body NoLoop = tt

    end_by : (u : ProgramUnit) (e : Point) (opener : ℕ) (o : Option Entry) → PlainOf p root x (action.end_by x.execution u e f below opener o)
    end_by u e opener None = tt
    end_by u e opener (Some o) = ends_loop u e opener o.after (action.loop_of o.stmt)

    end_of : (u : ProgramUnit) (e : Point) (o : Option ℕ) → PlainOf p root x (action.end_of x.execution u e f below o)
    end_of u e None = tt
    end_of u e (Some o) = end_by u e o (slice_get u.tree.body o)

    refers : (line : ℕ) (g : Reference) (args : Result (List Actual) Fault) → ((n : ℕ) (c : ProgramUnit) → g ≡ Call n c → Reaches (calls_inside p) root n) → PlainOf p root x (action.refers x.execution line f below g args)
    refers line (Element i v) args h = tt
    refers line (Built g) args h = tt
    refers line Unknown args h = tt
    refers line (Call n u) (Ok args) h = lone _ [] _ _ ((h n u refl, refl), (top, rest)) own
    refers line (Call n u) (Err fault) h = fails line fault

    calls : (e : Point) (u : Option (ℕ × ProgramUnit)) (args : Result (List Actual) Fault) → ((v : ℕ × ProgramUnit) → u ≡ Some v → Reaches (calls_inside p) root v.0) → PlainOf p root x (action.calls x.execution e f below u args)
    calls e None args h = tt
    calls e (Some u) (Err fault) h = fails (line_of e) fault
    calls e (Some u) (Ok args) h = lone _ [] _ _ ((h u refl, refl), (top, rest)) own

    sent_items : (e : Point) (c : ChanName) (w : ℕ) (items : Result (List Actual) Fault) → PlainOf p root x (action.sent_items e c w items)
    sent_items e c w (Err fault) = fails (line_of e) fault
    sent_items e c w (Ok items) = meets (Send c w items e.entry.after) (record { lone = tt; goes_on = λ d r. (((top, rest), plain.1, own), refl) })

    sent : (e : Point) (t : PortFields) (items : List Actual) (o : Option PortValue) → PlainOf p root x (action.sent e t o items)
    sent e t items None = fails (line_of e) NullPort
    sent e t items (Some (Reader c)) = fails (line_of e) NullPort
    sent e t items (Some (Writer c w)) = sent_items e c w (action.cut_items [] t items)

    sends : (e : Point) (t : PortFields) (q : Result Span Fault) (items : Result (List Actual) Fault) → PlainOf p root x (action.sends e t f q items)
    sends e t (Err fault) items = fails (line_of e) fault
    sends e t (Ok q) (Err fault) = fails (line_of e) fault
    sends e t (Ok q) (Ok items) = sent e t items (port_at f.values q)

    closed : (e : Point) (vs : List Item) (o : Option PortValue) → PlainOf p root x (action.closed x.execution e f below vs o)
    closed e vs None = fails (line_of e) NullPort
    closed e vs (Some v) = lone _ [] _ 1 (top, rest) own

    closes : (e : Point) (q : Result Span Fault) → PlainOf p root x (action.closes x.execution e f below q)
    closes e (Err fault) = fails (line_of e) fault
    closes e (Ok q) = closed e (emptied_place f.values q).0 (emptied_place f.values q).1

    moves : (e : Point) (r : Result (Span × Span) Fault) → PlainOf p root x (action.moves x.execution e f below r)
    moves e (Err fault) = fails (line_of e) fault
    moves e (Ok r) = lone _ [] _ 1 (top, rest) own

    taken : (line next : ℕ) (items : List Span) (iostat : Option Span) (to : Option ℕ) (m : Option Message)
        → IsInside p root (received x line below f next items iostat to m).self × ((received x line below f next items iostat to m).starts ≡ [])
    taken line next items iostat to (Some m) = (((top, rest), plain.1, own), refl)
    taken line next items None None None = ((plain.0, tt, plain.2), refl)
    taken line next items None (Some n) None = (((top, rest), plain.1, own), refl)
    taken line next items (Some s) to None = (((top, rest), plain.1, own), refl)

    came : (line next : ℕ) (items : List Span) (iostat : Option Span) (to : Option ℕ) (exceeds : Bool) (m : Option Message)
        → IsInside p root (steps.met x line below f next items iostat to exceeds m).self × ((steps.met x line below f next items iostat to exceeds m).starts ≡ [])
    came line next items iostat to true None = ((plain.0, tt, plain.2), refl)
    came line next items iostat to true (Some m) = taken line next items iostat to (Some m)
    came line next items iostat to false m = taken line next items iostat to m

    receives_at : (e : Point) (r : Receiving) (o : Option PortValue) → PlainOf p root x (action.receives_at e r o)
    receives_at e r None = fails (line_of e) NullPort
    receives_at e r (Some (Writer c w)) = fails (line_of e) NullPort
    receives_at e r (Some (Reader c)) =
        meets (Receive c (line_of e) r.2 r.1 e.links.jump e.entry.after) (record { lone = tt; goes_on = λ d y. came (line_of e) e.entry.after r.2 r.1 e.links.jump y.exceeds y.message })

    receives : (e : Point) (r : Result Receiving Fault) → PlainOf p root x (action.receives e f r)
    receives e (Err fault) = fails (line_of e) fault
    receives e (Ok r) = receives_at e r (port_at f.values r.0)

    probes_at : (e : Point) (empty : Span) (o : Option PortValue) → PlainOf p root x (action.probes_at e empty o)
    probes_at e empty None = fails (line_of e) NullPort
    probes_at e empty (Some (Writer c w)) = fails (line_of e) NullPort
    probes_at e empty (Some (Reader c)) = meets (Probe c empty e.entry.after) (record { lone = tt; goes_on = λ d r. (((top, rest), plain.1, own), refl) })

    probes : (e : Point) (r : Result (Span × Span) Fault) → PlainOf p root x (action.probes e f r)
    probes e (Err fault) = fails (line_of e) fault
    probes e (Ok r) = probes_at e r.1 (port_at f.values r.0)

    begin : PlainOf p root x (Meets Begin)
    begin = meets Begin (record { lone = tt; goes_on = λ c r. ((((top.0, refl), rest), ap (map kid_of) top.1, own), ap (map child_of) top.1) })

    join : (block : ℕ) (kids : List Kid) (next : ℕ) → kids ≡ [] → PlainOf p root x (Meets (Join block kids next))
    join block kids next none = meets (Join block kids next) (record { lone = ap length none; goes_on = λ c r. (((top, rest), tt, own), refl) })

  gives_back : (f : Frame) (below : List Frame) → x.execution.frames ≡ f ∷ below → AllIn (IsInsideFrame p root) below → PlainOf p root x (action.gives_back x.execution f below)
  gives_back f [] at rest = ends f [] at
  gives_back f (g ∷ below) at rest = lone _ [] _ _ rest (subst (BeginsIn root) at plain.2)

  results_in : (u : ProgramUnit) (f : Frame) (below : List Frame) → x.execution.frames ≡ f ∷ below → AllIn (IsInsideFrame p root) below → PlainOf p root x (action.results_in x.execution u f below)
  results_in u f [] at rest = ends f [] at
  results_in u f (g ∷ below) at rest = lone _ [] _ _ rest (subst (BeginsIn root) at plain.2)

  returns : (u : ProgramUnit) (f : Frame) (below : List Frame) → x.execution.frames ≡ f ∷ below → AllIn (IsInsideFrame p root) below → (k : UnitKind) → PlainOf p root x (action.returns x.execution u f below k)
  returns u f below at rest unit_kind.Program = ends f below at
  returns u f below at rest unit_kind.Process = ends f below at
  returns u f below at rest unit_kind.Subroutine = gives_back f below at rest
  returns u f below at rest unit_kind.Function = results_in u f below at rest

  module _ (f : Frame) (below : List Frame) (at : x.execution.frames ≡ f ∷ below) (top : IsInsideFrame p root f) (rest : AllIn (IsInsideFrame p root) below) (u : ProgramUnit) (is_unit : unit_at p f.unit ≡ Some u) (e : Point) (there : point_at u f.entry ≡ Some e) where
    is_tree : slice_get p.units.units f.unit ≡ Some u.tree
    is_tree = unit_tree (slice_get p.units.units f.unit) (slice_get p.names.units f.unit) u is_unit

    is_entry : slice_get u.tree.body f.entry ≡ Some e.entry
    is_entry = point_entry (slice_get u.tree.body f.entry) (slice_get (links_of u.tree.body) f.entry) e there

    reached : (name : List ℕ) (v : ℕ × ProgramUnit) → EntryCalls e.entry name → unit_named p name ≡ Some v → Reaches (calls_inside p) root v.0
    reached name v how is =
        reached_on p root f.unit v.0 top.0 (edge_to p f.unit f.entry u.tree e.entry name v.0 is_tree is_entry how (numbered_is p (finite.get (unit_numbers p.units.units) name) v is))

    references : (n : ℕ) (t : Tree) → action.next_reference e.entry n ≡ Some t → PlainOf p root x (action.reference_step x.execution (line_of e) (scope_of p u f) f below t)
    references n (Ref name args) is =
        refers f below at top rest (line_of e) (reference_of (scope_of p u f) name) _
        (λ m c same. reached name (m, c) (reference_named e.entry n (slice_get e.entry.refs n) name args refl is) (reference_is (scope_of p u f) name m c same))
    references n (Number k) is = tt
    references n (Truth b) is = tt
    references n (Named name) is = tt
    references n (Paren t) is = tt
    references n (Signed op t) is = tt
    references n (Not t) is = tt
    references n (Binary op a b) is = tt

    calm : is_making e.entry.stmt ≡ true → ⊥
    calm making = makes_none (record {
      number = f.unit;
      reached = top.0;
      unit = u;
      here = is_unit;
      entry = e.entry;
      within = element_of u.tree.body f.entry e.entry is_entry;
      makes = making;
    })

    simple_plain : (s : Scope) (k : Simple) → e.entry.stmt ≡ stmt.Simple k → PlainOf p root x (action.simple_action p x.execution u e f below s k)
    unfolding called is_making
    simple_plain s (simple.Assignment v t) is = assigns f below at top rest e _ _
    simple_plain s (simple.Goto l) is = jumps f below at top rest e.links.jump
    simple_plain s simple.Continue is = goes f below at top rest e.entry.after
    simple_plain s simple.Return is = returns u f below at rest (kind_of u)
    simple_plain s simple.Stop is = ends f below at
    simple_plain s (simple.Call name args) is = calls f below at top rest e (unit_named p name) _ (λ v named. reached name v (by_call (ap called is)) named)
    simple_plain s (simple.Print items) is = prints f below at top rest e _
    simple_plain s (simple.Write unit items) is = prints f below at top rest e _
    simple_plain s (simple.Channel in_first i o) is = absurd (calm (ap is_making is))
    simple_plain s (simple.Merger i os) is = absurd (calm (ap is_making is))
    simple_plain s (simple.Send named q items) is = sends f below at top rest e (action.fields_at u q) _ _
    simple_plain s (simple.Receive named q extras items) is = receives f below at top rest e _
    simple_plain s (simple.EndChannel named q) is = closes f below at top rest e _
    simple_plain s (simple.MovePort from to) is = moves f below at top rest e _
    simple_plain s (simple.Probe named q empty) is = probes f below at top rest e _

    statement_plain : (s : Scope) (k : Stmt) → e.entry.stmt ≡ k → PlainOf p root x (action.statement_action p x.execution u e f below s k)
    unfolding is_making
    statement_plain s (stmt.Simple k) is = simple_plain s k is
    statement_plain s (stmt.LogicalIf t k) is = tests f below at top rest e _
    statement_plain s (stmt.BlockIf t) is = tests f below at top rest e _
    statement_plain s (stmt.ElseIf t) is = tests f below at top rest e _
    statement_plain s stmt.Else is = goes f below at top rest e.entry.after
    statement_plain s stmt.EndIf is = goes f below at top rest e.entry.after
    statement_plain s (stmt.Do h) is = loops f below at top rest e (scalar_place (variable_of u h.variable)) (action.loop_bounds s h)
    statement_plain s (stmt.ProcessDo h) is = loops f below at top rest e (scalar_place (variable_of u h.variable)) (action.loop_bounds s h)
    statement_plain s (stmt.DoWhile t) is = tests f below at top rest e _
    statement_plain s stmt.EndDo is = end_of f below at top rest u e e.entry.mate
    statement_plain s stmt.EndProcessDo is = end_of f below at top rest u e e.entry.mate
    statement_plain s stmt.LoopEnd is = end_of f below at top rest u e e.entry.mate
    statement_plain s stmt.End is = returns u f below at rest (kind_of u)
    statement_plain s stmt.Processes is = goes f below at top rest e.entry.after
    statement_plain s stmt.EndProcesses is = begin f below at top rest
    statement_plain s (stmt.ProcessCall name part) is = absurd (calm (ap is_making is))
    statement_plain s (stmt.Program name) is = tt
    statement_plain s (stmt.Process name formals) is = tt
    statement_plain s (stmt.Subroutine name formals) is = tt
    statement_plain s (stmt.Function name formals) is = tt
    statement_plain s (stmt.IntegerFunction name formals) is = tt
    statement_plain s (stmt.LogicalFunction name formals) is = tt
    statement_plain s stmt.ImplicitNone is = tt
    statement_plain s (stmt.Integer ds) is = tt
    statement_plain s (stmt.Logical ds) is = tt
    statement_plain s (stmt.Dimension ds) is = tt
    statement_plain s (stmt.Parameter ds) is = tt
    statement_plain s (stmt.Inport t ds) is = tt
    statement_plain s (stmt.Outport t ds) is = tt
    statement_plain s (stmt.Intent w names) is = tt
    statement_plain s (stmt.Processors es) is = tt

    by_plain : (n : ℕ) (t : Option Tree) → action.next_reference e.entry n ≡ t → PlainOf p root x (action.action_by p x.execution u e f below t)
    by_plain n (Some t) is = references n t is
    by_plain n None is = statement_plain (scope_of p u f) e.entry.stmt refl

  point_plain : (f : Frame) (below : List Frame) → x.execution.frames ≡ f ∷ below → IsInsideFrame p root f → AllIn (IsInsideFrame p root) below → (u : ProgramUnit) → unit_at p f.unit ≡ Some u → (e : Option Point) → point_at u f.entry ≡ e
      → PlainOf p root x (action.point_action p x.execution u f below e)
  point_plain f below at top rest u is_unit None there = tt
  point_plain f below at top rest u is_unit (Some e) there = by_plain f below at top rest u is_unit e there (length f.results) (action.next_reference e.entry (length f.results)) refl

  at_plain : (f : Frame) (below : List Frame) → x.execution.frames ≡ f ∷ below → IsInsideFrame p root f → AllIn (IsInsideFrame p root) below → (u : Option ProgramUnit) → unit_at p f.unit ≡ u → PlainOf p root x (action.action_at p x.execution f below u)
  at_plain f below at top rest None is_unit = tt
  at_plain f below at top rest (Some u) is_unit = point_plain f below at top rest u is_unit (point_at u f.entry) refl

  running_plain : (fs : List Frame) → x.execution.frames ≡ fs → AllIn (IsInsideFrame p root) fs → PlainOf p root x (action.running p x.execution fs)
  running_plain [] at all = tt
  running_plain (f ∷ below) at all = at_plain f below at all.0 all.1 (unit_at p f.unit) refl

  joining_plain : (block : ℕ) (kids : List Kid) → kids ≡ [] → (fs : List Frame) → x.execution.frames ≡ fs → AllIn (IsInsideFrame p root) fs → PlainOf p root x (action.joining p block kids fs)
  joining_plain block kids none [] at all = tt
  joining_plain block kids none (f ∷ below) at all = join f below at all.0 all.1 block kids _ none

  phase_plain : (phase : Phase) → x.phase ≡ phase → PlainOf p root x (action_in p x.execution phase)
  phase_plain Running is = running_plain x.execution.frames refl plain.0
  phase_plain (Joining block kids) is = joining_plain block kids (subst JoinsNobody is plain.1) x.execution.frames refl plain.0
  phase_plain Ended is = tt
  phase_plain (Faulted line fault) is = tt

-- what such a process asks for, and how it goes on
pub stays_inside : (p : Program) (root : ℕ) → (Makes p root → ⊥) → (x : Proc) → IsInside p root x → IsLoneAsk p root (ask p x)
stays_inside p root makes_none x plain = phase_plain p root makes_none x plain x.phase refl
