-- Each process is on the first node of its machine.
use Rattle.std.proofs.Common.{◌≡◌, ℕ, ℤ, pos, Bool, true, false, cond, Option, Some, None, List, [], ◌∷◌, ◌++◌, map, length, slice_get, Result, Ok, Err, refl, sym, subst}
use Rattle.std.specs.Ordering.{int_eq}
use Rattle.std.specs.FinMap as finite
use Rattle.fm_base.specs.declared.fault.Fault.{Fault}
use Rattle.fm_base.specs.declared.fault.Fault.TheVariants.{NullPort, ZeroDivide}
use Rattle.fm_base.specs.declared.output.Printed.{Printed}
use Rattle.fm_base.specs.declared.port.PortValue.{PortValue}
use Rattle.fm_base.specs.declared.port.PortValue.TheVariants.{Writer, Reader}
use Rattle.fm_base.specs.Channels.{Item, Message}
use Rattle.fm_values.specs.Values.{sum}
use Rattle.fm_values.specs.declared.value.Value.{Value}
use Rattle.fm_tree.specs.PortFields.{PortFields}
use Rattle.fm_tree.specs.Tree.{Tree, Number, Truth, Named, Ref, Paren, Signed, Not, Binary}
use Rattle.fm_tree.specs.declared.form.UnitKind.{UnitKind}
use Rattle.fm_tree.specs.declared.form.UnitKind.TheVariants as unit_kind
use Rattle.fm_tree.specs.declared.program_unit.Entry.{Entry}
use Rattle.fm_tree.specs.declared.statement.Where.{Where}
use Rattle.fm_tree.specs.declared.statement.Simple.{Simple}
use Rattle.fm_tree.specs.declared.statement.Simple.TheVariants as simple
use Rattle.fm_tree.specs.declared.statement.Stmt.{Stmt}
use Rattle.fm_tree.specs.declared.statement.Stmt.TheVariants as stmt
use Rattle.fm_net.specs.Typed.{AllIn}
use Rattle.fm_rules.specs.declared.program.Program.{Program}
use Rattle.fm_mean.specs.Names.{ProgramUnit, Point, unit_at, unit_named, kind_of, variable_of, point_at, line_of}
use Rattle.fm_mean.specs.declared.place.Actual.{Actual}
use Rattle.fm_mean.specs.declared.place.Span.{Span}
use Rattle.fm_mean.specs.Places.{word_at, port_at, emptied_place}
use Rattle.fm_mean.specs.Evaluate.{Scope, Reference, Element, Call, Built, Unknown, reference_of, refs_in, refs_in_all, number_of, numbers_of, actuals_of}
use Rattle.fm_mean.specs.Process.{Start, Frame, framed, Kid, Phase, Running, Joining, Ended, Faulted, Proc}
use Rattle.fm_base.specs.declared.path.ChanName.{ChanName}
use Rattle.fm_base.specs.declared.schedule.Machine.{Machine}
use Rattle.fm_base.specs.declared.fault.Fault.TheVariants.{BadMachine}
use Rattle.std.specs.Prelude.{nat_lt, ◌+◌}
use Rattle.fm_tree.specs.Tree.{trees_from}
use Rattle.fm_tree.specs.declared.statement.Where.TheVariants as put_at
use Rattle.fm_net.specs.Machine.{Ask}
use Rattle.fm_net.specs.Typed.{IsTypedAsk, IsTypedLanguage}
use Rattle.fm_map.specs.Placement.{Seat, product, shape_of, node_of, at_node, part_of, at_first, fitted}
use Rattle.fm_mean.proofs.Sorts.{parts}
use Rattle.fm_mean.specs.Calls.{child_of, ended_frames}
use Rattle.fm_mean.specs.Actions as action
use Rattle.fm_mean.specs.Actions.{Event, Fail, Make, Send, Receive, Probe, Begin, Join, End, Action, Rest, Own, Meets, at_entry, gone_on, Receiving, Loop, Counted, While, NoLoop, scalar_place, action_in, scope_of, elements_of}
use Rattle.fm_mean.specs.Steps as steps
use Rattle.fm_mean.specs.Steps.{received, ask_at, ask_event, ask_for, language}

-- with starts that will be
abbrev IsSeatedStart : Start → Type 0
IsSeatedStart s = s.node ≡ s.machine.first

abbrev IsSeatedFrame : Frame → Type 0
IsSeatedFrame f = AllIn IsSeatedStart f.starts

abbrev pub IsSeated : Proc → Type 0
IsSeated x = (x.execution.node ≡ x.execution.machine.first) × AllIn IsSeatedFrame x.execution.frames

-- channels have no types here
abbrev pub NoTypes : Type 0
NoTypes = ChanName → Prim.Unit {0}

abbrev SeatedAsk : Program → Proc → Ask Proc → Type 0
SeatedAsk p x a = IsTypedAsk (language p) (λ (types : NoTypes) (x : Proc). IsSeated x) (λ (types : NoTypes) c m. Prim.Unit {0}) x a

abbrev SeatedOf : Program → Proc → Action → Type 0
SeatedOf p x a = SeatedAsk p x (ask_for p x a)

-- ---- seats

the_seat : (a b : Seat) → ◌≡◌ {A = Result Seat Fault} (Ok a) (Ok b) → a ≡ b
the_seat a b e = cc

the_pair : (a b : List Actual × Seat) → ◌≡◌ {A = Result (List Actual × Seat) Fault} (Ok a) (Ok b) → a ≡ b
the_pair a b e = cc

node_first : (o : Option ℕ) (t : Seat) → at_node o ≡ Ok t → t.1 ≡ t.0.first
node_first None t e = absurd (cc e)
node_first (Some n) t e = subst (λ (t : Seat). t.1 ≡ t.0.first) (the_seat (record { first = n; count = 1 }, n) t e) refl

part_first : (o : Option Machine) (t : Seat) → at_first o ≡ Ok t → t.1 ≡ t.0.first
part_first None t e = absurd (cc e)
part_first (Some m) t e = subst (λ (t : Seat). t.1 ≡ t.0.first) (the_seat (m, m.first) t e) refl

fitted_first : (es : List ℕ) (s t : Seat) → s.1 ≡ s.0.first → fitted es s ≡ Ok t → t.1 ≡ t.0.first
fitted_first [] s t h e = subst (λ (t : Seat). t.1 ≡ t.0.first) (the_seat s t e) h
fitted_first (d ∷ es) s t h e = go (nat_lt s.0.count (product (d ∷ es))) e
  where
    go : (b : Bool) → cond {A = Result Seat Fault} b (Err BadMachine) (Ok (record { first = s.0.first; count = product (d ∷ es) }, s.1)) ≡ Ok t → t.1 ≡ t.0.first
    go true e' = absurd (cc e')
    go false e' = subst (λ (t : Seat). t.1 ≡ t.0.first) (the_seat (record { first = s.0.first; count = product (d ∷ es) }, s.1) t e') h

seat_first : (s : Scope) (m : Machine) (here : Seat) (w : Option Where) (n : ℕ) (t : Seat) → here.1 ≡ here.0.first → action.seat_at s m here w n ≡ Ok t → t.1 ≡ t.0.first
seat_first s m here None n t h e = subst (λ (t : Seat). t.1 ≡ t.0.first) (the_seat here t e) h
seat_first s m here (Some (put_at.Location ks)) n t h e =
    let a = parts (numbers_of s (trees_from ks) n) _ t e in
    node_first (node_of m (shape_of s.unit.names.extents m) a.0) t a.2
seat_first s m here (Some (put_at.Submachine lo hi)) n t h e =
    let a = parts (number_of s lo n) _ t e in
    let b = parts (number_of s hi (n + refs_in s lo)) _ t a.2 in
    part_first (part_of m a.0 b.0) t b.2

-- ---- lists

starts_last : (ss : List Start) (s : Start) → AllIn IsSeatedStart ss → IsSeatedStart s → AllIn IsSeatedStart (ss ++ s ∷ [])
starts_last [] s all h = (h, tt)
starts_last (t ∷ ss) s all h = (all.0, starts_last ss s all.1 h)

children_seated : (ss : List Start) → AllIn IsSeatedStart ss → AllIn IsSeated (map child_of ss)
children_seated [] all = tt
children_seated (s ∷ ss) all = ((all.0, (tt, tt)), children_seated ss all.1)

ended_seated : (p : Program) (fs : List Frame) → AllIn IsSeatedFrame fs → AllIn IsSeatedFrame (ended_frames p fs).0
ended_seated p [] all = tt
ended_seated p (f ∷ []) all = (tt, tt)
ended_seated p (f ∷ g ∷ fs) all = ended_seated p (g ∷ fs) all.1

module _ (p : Program) (x : Proc) where
  met : (e : Event) (fs : List Frame) → x.execution.frames ≡ fs → SeatedAsk p x (ask_event p x e fs) → SeatedOf p x (Meets e)
  met e fs at h = subst (λ gs. SeatedAsk p x (ask_event p x e gs)) (sym at) h

  ends : (f : Frame) (below : List Frame) → x.execution.frames ≡ f ∷ below → SeatedOf p x (Meets End)
  ends f below at = met End (f ∷ below) at (record { type_made = tt; sends = λ types fine. tt; goes_on = λ types fine c r made came all. ((fine.0, ended_seated p x.execution.frames fine.1), tt) })

  module _ (f : Frame) (below : List Frame) (at : x.execution.frames ≡ f ∷ below) where
    seated : IsSeated x → AllIn IsSeatedFrame (f ∷ below)
    seated fine = subst (AllIn IsSeatedFrame) at fine.1

    lone : (fs : List Frame) (lines : List (List ℕ)) (drops : List PortValue) (cost : ℕ) → (IsSeated x → AllIn IsSeatedFrame fs) → SeatedOf p x (Own (framed x.execution fs) lines drops cost)
    lone fs lines drops cost h = record { type_made = tt; sends = λ types fine. tt; goes_on = λ types fine c r made came all. ((fine.0, h fine), tt) }

    meets : (e : Event) → SeatedAsk p x (ask_at p x below f e) → SeatedOf p x (Meets e)
    meets e h = met e (f ∷ below) at h

    fails : (line : ℕ) (fault : Fault) → SeatedOf p x (action.fails line fault)
    fails line fault = meets (Fail line fault) (record { type_made = tt; sends = λ types fine. tt; goes_on = λ types fine c r made came all. (fine, tt) })

    goes : (n : ℕ) → SeatedOf p x (action.goes_to x.execution below f n)
    goes n = lone _ [] [] 1 seated

    jumps : (n : Option ℕ) → SeatedOf p x (action.jumps x.execution below f n)
    jumps None = tt
    jumps (Some n) = goes n

    assigns : (e : Point) (s : Result Span Fault) (v : Result Value Fault) → SeatedOf p x (action.assigns x.execution e f below s v)
    assigns e (Err fault) v = fails (line_of e) fault
    assigns e (Ok s) (Err fault) = fails (line_of e) fault
    assigns e (Ok s) (Ok v) = lone _ [] [] 1 seated

    prints : (e : Point) (v : Result (List Printed) Fault) → SeatedOf p x (action.prints x.execution e f below v)
    prints e (Err fault) = fails (line_of e) fault
    prints e (Ok items) = lone _ _ [] _ seated

    tests : (e : Point) (v : Result Value Fault) → SeatedOf p x (action.tests x.execution e f below v)
    tests e (Err fault) = fails (line_of e) fault
    tests e (Ok v) = goes _

    begins : (b : Bool) (e : Point) (fs : List Frame) → (IsSeated x → AllIn IsSeatedFrame fs) → SeatedOf p x (cond b (action.fails (line_of e) ZeroDivide) (Own (framed x.execution fs) [] [] 1))
    begins true e fs h = fails (line_of e) ZeroDivide
    begins false e fs h = lone fs [] [] 1 h

    loops : (e : Point) (s : Span) (m : Result (ℤ × ℤ × ℤ) Fault) → SeatedOf p x (action.loops x.execution e f below s m)
    loops e s (Err fault) = fails (line_of e) fault
    loops e s (Ok m) = begins (int_eq m.2 (pos 0)) e _ seated

    adds : (e : Point) (opener body : ℕ) (s : Span) (count : ℕ) (by : ℤ) (v : Result ℤ Fault) → SeatedOf p x (action.adds x.execution e f below opener body s count by v)
    adds e opener body s count by (Err fault) = fails (line_of e) fault
    adds e opener body s count by (Ok n) = lone _ [] [] 1 seated

    trips_end : (e : Point) (opener body : ℕ) (s : Span) (l : Option (ℕ × ℤ)) → SeatedOf p x (action.loop_trips x.execution e f below opener body s l)
    trips_end e opener body s None = goes e.entry.after
    trips_end e opener body s (Some l) = adds e opener body s l.0 l.1 (sum (word_at f.values s) l.1)

    ends_loop : (u : ProgramUnit) (e : Point) (opener body : ℕ) (l : Loop) → SeatedOf p x (action.ends_loop x.execution u e f below opener body l)
    ends_loop u e opener body (Counted name) = trips_end e opener body (scalar_place (variable_of u name)) (finite.get f.loops opener)
    ends_loop u e opener body While = goes opener
    ends_loop u e opener body NoLoop = tt

    end_by : (u : ProgramUnit) (e : Point) (opener : ℕ) (o : Option Entry) → SeatedOf p x (action.end_by x.execution u e f below opener o)
    end_by u e opener None = tt
    end_by u e opener (Some o) = ends_loop u e opener o.after (action.loop_of o.stmt)

    end_of : (u : ProgramUnit) (e : Point) (o : Option ℕ) → SeatedOf p x (action.end_of x.execution u e f below o)
    end_of u e None = tt
    end_of u e (Some o) = end_by u e o (slice_get u.tree.body o)

    refers : (line : ℕ) (g : Reference) (args : Result (List Actual) Fault) → SeatedOf p x (action.refers x.execution line f below g args)
    refers line (Element i v) args = tt
    refers line (Built g) args = tt
    refers line Unknown args = tt
    refers line (Call n u) (Ok args) = lone _ [] _ _ (λ fine. (tt, seated fine))
    refers line (Call n u) (Err fault) = fails line fault

    calls : (e : Point) (u : Option (ℕ × ProgramUnit)) (args : Result (List Actual) Fault) → SeatedOf p x (action.calls x.execution e f below u args)
    calls e None args = tt
    calls e (Some u) (Err fault) = fails (line_of e) fault
    calls e (Some u) (Ok args) = lone _ [] _ _ (λ fine. (tt, seated fine))

    sent_items : (e : Point) (c : ChanName) (w : ℕ) (items : Result (List Actual) Fault) → SeatedOf p x (action.sent_items e c w items)
    sent_items e c w (Err fault) = fails (line_of e) fault
    sent_items e c w (Ok items) = meets (Send c w items e.entry.after) (record { type_made = tt; sends = λ types fine. tt; goes_on = λ types fine d r made came all. ((fine.0, seated fine), tt) })

    sent : (e : Point) (fields : PortFields) (items : List Actual) (o : Option PortValue) → SeatedOf p x (action.sent e fields o items)
    sent e t items None = fails (line_of e) NullPort
    sent e t items (Some (Reader c)) = fails (line_of e) NullPort
    sent e t items (Some (Writer c w)) = sent_items e c w (action.cut_items [] t items)

    sends : (e : Point) (fields : PortFields) (q : Result Span Fault) (items : Result (List Actual) Fault) → SeatedOf p x (action.sends e fields f q items)
    sends e t (Err fault) items = fails (line_of e) fault
    sends e t (Ok q) (Err fault) = fails (line_of e) fault
    sends e t (Ok q) (Ok items) = sent e t items (port_at f.values q)

    closed : (e : Point) (vs : List Item) (o : Option PortValue) → SeatedOf p x (action.closed x.execution e f below vs o)
    closed e vs None = fails (line_of e) NullPort
    closed e vs (Some v) = lone _ [] _ 1 seated

    closes : (e : Point) (q : Result Span Fault) → SeatedOf p x (action.closes x.execution e f below q)
    closes e (Err fault) = fails (line_of e) fault
    closes e (Ok q) = closed e (emptied_place f.values q).0 (emptied_place f.values q).1

    moves : (e : Point) (r : Result (Span × Span) Fault) → SeatedOf p x (action.moves x.execution e f below r)
    moves e (Err fault) = fails (line_of e) fault
    moves e (Ok r) = lone _ [] _ 1 seated

    make : (places : List Span) (writers cost next : ℕ) → SeatedAsk p x (ask_at p x below f (Make places writers cost next))
    make places writers cost next = record { type_made = tt; sends = λ types fine. tt; goes_on = λ types fine d r made came all. ((fine.0, seated fine), tt) }

    makes : (e : Point) (r : Result (Span × Span) Fault) → SeatedOf p x (action.makes e r)
    makes e (Err fault) = fails (line_of e) fault
    makes e (Ok r) = meets (Make (r.0 ∷ r.1 ∷ []) 1 1 e.entry.after) (make (r.0 ∷ r.1 ∷ []) 1 1 e.entry.after)

    merges : (e : Point) (r : Result (Span × List Span) Fault) → SeatedOf p x (action.merges e r)
    merges e (Err fault) = fails (line_of e) fault
    merges e (Ok r) =
        let n = length (elements_of r.1) in
        meets (Make (r.0 ∷ elements_of r.1) n (1 + n) e.entry.after) (make (r.0 ∷ elements_of r.1) n (1 + n) e.entry.after)

    probes_at : (e : Point) (empty : Span) (o : Option PortValue) → SeatedOf p x (action.probes_at e empty o)
    probes_at e empty None = fails (line_of e) NullPort
    probes_at e empty (Some (Writer c w)) = fails (line_of e) NullPort
    probes_at e empty (Some (Reader c)) =
        meets (Probe c empty e.entry.after) (record { type_made = tt; sends = λ types fine. tt; goes_on = λ types fine d r made came all. ((fine.0, seated fine), tt) })

    probes : (e : Point) (r : Result (Span × Span) Fault) → SeatedOf p x (action.probes e f r)
    probes e (Err fault) = fails (line_of e) fault
    probes e (Ok r) = probes_at e r.1 (port_at f.values r.0)

    taken : (line next : ℕ) (items : List Span) (iostat : Option Span) (to : Option ℕ) (m : Option Message) → IsSeated x
        → IsSeated (received x line below f next items iostat to m).self × AllIn IsSeated (received x line below f next items iostat to m).starts
    taken line next items iostat to (Some m) fine = ((fine.0, seated fine), tt)
    taken line next items None None None fine = (fine, tt)
    taken line next items None (Some n) None fine = ((fine.0, seated fine), tt)
    taken line next items (Some s) to None fine = ((fine.0, seated fine), tt)

    came_with : (line next : ℕ) (items : List Span) (iostat : Option Span) (to : Option ℕ) (exceeds : Bool) (m : Option Message) → IsSeated x
        → IsSeated (steps.met x line below f next items iostat to exceeds m).self × AllIn IsSeated (steps.met x line below f next items iostat to exceeds m).starts
    came_with line next items iostat to true None fine = (fine, tt)
    came_with line next items iostat to true (Some m) fine = taken line next items iostat to (Some m) fine
    came_with line next items iostat to false m fine = taken line next items iostat to m fine

    receives_at : (e : Point) (r : Receiving) (o : Option PortValue) → SeatedOf p x (action.receives_at e r o)
    receives_at e r None = fails (line_of e) NullPort
    receives_at e r (Some (Writer c w)) = fails (line_of e) NullPort
    receives_at e r (Some (Reader c)) =
        meets (Receive c (line_of e) r.2 r.1 e.links.jump e.entry.after) (record { type_made = tt; sends = λ types fine. tt; goes_on = λ types fine d y made came all. came_with (line_of e) e.entry.after r.2 r.1 e.links.jump y.exceeds y.message fine })

    receives : (e : Point) (r : Result Receiving Fault) → SeatedOf p x (action.receives e f r)
    receives e (Err fault) = fails (line_of e) fault
    receives e (Ok r) = receives_at e r (port_at f.values r.0)

    starts_one : (e : Point) (n : ℕ) (u : ProgramUnit) (r : Result (List Actual × Seat) Fault) → (IsSeated x → (y : List Actual × Seat) → r ≡ Ok y → y.1.1 ≡ y.1.0.first) → SeatedOf p x (action.starts_one x.execution e f below n u r)
    starts_one e n u (Err fault) h = fails (line_of e) fault
    starts_one e n u (Ok r) h = lone _ [] _ _ (λ fine. (starts_last f.starts _ (seated fine).0 (h fine r refl), (seated fine).1))

    process_calls : (s : Scope) (e : Point) (u : Option (ℕ × ProgramUnit)) (args : List Tree) (w : Option Where) → SeatedOf p x (action.process_calls x.execution s e f below u args w)
    process_calls s e None args w = tt
    process_calls s e (Some u) args w = starts_one e u.0 u.1 _ (λ fine y is.
        let here : Seat = (x.execution.machine, x.execution.node) in
        let a = parts (actuals_of s (trees_from args) 0) _ y is in
        let b = parts (action.seat_at s x.execution.machine here w (refs_in_all s (trees_from args))) _ y a.2 in
        let d = parts (fitted u.1.names.extents b.0) _ y b.2 in
        let same : (a.0, d.0) ≡ y = the_pair (a.0, d.0) y (d.2) in
        subst (λ (y : List Actual × Seat). y.1.1 ≡ y.1.0.first) same
        (fitted_first u.1.names.extents b.0 d.0 (seat_first s x.execution.machine here w (refs_in_all s (trees_from args)) b.0 fine.0 b.1) d.1))

    begin : SeatedOf p x (Meets Begin)
    begin = meets Begin (record { type_made = tt; sends = λ types fine. tt; goes_on = λ types fine c r made came all. ((fine.0, (tt, (seated fine).1)), children_seated f.starts (seated fine).0) })

    join : (block : ℕ) (kids : List Kid) (next : ℕ) → SeatedOf p x (Meets (Join block kids next))
    join block kids next = meets (Join block kids next) (record { type_made = tt; sends = λ types fine. tt; goes_on = λ types fine c r made came all. ((fine.0, seated fine), tt) })

  gives_back : (f : Frame) (below : List Frame) → x.execution.frames ≡ f ∷ below → SeatedOf p x (action.gives_back x.execution f below)
  gives_back f [] at = ends f [] at
  gives_back f (g ∷ below) at = lone f (g ∷ below) at _ [] _ _ (λ fine. (seated f (g ∷ below) at fine).1)

  results_in : (u : ProgramUnit) (f : Frame) (below : List Frame) → x.execution.frames ≡ f ∷ below → SeatedOf p x (action.results_in x.execution u f below)
  results_in u f [] at = ends f [] at
  results_in u f (g ∷ below) at = lone f (g ∷ below) at _ [] _ _ (λ fine. (seated f (g ∷ below) at fine).1)

  returns : (u : ProgramUnit) (f : Frame) (below : List Frame) → x.execution.frames ≡ f ∷ below → (k : UnitKind) → SeatedOf p x (action.returns x.execution u f below k)
  returns u f below at unit_kind.Program = ends f below at
  returns u f below at unit_kind.Process = ends f below at
  returns u f below at unit_kind.Subroutine = gives_back f below at
  returns u f below at unit_kind.Function = results_in u f below at

  module _ (f : Frame) (below : List Frame) (at : x.execution.frames ≡ f ∷ below) (u : ProgramUnit) (e : Point) where
    references : (t : Tree) → SeatedOf p x (action.reference_step x.execution (line_of e) (scope_of p u f) f below t)
    references (Ref name args) = refers f below at (line_of e) (reference_of (scope_of p u f) name) _
    references (Number k) = tt
    references (Truth b) = tt
    references (Named name) = tt
    references (Paren t) = tt
    references (Signed op t) = tt
    references (Not t) = tt
    references (Binary op a b) = tt

    simple_seated : (s : Scope) (k : Simple) → SeatedOf p x (action.simple_action p x.execution u e f below s k)
    simple_seated s (simple.Assignment v t) = assigns f below at e _ _
    simple_seated s (simple.Goto l) = jumps f below at e.links.jump
    simple_seated s simple.Continue = goes f below at e.entry.after
    simple_seated s simple.Return = returns u f below at (kind_of u)
    simple_seated s simple.Stop = ends f below at
    simple_seated s (simple.Call name args) = calls f below at e (unit_named p name) _
    simple_seated s (simple.Print items) = prints f below at e _
    simple_seated s (simple.Write unit items) = prints f below at e _
    simple_seated s (simple.Channel in_first i o) = makes f below at e _
    simple_seated s (simple.Merger i os) = merges f below at e _
    simple_seated s (simple.Send named q items) = sends f below at e (action.fields_at u q) _ _
    simple_seated s (simple.Receive named q extras items) = receives f below at e _
    simple_seated s (simple.EndChannel named q) = closes f below at e _
    simple_seated s (simple.MovePort from to) = moves f below at e _
    simple_seated s (simple.Probe named q empty) = probes f below at e _

    statement_seated : (s : Scope) (k : Stmt) → SeatedOf p x (action.statement_action p x.execution u e f below s k)
    statement_seated s (stmt.Simple k) = simple_seated s k
    statement_seated s (stmt.LogicalIf t k) = tests f below at e _
    statement_seated s (stmt.BlockIf t) = tests f below at e _
    statement_seated s (stmt.ElseIf t) = tests f below at e _
    statement_seated s stmt.Else = goes f below at e.entry.after
    statement_seated s stmt.EndIf = goes f below at e.entry.after
    statement_seated s (stmt.Do h) = loops f below at e (scalar_place (variable_of u h.variable)) (action.loop_bounds s h)
    statement_seated s (stmt.ProcessDo h) = loops f below at e (scalar_place (variable_of u h.variable)) (action.loop_bounds s h)
    statement_seated s (stmt.DoWhile t) = tests f below at e _
    statement_seated s stmt.EndDo = end_of f below at u e e.entry.mate
    statement_seated s stmt.EndProcessDo = end_of f below at u e e.entry.mate
    statement_seated s stmt.LoopEnd = end_of f below at u e e.entry.mate
    statement_seated s stmt.End = returns u f below at (kind_of u)
    statement_seated s stmt.Processes = goes f below at e.entry.after
    statement_seated s stmt.EndProcesses = begin f below at
    statement_seated s (stmt.ProcessCall name part) = process_calls f below at s e (unit_named p name) _ _
    statement_seated s (stmt.Program name) = tt
    statement_seated s (stmt.Process name formals) = tt
    statement_seated s (stmt.Subroutine name formals) = tt
    statement_seated s (stmt.Function name formals) = tt
    statement_seated s (stmt.IntegerFunction name formals) = tt
    statement_seated s (stmt.LogicalFunction name formals) = tt
    statement_seated s stmt.ImplicitNone = tt
    statement_seated s (stmt.Integer ds) = tt
    statement_seated s (stmt.Logical ds) = tt
    statement_seated s (stmt.Dimension ds) = tt
    statement_seated s (stmt.Parameter ds) = tt
    statement_seated s (stmt.Inport t ds) = tt
    statement_seated s (stmt.Outport t ds) = tt
    statement_seated s (stmt.Intent w names) = tt
    statement_seated s (stmt.Processors es) = tt

    by_seated : (t : Option Tree) → SeatedOf p x (action.action_by p x.execution u e f below t)
    by_seated (Some t) = references t
    by_seated None = statement_seated (scope_of p u f) e.entry.stmt

  point_seated : (f : Frame) (below : List Frame) → x.execution.frames ≡ f ∷ below → (u : ProgramUnit) → (e : Option Point) → SeatedOf p x (action.point_action p x.execution u f below e)
  point_seated f below at u None = tt
  point_seated f below at u (Some e) = by_seated f below at u e (action.next_reference e.entry (length f.results))

  at_seated : (f : Frame) (below : List Frame) → x.execution.frames ≡ f ∷ below → (u : Option ProgramUnit) → SeatedOf p x (action.action_at p x.execution f below u)
  at_seated f below at None = tt
  at_seated f below at (Some u) = point_seated f below at u (point_at u f.entry)

  running_seated : (fs : List Frame) → x.execution.frames ≡ fs → SeatedOf p x (action.running p x.execution fs)
  running_seated [] at = tt
  running_seated (f ∷ below) at = at_seated f below at (unit_at p f.unit)

  joining_seated : (block : ℕ) (kids : List Kid) (fs : List Frame) → x.execution.frames ≡ fs → SeatedOf p x (action.joining p block kids fs)
  joining_seated block kids [] at = tt
  joining_seated block kids (f ∷ below) at = join f below at block kids _

  phase_seated : (phase : Phase) → SeatedOf p x (action_in p x.execution phase)
  phase_seated Running = running_seated x.execution.frames refl
  phase_seated (Joining block kids) = joining_seated block kids x.execution.frames refl
  phase_seated Ended = tt
  phase_seated (Faulted line fault) = tt

pub seated_language : (p : Program) → IsTypedLanguage (language p) (λ (types : NoTypes) (x : Proc). IsSeated x) (λ (types : NoTypes) c m. Prim.Unit {0})
seated_language p = record { goes = λ x. phase_seated p x x.phase; empties = λ types x fine. (fine.0, tt); agrees = λ types others x same fine. fine; message_agrees = λ types others c m at same fits. tt }
