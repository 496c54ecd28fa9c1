-- A process that runs has a next step, where each entry of the program leads on.
use Rattle.std.proofs.Common.{◌≡◌, ℕ, ℤ, pos, Bool, true, false, cond, Option, Some, None, List, [], ◌∷◌, ◌++◌, map, length, Result, Ok, Err, refl, ap, sym, subst, ◌∙◌}
use Rattle.std.specs.Ordering.{int_eq}
use Rattle.std.specs.FinMap as finite
use Rattle.fm_base.specs.declared.fault.Fault.{Fault}
use Rattle.fm_base.specs.declared.fault.Fault.TheVariants.{NullPort, ZeroDivide}
use Rattle.fm_base.specs.declared.output.Printed.{Printed}
use Rattle.fm_base.specs.declared.port.PortValue.{PortValue}
use Rattle.fm_base.specs.declared.port.PortValue.TheVariants.{Writer, Reader}
use Rattle.fm_base.specs.Channels.{Item, Message}
use Rattle.fm_values.specs.Values.{sum}
use Rattle.fm_values.specs.declared.value.Value.{Value}
use Rattle.fm_tree.specs.PortFields.{PortFields}
use Rattle.fm_tree.specs.Tree.{Tree, Number, Truth, Named, Ref, Paren, Signed, Not, Binary}
use Rattle.fm_tree.specs.declared.form.UnitKind.{UnitKind}
use Rattle.fm_tree.specs.declared.form.UnitKind.TheVariants as unit_kind
use Rattle.fm_tree.specs.declared.statement.Where.{Where}
use Rattle.fm_tree.specs.declared.statement.Simple.{Simple}
use Rattle.fm_tree.specs.declared.statement.Simple.TheVariants as simple
use Rattle.fm_tree.specs.declared.statement.Stmt.{Stmt}
use Rattle.fm_tree.specs.declared.statement.Stmt.TheVariants as stmt
use Rattle.fm_rules.proofs.Lists.{some_same}
use Rattle.fm_net.specs.Typed.{AllIn}
use Rattle.fm_net.specs.Machine.{Need, Nothing, New, Children, Reply, Onward, Ask, Stop, Go}
use Rattle.fm_net.specs.Machine as net
use Rattle.fm_base.specs.declared.path.ChanName.{ChanName}
use Rattle.fm_mean.specs.Leads.{IsPoint, Begins, CallsOne, JumpsTo, SimpleLeads, IsALoop, LoopLeads, Both, StatementLeads, ReferenceLeads, EntryLeads, AllLead}
use Rattle.fm_mean.specs.Live.{IsLiveStart, IsLiveFrame, HasFrame, JoinsOn, GoesOn, IsLive}
use Rattle.fm_rules.specs.declared.program.Program.{Program}
use Rattle.fm_mean.specs.Names.{ProgramUnit, Point, unit_at, unit_named, kind_of, variable_of, point_at, line_of}
use Rattle.fm_mean.specs.declared.place.Actual.{Actual}
use Rattle.fm_mean.specs.declared.place.Span.{Span}
use Rattle.fm_mean.specs.Places.{word_at, port_at, emptied_place}
use Rattle.fm_mean.specs.Evaluate.{Scope, Call}
use Rattle.fm_mean.specs.Process.{Start, Frame, Execution, Kid, Phase, Running, Joining, Ended, Faulted, Proc}
use Rattle.fm_map.specs.Placement.{Seat}
use Rattle.fm_mean.specs.Calls.{child_of, ended_frames}
use Rattle.fm_mean.specs.Steps.{ask}
use Rattle.fm_mean.specs.Actions as action
use Rattle.fm_mean.specs.Actions.{Event, Fail, Make, Send, Receive, Probe, Begin, Join, End, Action, Rest, Own, Meets, at_entry, gone_on, Receiving, Loop, Counted, While, NoLoop, scalar_place, action_in, scope_of}
use Rattle.fm_values.specs.Values.{is_true}
use Rattle.fm_values.specs.Trips.{trips}
use Rattle.std.specs.Prelude.{nat_lt, pred, ◌-◌, ◌+◌}
use Rattle.fm_mean.specs.Evaluate.{actuals_of, refs_in_all}
use Rattle.fm_mean.specs.Places.{message_from}
use Rattle.fm_mean.specs.Actions.{after_at, after_in}
use Rattle.fm_mean.specs.Steps.{jump_to, left_with, made, probed}
use Rattle.fm_mean.specs.Steps as steps
use Rattle.fm_mean.specs.Steps.{received, ask_at, ask_event, ask_for}

abbrev pub MayGo : Phase → Type 0
MayGo Running = Unit {0}
MayGo (Joining block kids) = Unit {0}
MayGo Ended = ⊥
MayGo (Faulted line fault) = ⊥

-- who needs children joins them
abbrev pub WaitsSo : Phase → Need → Type 0
WaitsSo phase Nothing = Unit {0}
WaitsSo phase (net.Event c a) = Unit {0}
WaitsSo phase (New n k) = Unit {0}
WaitsSo phase (Children b n) = (kids : List Kid) × (phase ≡ Joining b kids) × (n ≡ length kids)

pub record IsLiveStep (p : Program) (phase : Phase) (need : Need) (f : ChanName → Reply Proc → Onward Proc) : Type 0 where
  pub waits : WaitsSo phase need
  pub goes_on : (c : ChanName) (r : Reply Proc) → IsLive p (f c r).self × AllIn (IsLive p) (f c r).starts

abbrev pub IsLiveAsk : Program → Phase → Ask Proc → Type 0
IsLiveAsk p phase Stop = ⊥
IsLiveAsk p phase (Go need f) = IsLiveStep p phase need f

abbrev PlainOf : Program → Proc → Action → Type 0
PlainOf p x a = IsLiveAsk p x.phase (ask_for p x a)

starts_last : (p : Program) (ss : List Start) (s : Start) → AllIn (IsLiveStart p) ss → Begins p s.unit → AllIn (IsLiveStart p) (ss ++ s ∷ [])
starts_last p [] s all h = (h, tt)
starts_last p (t ∷ ss) s all h = (all.0, starts_last p ss s all.1 h)

children_live : (p : Program) (ss : List Start) → AllIn (IsLiveStart p) ss → AllIn (IsLive p) (map child_of ss)
children_live p [] all = tt
children_live p (s ∷ ss) all = ((((all.0, tt), tt), tt), children_live p ss all.1)

ended_live : (p : Program) (fs : List Frame) → AllIn (IsLiveFrame p) fs → AllIn (IsLiveFrame p) (ended_frames p fs).0
ended_live p [] all = tt
ended_live p (f ∷ []) all = ((all.0.0, tt), tt)
ended_live p (f ∷ g ∷ fs) all = ended_live p (g ∷ fs) all.1

module _ (p : Program) (x : Proc) (runs : x.phase ≡ Running) (all_live : AllIn (IsLiveFrame p) x.execution.frames) where
  on : (fs : List Frame) → HasFrame fs → GoesOn p fs x.phase
  on fs h = subst (GoesOn p fs) (sym runs) h

  lone : (w : Execution) (lines : List (List ℕ)) (drops : List PortValue) (cost : ℕ) → AllIn (IsLiveFrame p) w.frames → HasFrame w.frames → PlainOf p x (Own w lines drops cost)
  lone w lines drops cost h some = record { waits = tt; goes_on = λ c r. ((h, on w.frames some), tt) }

  met : (e : Event) (fs : List Frame) → x.execution.frames ≡ fs → IsLiveAsk p x.phase (ask_event p x e fs) → PlainOf p x (Meets e)
  met e fs at h = subst (λ gs. IsLiveAsk p x.phase (ask_event p x e gs)) (sym at) h

  ends : (f : Frame) (below : List Frame) → x.execution.frames ≡ f ∷ below → PlainOf p x (Meets End)
  ends f below at = met End (f ∷ below) at (record { waits = tt; goes_on = λ c r. ((ended_live p x.execution.frames all_live, tt), tt) })

  module _ (f : Frame) (below : List Frame) (at : x.execution.frames ≡ f ∷ below) (top : IsLiveFrame p f) (rest : AllIn (IsLiveFrame p) below) (u : ProgramUnit) (is_unit : unit_at p f.unit ≡ Some u) where
    meets : (e : Event) → IsLiveAsk p x.phase (ask_at p x below f e) → PlainOf p x (Meets e)
    meets e h = met e (f ∷ below) at h

    fails : (line : ℕ) (fault : Fault) → PlainOf p x (action.fails line fault)
    fails line fault = meets (Fail line fault) (record { waits = tt; goes_on = λ c r. ((all_live, tt), tt) })

    goes : (n : ℕ) → IsPoint u n → PlainOf p x (action.goes_to x.execution below f n)
    goes n pt = lone _ [] [] 1 (((u, is_unit, pt), top.1), rest) tt

    assigns : (e : Point) (s : Result Span Fault) (v : Result Value Fault) → IsPoint u e.entry.after → PlainOf p x (action.assigns x.execution e f below s v)
    assigns e (Err fault) v pt = fails (line_of e) fault
    assigns e (Ok s) (Err fault) pt = fails (line_of e) fault
    assigns e (Ok s) (Ok v) pt = lone _ [] [] 1 (((u, is_unit, pt), top.1), rest) tt

    prints : (e : Point) (v : Result (List Printed) Fault) → IsPoint u e.entry.after → PlainOf p x (action.prints x.execution e f below v)
    prints e (Err fault) pt = fails (line_of e) fault
    prints e (Ok items) pt = lone _ _ [] _ (((u, is_unit, pt), top.1), rest) tt

    either : (b : Bool) (e : Point) → Both u e → PlainOf p x (action.goes_to x.execution below f (cond b e.entry.after e.links.other))
    either true e pts = goes e.entry.after pts.0
    either false e pts = goes e.links.other pts.1

    tests : (e : Point) (v : Result Value Fault) → Both u e → PlainOf p x (action.tests x.execution e f below v)
    tests e (Err fault) pts = fails (line_of e) fault
    tests e (Ok v) pts = either (is_true v) e pts

    one_of : (b : Bool) (n m : ℕ) → IsPoint u n → IsPoint u m → IsPoint u (cond b n m)
    one_of true n m h g = h
    one_of false n m h g = g

    begins : (b : Bool) (e : Point) (w : Execution) → AllIn (IsLiveFrame p) w.frames → HasFrame w.frames → PlainOf p x (cond b (action.fails (line_of e) ZeroDivide) (Own w [] [] 1))
    begins true e w h some = fails (line_of e) ZeroDivide
    begins false e w h some = lone w [] [] 1 h some

    loops : (e : Point) (s : Span) (m : Result (ℤ × ℤ × ℤ) Fault) → Both u e → PlainOf p x (action.loops x.execution e f below s m)
    loops e s (Err fault) pts = fails (line_of e) fault
    loops e s (Ok m) pts = begins (int_eq m.2 (pos 0)) e _ (((u, is_unit, one_of (nat_lt 0 (trips m.0 m.1 m.2)) e.entry.after e.links.other pts.0 pts.1), top.1), rest) tt

    adds : (e : Point) (opener body : ℕ) (s : Span) (count : ℕ) (by : ℤ) (v : Result ℤ Fault) → IsPoint u body → IsPoint u e.entry.after → PlainOf p x (action.adds x.execution e f below opener body s count by v)
    adds e opener body s count by (Err fault) h g = fails (line_of e) fault
    adds e opener body s count by (Ok n) h g = lone _ [] [] 1 (((u, is_unit, one_of (nat_lt 0 (pred count)) body e.entry.after h g), top.1), rest) tt

    turns : (e : Point) (opener body : ℕ) (s : Span) (l : Option (ℕ × ℤ)) → IsPoint u body → IsPoint u e.entry.after → PlainOf p x (action.loop_trips x.execution e f below opener body s l)
    turns e opener body s None h g = goes e.entry.after g
    turns e opener body s (Some l) h g = adds e opener body s l.0 l.1 (sum (word_at f.values s) l.1) h g

    ends_loop : (e : Point) (opener body : ℕ) (l : Loop) → IsALoop l → IsPoint u opener → IsPoint u body → IsPoint u e.entry.after → PlainOf p x (action.ends_loop x.execution u e f below opener body l)
    ends_loop e opener body (Counted name) is a h g = turns e opener body (scalar_place (variable_of u name)) (finite.get f.loops opener) h g
    ends_loop e opener body While is a h g = goes opener a
    ends_loop e opener body NoLoop is a h g = absurd is

    end_of : (e : Point) → LoopLeads u e → PlainOf p x (action.loop_end x.execution u e f below)
    end_of e l =
        subst (λ o. PlainOf p x (action.end_of x.execution u e f below o)) (sym l.mate)
        (subst (λ o. PlainOf p x (action.end_by x.execution u e f below l.opener o)) (sym l.there)
        (ends_loop e l.opener l.opens.after (action.loop_of l.opens.stmt) l.loop l.again l.inside l.behind))

    refers : (line : ℕ) (n : ℕ) (c : ProgramUnit) (args : Result (List Actual) Fault) → Begins p n → PlainOf p x (action.refers x.execution line f below (Call n c) args)
    refers line n c (Ok args) h = lone _ [] _ _ ((h, tt), (top, rest)) tt
    refers line n c (Err fault) h = fails line fault

    calls : (e : Point) (o : Option (ℕ × ProgramUnit)) (args : Result (List Actual) Fault) → CallsOne p o → IsPoint u e.entry.after → PlainOf p x (action.calls x.execution e f below o args)
    calls e None args h pt = absurd (cc h.1)
    calls e (Some v) (Err fault) h pt = fails (line_of e) fault
    calls e (Some v) (Ok args) h pt = lone _ [] _ _ ((subst (Begins p) (ap (λ (v : ℕ × ProgramUnit). v.0) (some_same h.0 v (sym h.1))) h.2, tt), (((u, is_unit, pt), top.1), rest)) tt

    sent_items : (e : Point) (c : ChanName) (w : ℕ) (items : Result (List Actual) Fault) → IsPoint u e.entry.after → PlainOf p x (action.sent_items e c w items)
    sent_items e c w (Err fault) pt = fails (line_of e) fault
    sent_items e c w (Ok items) pt = meets (Send c w items e.entry.after) (record { waits = tt; goes_on = λ d r. (((((u, is_unit, pt), top.1), rest), on (left_with x below f e.entry.after (message_from f.values items)).self.execution.frames tt), tt) })

    sent : (e : Point) (fields : PortFields) (items : List Actual) (o : Option PortValue) → IsPoint u e.entry.after → PlainOf p x (action.sent e fields o items)
    sent e t items None pt = fails (line_of e) NullPort
    sent e t items (Some (Reader c)) pt = fails (line_of e) NullPort
    sent e t items (Some (Writer c w)) pt = sent_items e c w (action.cut_items [] t items) pt

    sends : (e : Point) (fields : PortFields) (q : Result Span Fault) (items : Result (List Actual) Fault) → IsPoint u e.entry.after → PlainOf p x (action.sends e fields f q items)
    sends e t (Err fault) items pt = fails (line_of e) fault
    sends e t (Ok q) (Err fault) pt = fails (line_of e) fault
    sends e t (Ok q) (Ok items) pt = sent e t items (port_at f.values q) pt

    closed : (e : Point) (vs : List Item) (o : Option PortValue) → IsPoint u e.entry.after → PlainOf p x (action.closed x.execution e f below vs o)
    closed e vs None pt = fails (line_of e) NullPort
    closed e vs (Some v) pt = lone _ [] _ 1 (((u, is_unit, pt), top.1), rest) tt

    closes : (e : Point) (q : Result Span Fault) → IsPoint u e.entry.after → PlainOf p x (action.closes x.execution e f below q)
    closes e (Err fault) pt = fails (line_of e) fault
    closes e (Ok q) pt = closed e (emptied_place f.values q).0 (emptied_place f.values q).1 pt

    moves : (e : Point) (r : Result (Span × Span) Fault) → IsPoint u e.entry.after → PlainOf p x (action.moves x.execution e f below r)
    moves e (Err fault) pt = fails (line_of e) fault
    moves e (Ok r) pt = lone _ [] _ 1 (((u, is_unit, pt), top.1), rest) tt

    makes : (e : Point) (r : Result (Span × Span) Fault) → IsPoint u e.entry.after → PlainOf p x (action.makes e r)
    makes e (Err fault) pt = fails (line_of e) fault
    makes e (Ok r) pt = meets (Make (r.0 ∷ r.1 ∷ []) 1 1 e.entry.after) (record { waits = tt; goes_on = λ d y. (((((u, is_unit, pt), top.1), rest), on (made x below f e.entry.after (r.0 ∷ r.1 ∷ []) 1 1 d).self.execution.frames tt), tt) })

    merges : (e : Point) (r : Result (Span × List Span) Fault) → IsPoint u e.entry.after → PlainOf p x (action.merges e r)
    merges e (Err fault) pt = fails (line_of e) fault
    merges e (Ok r) pt = meets (Make (r.0 ∷ action.elements_of r.1) (length (action.elements_of r.1)) (1 + length (action.elements_of r.1)) e.entry.after) (record { waits = tt; goes_on = λ d y. (((((u, is_unit, pt), top.1), rest), on (made x below f e.entry.after (r.0 ∷ action.elements_of r.1) (length (action.elements_of r.1)) (1 + length (action.elements_of r.1)) d).self.execution.frames tt), tt) })

    unwrapped : (o : Option ℕ) (n : ℕ) → JumpsTo u o → IsPoint u n → IsPoint u (jump_to n o)
    unwrapped None n h pt = pt
    unwrapped (Some m) n h pt = h m refl

    taken : (line next : ℕ) (items : List Span) (iostat : Option Span) (to : Option ℕ) (m : Option Message) → JumpsTo u to → IsPoint u next
        → IsLive p (received x line below f next items iostat to m).self × AllIn (IsLive p) (received x line below f next items iostat to m).starts
    taken line next items iostat to (Some m) h pt = (((((u, is_unit, pt), top.1), rest), on (received x line below f next items iostat to (Some m)).self.execution.frames tt), tt)
    taken line next items None None None h pt = ((all_live, tt), tt)
    taken line next items None (Some n) None h pt = (((((u, is_unit, h n refl), top.1), rest), on (received x line below f next items None (Some n) None).self.execution.frames tt), tt)
    taken line next items (Some s) to None h pt = (((((u, is_unit, unwrapped to next h pt), top.1), rest), on (received x line below f next items (Some s) to None).self.execution.frames tt), tt)

    came : (line next : ℕ) (items : List Span) (iostat : Option Span) (to : Option ℕ) (exceeds : Bool) (m : Option Message) → JumpsTo u to → IsPoint u next
        → IsLive p (steps.met x line below f next items iostat to exceeds m).self × AllIn (IsLive p) (steps.met x line below f next items iostat to exceeds m).starts
    came line next items iostat to true None h pt = ((all_live, tt), tt)
    came line next items iostat to true (Some m) h pt = taken line next items iostat to (Some m) h pt
    came line next items iostat to false m h pt = taken line next items iostat to m h pt

    receives_at : (e : Point) (r : Receiving) (o : Option PortValue) → JumpsTo u e.links.jump → IsPoint u e.entry.after → PlainOf p x (action.receives_at e r o)
    receives_at e r None h pt = fails (line_of e) NullPort
    receives_at e r (Some (Writer c w)) h pt = fails (line_of e) NullPort
    receives_at e r (Some (Reader c)) h pt = meets (Receive c (line_of e) r.2 r.1 e.links.jump e.entry.after) (record { waits = tt; goes_on = λ d y. came (line_of e) e.entry.after r.2 r.1 e.links.jump y.exceeds y.message h pt })

    receives : (e : Point) (r : Result Receiving Fault) → JumpsTo u e.links.jump → IsPoint u e.entry.after → PlainOf p x (action.receives e f r)
    receives e (Err fault) h pt = fails (line_of e) fault
    receives e (Ok r) h pt = receives_at e r (port_at f.values r.0) h pt

    probes_at : (e : Point) (empty : Span) (o : Option PortValue) → IsPoint u e.entry.after → PlainOf p x (action.probes_at e empty o)
    probes_at e empty None pt = fails (line_of e) NullPort
    probes_at e empty (Some (Writer c w)) pt = fails (line_of e) NullPort
    probes_at e empty (Some (Reader c)) pt = meets (Probe c empty e.entry.after) (record { waits = tt; goes_on = λ d r. (((((u, is_unit, pt), top.1), rest), on (probed x below f e.entry.after empty r.waits).self.execution.frames tt), tt) })

    probes : (e : Point) (r : Result (Span × Span) Fault) → IsPoint u e.entry.after → PlainOf p x (action.probes e f r)
    probes e (Err fault) pt = fails (line_of e) fault
    probes e (Ok r) pt = probes_at e r.1 (port_at f.values r.0) pt

    starts_one : (e : Point) (n : ℕ) (v : ProgramUnit) (r : Result (List Actual × Seat) Fault) → Begins p n → IsPoint u e.entry.after → PlainOf p x (action.starts_one x.execution e f below n v r)
    starts_one e n v (Err fault) h pt = fails (line_of e) fault
    starts_one e n v (Ok r) h pt = lone _ [] _ _ (((u, is_unit, pt), starts_last p f.starts _ top.1 h), rest) tt

    process_calls : (s : Scope) (e : Point) (o : Option (ℕ × ProgramUnit)) (args : List Tree) (w : Option Where) → CallsOne p o → IsPoint u e.entry.after → PlainOf p x (action.process_calls x.execution s e f below o args w)
    process_calls s e None args w h pt = absurd (cc h.1)
    process_calls s e (Some v) args w h pt = starts_one e v.0 v.1 _ (subst (Begins p) (ap (λ (v : ℕ × ProgramUnit). v.0) (some_same h.0 v (sym h.1))) h.2) pt

    begin : (e : Point) → point_at u f.entry ≡ Some e → IsPoint u e.entry.after → PlainOf p x (Meets Begin)
    begin e there pt =
        let behind : after_at (unit_at p f.unit) f.entry ≡ e.entry.after = ap (λ o. after_at o f.entry) is_unit ∙ ap after_in there in
        meets Begin (record { waits = tt; goes_on = λ c r. ((((top.0, tt), rest), (u, is_unit, subst (IsPoint u) (sym behind) pt)), children_live p f.starts top.1) })

  gives_back : (f : Frame) (below : List Frame) → x.execution.frames ≡ f ∷ below → AllIn (IsLiveFrame p) below → PlainOf p x (action.gives_back x.execution f below)
  gives_back f [] at rest = ends f [] at
  gives_back f (g ∷ below) at rest = lone _ [] _ _ rest tt

  results_in : (u : ProgramUnit) (f : Frame) (below : List Frame) → x.execution.frames ≡ f ∷ below → AllIn (IsLiveFrame p) below → PlainOf p x (action.results_in x.execution u f below)
  results_in u f [] at rest = ends f [] at
  results_in u f (g ∷ below) at rest = lone _ [] _ _ rest tt

  returns : (u : ProgramUnit) (f : Frame) (below : List Frame) → x.execution.frames ≡ f ∷ below → AllIn (IsLiveFrame p) below → (k : UnitKind) → PlainOf p x (action.returns x.execution u f below k)
  returns u f below at rest unit_kind.Program = ends f below at
  returns u f below at rest unit_kind.Process = ends f below at
  returns u f below at rest unit_kind.Subroutine = gives_back f below at rest
  returns u f below at rest unit_kind.Function = results_in u f below at rest

  module _ (leads : AllLead p) (f : Frame) (below : List Frame) (at : x.execution.frames ≡ f ∷ below) (top : IsLiveFrame p f) (rest : AllIn (IsLiveFrame p) below) (u : ProgramUnit) (is_unit : unit_at p f.unit ≡ Some u) (e : Point) (there : point_at u f.entry ≡ Some e) where
    here : EntryLeads p u e
    here = leads f.unit u f.entry e is_unit there

    references : (n : ℕ) (t : Tree) → ReferenceLeads p (scope_of p u f) t → PlainOf p x (action.reference_step x.execution (line_of e) (scope_of p u f) f below t)
    references n (Ref name args) h =
        subst (λ g. PlainOf p x (action.refers x.execution (line_of e) f below g (actuals_of (scope_of p u f) args (length f.results - refs_in_all (scope_of p u f) args)))) (sym h.2) (refers f below at top rest u is_unit (line_of e) h.0 h.1 _ h.3)
    references n (Number k) h = absurd h
    references n (Truth b) h = absurd h
    references n (Named name) h = absurd h
    references n (Paren t) h = absurd h
    references n (Signed op t) h = absurd h
    references n (Not t) h = absurd h
    references n (Binary op a b) h = absurd h

    jumps : (o : Option ℕ) → ((n : ℕ) × (o ≡ Some n) × IsPoint u n) → PlainOf p x (action.jumps x.execution below f o)
    jumps None h = absurd (cc h.1)
    jumps (Some n) h = goes f below at top rest u is_unit n (subst (IsPoint u) (some_same h.0 n (sym h.1)) h.2)

    simple_live : (s : Scope) (k : Simple) → SimpleLeads p u e k → PlainOf p x (action.simple_action p x.execution u e f below s k)
    simple_live s (simple.Assignment v t) h = assigns f below at top rest u is_unit e _ _ h
    simple_live s (simple.Goto l) h = jumps e.links.jump h
    simple_live s simple.Continue h = goes f below at top rest u is_unit e.entry.after h
    simple_live s simple.Return h = returns u f below at rest (kind_of u)
    simple_live s simple.Stop h = ends f below at
    simple_live s (simple.Call name args) h = calls f below at top rest u is_unit e (unit_named p name) _ h.0 h.1
    simple_live s (simple.Print items) h = prints f below at top rest u is_unit e _ h
    simple_live s (simple.Write unit items) h = prints f below at top rest u is_unit e _ h
    simple_live s (simple.Channel in_first i o) h = makes f below at top rest u is_unit e _ h
    simple_live s (simple.Merger i os) h = merges f below at top rest u is_unit e _ h
    simple_live s (simple.Send named q items) h = sends f below at top rest u is_unit e (action.fields_at u q) _ _ h
    simple_live s (simple.Receive named q extras items) h = receives f below at top rest u is_unit e _ h.0 h.1
    simple_live s (simple.EndChannel named q) h = closes f below at top rest u is_unit e _ h
    simple_live s (simple.MovePort from to) h = moves f below at top rest u is_unit e _ h
    simple_live s (simple.Probe named q empty) h = probes f below at top rest u is_unit e _ h

    statement_live : (s : Scope) (k : Stmt) → StatementLeads p u e k → PlainOf p x (action.statement_action p x.execution u e f below s k)
    statement_live s (stmt.Simple k) h = simple_live s k h
    statement_live s (stmt.LogicalIf t k) h = tests f below at top rest u is_unit e _ h
    statement_live s (stmt.BlockIf t) h = tests f below at top rest u is_unit e _ h
    statement_live s (stmt.ElseIf t) h = tests f below at top rest u is_unit e _ h
    statement_live s stmt.Else h = goes f below at top rest u is_unit e.entry.after h
    statement_live s stmt.EndIf h = goes f below at top rest u is_unit e.entry.after h
    statement_live s (stmt.Do l) h = loops f below at top rest u is_unit e (scalar_place (variable_of u l.variable)) (action.loop_bounds s l) h
    statement_live s (stmt.ProcessDo l) h = loops f below at top rest u is_unit e (scalar_place (variable_of u l.variable)) (action.loop_bounds s l) h
    statement_live s (stmt.DoWhile t) h = tests f below at top rest u is_unit e _ h
    statement_live s stmt.EndDo h = end_of f below at top rest u is_unit e h
    statement_live s stmt.EndProcessDo h = end_of f below at top rest u is_unit e h
    statement_live s stmt.LoopEnd h = end_of f below at top rest u is_unit e h
    statement_live s stmt.End h = returns u f below at rest (kind_of u)
    statement_live s stmt.Processes h = goes f below at top rest u is_unit e.entry.after h
    statement_live s stmt.EndProcesses h = begin f below at top rest u is_unit e there h
    statement_live s (stmt.ProcessCall name part) h = process_calls f below at top rest u is_unit s e (unit_named p name) _ _ h.0 h.1
    statement_live s (stmt.Program name) h = absurd h
    statement_live s (stmt.Process name formals) h = absurd h
    statement_live s (stmt.Subroutine name formals) h = absurd h
    statement_live s (stmt.Function name formals) h = absurd h
    statement_live s (stmt.IntegerFunction name formals) h = absurd h
    statement_live s (stmt.LogicalFunction name formals) h = absurd h
    statement_live s stmt.ImplicitNone h = absurd h
    statement_live s (stmt.Integer ds) h = absurd h
    statement_live s (stmt.Logical ds) h = absurd h
    statement_live s (stmt.Dimension ds) h = absurd h
    statement_live s (stmt.Parameter ds) h = absurd h
    statement_live s (stmt.Inport t ds) h = absurd h
    statement_live s (stmt.Outport t ds) h = absurd h
    statement_live s (stmt.Intent w names) h = absurd h
    statement_live s (stmt.Processors es) h = absurd h

    by_live : (n : ℕ) (t : Option Tree) → action.next_reference e.entry n ≡ t → PlainOf p x (action.action_by p x.execution u e f below t)
    by_live n (Some t) is = references n t (here.references n t f is)
    by_live n None is = statement_live (scope_of p u f) e.entry.stmt here.statement

    point_live : PlainOf p x (action.action_at p x.execution f below (unit_at p f.unit))
    point_live =
        subst (λ o. PlainOf p x (action.action_at p x.execution f below o)) (sym is_unit)
        (subst (λ o. PlainOf p x (action.point_action p x.execution u f below o)) (sym there) (by_live (length f.results) (action.next_reference e.entry (length f.results)) refl))

  running_live : AllLead p → (fs : List Frame) → x.execution.frames ≡ fs → AllIn (IsLiveFrame p) fs → HasFrame fs → PlainOf p x (action.running p x.execution fs)
  running_live leads [] at all some = absurd some
  running_live leads (f ∷ below) at all some = let u = all.0.0 in point_live leads f below at all.0 all.1 u.0 u.1 u.2.0 u.2.1

-- who joins goes on behind its block
joining_live : (p : Program) (x : Proc) (block : ℕ) (kids : List Kid) → x.phase ≡ Joining block kids → (fs : List Frame) → x.execution.frames ≡ fs → AllIn (IsLiveFrame p) fs → JoinsOn p fs → PlainOf p x (action.joining p block kids fs)
joining_live p x block kids joins [] at all h = absurd h
joining_live p x block kids joins (f ∷ below) at all h =
    subst (λ gs. IsLiveAsk p x.phase (ask_event p x (Join block kids (after_at (unit_at p f.unit) f.entry)) gs)) (sym at) (record { waits = (kids, joins, refl); goes_on = λ c r. (((((h.0, h.1, h.2), all.0.1), all.1), tt), tt) })

phase_live : (p : Program) → AllLead p → (x : Proc) → IsLive p x → (phase : Phase) → x.phase ≡ phase → GoesOn p x.execution.frames phase → MayGo phase → PlainOf p x (action_in p x.execution phase)
phase_live p leads x live Running is h may = running_live p x is live.0 leads x.execution.frames refl live.0 h
phase_live p leads x live (Joining block kids) is h may = joining_live p x block kids is x.execution.frames refl live.0 h
phase_live p leads x live Ended is h may = absurd may
phase_live p leads x live (Faulted line fault) is h may = absurd may

-- a process that hasn't ended or faulted asks for something, and goes on as such a one
pub has_next : (p : Program) → AllLead p → (x : Proc) → IsLive p x → MayGo x.phase → IsLiveAsk p x.phase (ask p x)
has_next p leads x live may = phase_live p leads x live x.phase refl live.1 may
