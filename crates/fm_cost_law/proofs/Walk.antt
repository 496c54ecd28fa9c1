-- Each step of a program whose statements are small keeps words of 64 bits, and what it costs is bounded.
use Rattle.std.proofs.Common.{◌≡◌, ◌⊎◌, inl, inr, ℕ, ℤ, pos, ◌+◌, ◌≤◌, Bool, true, false, cond, Option, Some, None, List, [], ◌∷◌, ◌++◌, map, length, slice_get, Result, Ok, Err, refl, sym, ap, subst, arith}
use Rattle.std.specs.Prelude.{◌+ℤ◌, option_and_then}
use Rattle.std.specs.FinMap as finite
use Rattle.std.specs.FinMap.{get}
use Rattle.std.specs.Ordering.{int_eq}
use Rattle.fm_base.specs.Channels.{Item, Look, Message, Pop, Push}
use Rattle.fm_base.specs.Output.{line_text}
use Rattle.fm_base.specs.declared.fault.Fault.{Fault}
use Rattle.fm_base.specs.declared.fault.Fault.TheVariants.{NullPort, ZeroDivide}
use Rattle.fm_base.specs.declared.output.Printed.{Printed}
use Rattle.fm_base.specs.declared.path.ChanName.{ChanName}
use Rattle.fm_base.specs.declared.port.PortValue.{PortValue}
use Rattle.fm_base.specs.declared.port.PortValue.TheVariants.{Writer, Reader}
use Rattle.fm_map.specs.Placement.{Seat, fitted}
use Rattle.fm_values.specs.Values.{sum, truth_word, word_of}
use Rattle.fm_values.specs.declared.value.Value.{Value}
use Rattle.fm_tree.specs.PortFields.{PortFields}
use Rattle.fm_tree.specs.Tree.{Tree, Number, Truth, Named, Ref, Paren, Signed, Not, Binary, trees_from}
use Rattle.fm_tree.specs.References.{reference_at}
use Rattle.fm_tree.specs.declared.form.UnitKind.{UnitKind}
use Rattle.fm_tree.specs.declared.form.UnitKind.TheVariants as unit_kind
use Rattle.fm_tree.specs.declared.program_unit.Entry.{Entry}
use Rattle.fm_tree.specs.declared.statement.CallPart.{CallPart}
use Rattle.fm_tree.specs.declared.statement.LoopHead.{LoopHead}
use Rattle.fm_tree.specs.declared.statement.Where.{Where}
use Rattle.fm_tree.specs.declared.statement.Simple.{Simple}
use Rattle.fm_tree.specs.declared.statement.Simple.TheVariants as simple
use Rattle.fm_tree.specs.declared.statement.Stmt.{Stmt}
use Rattle.fm_tree.specs.declared.statement.Stmt.TheVariants as stmt
use Rattle.fm_net.specs.Machine as net
use Rattle.fm_net.specs.Machine.{Need, Nothing, New, Children, Reply, Onward, Ask, Stop, Go}
use Rattle.fm_net.specs.Typed.{AllIn}
use Rattle.fm_net.specs.Lawful.{ports_from}
use Rattle.fm_rules.specs.Links.{links_of}
use Rattle.fm_rules.specs.declared.program.Program.{Program}
use Rattle.fm_mean.specs.Operands.{◌>>=◌}
use Rattle.fm_mean.specs.Names.{ProgramUnit, Point, context, unit_at, unit_named, kind_of, result_variable, variable_of, point_at, line_of}
use Rattle.fm_mean.specs.declared.place.Actual.{Actual}
use Rattle.fm_mean.specs.declared.place.Back.{Back}
use Rattle.fm_mean.specs.declared.place.Span.{Span}
use Rattle.fm_mean.specs.Places.{Returned, emptied_place, message_from, placed_all, port_at, put_port, returned, stored_all, word_at}
use Rattle.fm_mean.specs.Evaluate.{Scope, Reference, Element, Call, Built, Unknown, reference_of, refs_in, refs_in_all, refs_in_var, number_of, actuals_of}
use Rattle.fm_mean.specs.Process.{Start, Frame, framed, Kid, Phase, Running, Joining, Ended, Faulted, Proc, frame_ports, started_ports}
use Rattle.fm_mean.specs.Calls.{back_words, backs_of, child_of, entered, new_frame}
use Rattle.fm_mean.specs.Actions as action
use Rattle.fm_mean.specs.Actions.{Event, Fail, Make, Send, Receive, Probe, Begin, Join, End, Action, Rest, Own, Meets, at_entry, Receiving, Loop, Counted, While, NoLoop, scalar_place, action_in, action_of, arguments_in, elements_of, next_reference, trees_in}
use Rattle.fm_mean.specs.Owed.{frames_owe, phase_owes, owed, IsQuiet}
use Rattle.fm_mean.specs.Steps as steps
use Rattle.fm_mean.specs.Steps.{received, ask_at, ask_event, ask_for, with_status}
use Rattle.fm_mean.specs.TypedTrees.{StatementHasTypes}
use Rattle.fm_mean.proofs.BackWords.{backs_small, unit_small}
use Rattle.fm_mean.proofs.JudgedReferences.{reference_calls}
use Rattle.fm_mean.proofs.Machines.{entry_there, named_unit}
use Rattle.fm_mean.proofs.ProgramMeanings.{program_has_types}
use Rattle.fm_mean.proofs.Sorts.{parts}
use Rattle.fm_mean.specs.TypedTrees.{IsIn}
use Rattle.fm_cost_law.specs.Words.{IsWord, HaveWords, StartHasWords, FrameHasWords, ProcessHasWords}
use Rattle.fm_cost_law.specs.Steps.{IsOutsideBlocks}
use Rattle.fm_cost_law.proofs.Cuts.{cut_words}
use Rattle.fm_cost_law.proofs.Lists.{all_joined, in_all}
use Rattle.fm_cost_law.proofs.Kept.{ActualHasWords, BothHaveWords, ended_words, entered_words, exchange_words, kids_words, message_has_words, placed_words, returned_words, status_words, stored_all_words, word_here, written_words}
use Rattle.fm_cost_law.proofs.Values.{ConstantsHaveWords, Fine, Any, ScopeHasWords, ValueHasWord, actuals_small, any_fine, in_range_word, number_small, then_fine, truth_is_word, value_small, value_word}
use Rattle.fm_cost_law.proofs.Spelled.{StatementIsSmall, TreeIsSmall, arguments_small, assigned_small, call_small, loop_parts, LoopIsSmall, merged_small, print_small, send_small, start_small, statement_applied, write_small, behind_small}
use Rattle.fm_cost_law.proofs.Printed.{line_few, line_few_listed}
use Rattle.fm_cost_law.proofs.Outports.{outports_few}

-- statements and constants of a program that was read
pub record ProgramIsSmall (p : Program) : Type 0 where
  pub entries : (n : ℕ) (u : ProgramUnit) (i : ℕ) (e : Entry) → unit_at p n ≡ Some u → slice_get u.tree.body i ≡ Some e → StatementIsSmall e.stmt
  pub constants : (n : ℕ) (u : ProgramUnit) → unit_at p n ≡ Some u → ConstantsHaveWords u

-- a step that prints a line or makes a channel
abbrev pub IsLoud : Action → Type 0
IsLoud Rest = ⊥
IsLoud (Own after [] drops cost) = ⊥
IsLoud (Own after (l ∷ ls) drops cost) = Unit {0}
IsLoud (Meets (Fail line fault)) = ⊥
IsLoud (Meets (Make places writers cost next)) = Unit {0}
IsLoud (Meets (Send channel writer items next)) = ⊥
IsLoud (Meets (Receive channel line items iostat at_end next)) = ⊥
IsLoud (Meets (Probe channel place next)) = ⊥
IsLoud (Meets Begin) = ⊥
IsLoud (Meets (Join block kids next)) = ⊥
IsLoud (Meets End) = ⊥

abbrev pub most : ℕ
most = 2147483647

-- what is sent
abbrev pub SendsWords : Need → Type 0
SendsWords Nothing = Unit {0}
SendsWords (net.Event c (Push w m)) = HaveWords m
SendsWords (net.Event c (Pop limits)) = Unit {0}
SendsWords (net.Event c Look) = Unit {0}
SendsWords (New n k) = Unit {0}
SendsWords (Children b n) = Unit {0}

-- and what comes
abbrev pub CameWords : Need → Option Message → Type 0
CameWords Nothing r = Unit {0}
CameWords (net.Event c a) r = (m : Message) → r ≡ Some m → HaveWords m
CameWords (New n k) r = Unit {0}
CameWords (Children b n) r = Unit {0}

-- the cost is small, or the step is quiet and the process owes no less
abbrev pub CostsFew : Proc → Type 0 → Onward Proc → Type 0
CostsFew x quiet o = (o.cost ≤ most) ⊎ (quiet × (owed x ≤ owed o.self))

pub record IsSmallStep (x : Proc) (outside loud quiet : Type 0) (need : Need) (f : ChanName → Reply Proc → Onward Proc) : Type 0 where
  pub sends : SendsWords need
  pub goes_on : (c : ChanName) (r : Reply Proc) → CameWords need r.message → AllIn ProcessHasWords r.children → ProcessHasWords (f c r).self × AllIn ProcessHasWords (f c r).starts
  pub costs : outside → (c : ChanName) (r : Reply Proc) → CostsFew x quiet (f c r)
  pub owes : loud → (c : ChanName) (r : Reply Proc) → ((f c r).cost ≤ most) × (owed (f c r).self ≤ owed x)

abbrev pub SmallAsk : Proc → (outside loud quiet : Type 0) → Ask Proc → Type 0
SmallAsk x outside loud quiet Stop = Unit {0}
SmallAsk x outside loud quiet (Go need f) = IsSmallStep x outside loud quiet need f

abbrev pub SmallOf : Program → Proc → Action → Type 0
SmallOf p x a = SmallAsk x (IsOutsideBlocks a) (IsLoud a) (IsQuiet a) (ask_for p x a)

-- a call gives back few words
abbrev IsFewCall : ProgramUnit → List Actual → Type 0
IsFewCall u args = (back_words (backs_of u args) ≤ 65536) × (u.names.words ≤ 65536)

module _ (p : Program) (x : Proc) (fine : ProcessHasWords x) where
  abbrev EventIsSmall : Event → Ask Proc → Type 0
  EventIsSmall e a = SmallAsk x (IsOutsideBlocks (Meets e)) (IsLoud (Meets e)) (IsQuiet (Meets e)) a

  met : (e : Event) (fs : List Frame) → x.execution.frames ≡ fs → EventIsSmall e (ask_event p x e fs) → SmallOf p x (Meets e)
  met e fs at h = subst (λ gs. EventIsSmall e (ask_event p x e gs)) (sym at) h

  ends : (f : Frame) (below : List Frame) → x.execution.frames ≡ f ∷ below → SmallOf p x (Meets End)
  ends f below at = met End (f ∷ below) at (record { sends = tt; goes_on = λ c r came kids. (ended_words p x.execution.frames fine, tt); costs = λ q c r. inl (omega arith); owes = λ q c r. absurd q })

  module _ (f : Frame) (below : List Frame) (at : x.execution.frames ≡ f ∷ below) where
    all : AllIn FrameHasWords (f ∷ below)
    all = subst (AllIn FrameHasWords) at fine

    abbrev top : FrameHasWords f
    top = all.0

    -- the frame with other values, at another entry
    with_values : (vs : List Item) → HaveWords vs → (n : ℕ) → FrameHasWords (at_entry (record f { values = vs }) n)
    with_values vs h n = record { values = h; results = tt; starts = top.starts; few = top.few }

    moved_on : (n : ℕ) → FrameHasWords (at_entry f n)
    moved_on n = record { values = top.values; results = tt; starts = top.starts; few = top.few }

    own : (fs : List Frame) (drops : List PortValue) (cost : ℕ) → AllIn FrameHasWords fs → cost ≤ most → SmallOf p x (Own (framed x.execution fs) [] drops cost)
    own fs drops cost h few = record { sends = tt; goes_on = λ c r came kids. (h, tt); costs = λ q c r. inl few; owes = λ q c r. absurd q }

    meets : (e : Event) → EventIsSmall e (ask_at p x below f e) → SmallOf p x (Meets e)
    meets e h = met e (f ∷ below) at h

    fails : (line : ℕ) (fault : Fault) → SmallOf p x (action.fails line fault)
    fails line fault = meets (Fail line fault) (record { sends = tt; goes_on = λ c r came kids. (fine, tt); costs = λ q c r. inl (omega arith); owes = λ q c r. absurd q })

    goes : (n : ℕ) → SmallOf p x (action.goes_to x.execution below f n)
    goes n = own (at_entry f n ∷ below) [] 1 (moved_on n, all.1) (omega arith)

    jumps : (n : Option ℕ) → SmallOf p x (action.jumps x.execution below f n)
    jumps None = tt
    jumps (Some n) = goes n

    assigns : (e : Point) (s : Result Span Fault) (v : Result Value Fault) → Fine ValueHasWord v → SmallOf p x (action.assigns x.execution e f below s v)
    assigns e (Err fault) v h = fails (line_of e) fault
    assigns e (Ok s) (Err fault) h = fails (line_of e) fault
    assigns e (Ok s) (Ok v) h = own _ [] 1 (with_values _ (written_words f.values s (word_of v ∷ []) top.values (value_word v h, tt)) e.entry.after, all.1) (omega arith)

    same_owed : (vs : List Item) (n : ℕ) → (phase_owes x.phase + frames_owe (at_entry (record f { values = vs }) n ∷ below) ≤ owed x) × (owed x ≤ phase_owes x.phase + frames_owe (at_entry (record f { values = vs }) n ∷ below))
    same_owed vs n = (omega (arith, ap frames_owe at), omega (arith, ap frames_owe at))

    prints : (e : Point) (v : Result (List Printed) Fault) → Fine (λ items. length (line_text items) ≤ 2147000000) v → SmallOf p x (action.prints x.execution e f below v)
    prints e (Err fault) h = fails (line_of e) fault
    prints e (Ok items) h = record {
      sends = tt;
      goes_on = λ c r came kids. ((moved_on e.entry.after, all.1), tt);
      costs = λ q c r. inl (omega (arith, h));
      owes = λ q c r. (omega (arith, h), (same_owed f.values e.entry.after).0);
    }

    tests : (e : Point) (v : Result Value Fault) → SmallOf p x (action.tests x.execution e f below v)
    tests e (Err fault) = fails (line_of e) fault
    tests e (Ok v) = goes _

    begins : (b : Bool) (e : Point) (g : Frame) → FrameHasWords g → SmallOf p x (cond b (action.fails (line_of e) ZeroDivide) (Own (framed x.execution (g ∷ below)) [] [] 1))
    begins true e g h = fails (line_of e) ZeroDivide
    begins false e g h = own (g ∷ below) [] 1 (h, all.1) (omega arith)

    loops : (e : Point) (s : Span) (m : Result (ℤ × ℤ × ℤ) Fault) → Fine (λ m. IsWord m.0) m → SmallOf p x (action.loops x.execution e f below s m)
    loops e s (Err fault) h = fails (line_of e) fault
    loops e s (Ok m) h = begins (int_eq m.2 (pos 0)) e _ (record { values = written_words f.values s (m.0 ∷ []) top.values (h, tt); results = tt; starts = top.starts; few = top.few })

    adds : (e : Point) (opener body : ℕ) (s : Span) (count : ℕ) (by : ℤ) (v : Result ℤ Fault) → Fine IsWord v → SmallOf p x (action.adds x.execution e f below opener body s count by v)
    adds e opener body s count by (Err fault) h = fails (line_of e) fault
    adds e opener body s count by (Ok n) h = own _ [] 1 (record { values = written_words f.values s (n ∷ []) top.values (h, tt); results = tt; starts = top.starts; few = top.few }, all.1) (omega arith)

    trips_end : (e : Point) (opener body : ℕ) (s : Span) (l : Option (ℕ × ℤ)) → SmallOf p x (action.loop_trips x.execution e f below opener body s l)
    trips_end e opener body s None = goes e.entry.after
    trips_end e opener body s (Some l) = adds e opener body s l.0 l.1 (sum (word_at f.values s) l.1) (in_range_word (word_at f.values s +ℤ l.1))

    ends_loop : (u : ProgramUnit) (e : Point) (opener body : ℕ) (l : Loop) → SmallOf p x (action.ends_loop x.execution u e f below opener body l)
    ends_loop u e opener body (Counted name) = trips_end e opener body (scalar_place (variable_of u name)) (finite.get f.loops opener)
    ends_loop u e opener body While = goes opener
    ends_loop u e opener body NoLoop = tt

    end_by : (u : ProgramUnit) (e : Point) (opener : ℕ) (o : Option Entry) → SmallOf p x (action.end_by x.execution u e f below opener o)
    end_by u e opener None = tt
    end_by u e opener (Some o) = ends_loop u e opener o.after (action.loop_of o.stmt)

    end_of : (u : ProgramUnit) (e : Point) (o : Option ℕ) → SmallOf p x (action.end_of x.execution u e f below o)
    end_of u e None = tt
    end_of u e (Some o) = end_by u e o (slice_get u.tree.body o)

    opens : (caller : Frame) → FrameHasWords caller → (n : ℕ) (u : ProgramUnit) (r : Returned) (backs : List Back) → BothHaveWords r → back_words backs ≤ 65536 → u.names.words ≤ 65536
        → SmallOf p x (action.opens x.execution caller below n u r backs)
    opens caller c n u r backs both back few =
        own (new_frame n r.theirs backs ∷ record caller { values = r.mine } ∷ below) r.drops (1 + u.names.words)
        (record { values = both.1; results = tt; starts = tt; few = back }, (record { values = both.0; results = c.results; starts = c.starts; few = c.few }, all.1)) (omega (arith, few))

    refers : (line : ℕ) (g : Reference) (args : Result (List Actual) Fault) → ((n : ℕ) (w : ProgramUnit) → g ≡ Call n w → w.names.words ≤ 65536) → Fine (AllIn ActualHasWords) args → SmallOf p x (action.refers x.execution line f below g args)
    refers line (Element i v) args h g = tt
    refers line (Built b) args h g = tt
    refers line Unknown args h g = tt
    refers line (Call n u) (Ok args) h g = opens f top n u (entered u f.values args) [] (entered_words u f.values args top.values g) (omega arith) (h n u refl)
    refers line (Call n u) (Err fault) h g = fails line fault

    calls : (e : Point) (u : Option (ℕ × ProgramUnit)) (args : Result (List Actual) Fault) → ((v : ℕ × ProgramUnit) (given : List Actual) → u ≡ Some v → args ≡ Ok given → IsFewCall v.1 given) → Fine (AllIn ActualHasWords) args
        → SmallOf p x (action.calls x.execution e f below u args)
    calls e None args h g = tt
    calls e (Some u) (Err fault) h g = fails (line_of e) fault
    calls e (Some u) (Ok args) h g =
        let small = h u args refl refl in
        opens (at_entry f e.entry.after) (moved_on e.entry.after) u.0 u.1 (entered u.1 f.values args) (backs_of u.1 args) (entered_words u.1 f.values args top.values g) small.0 small.1

    sent_items : (e : Point) (c : ChanName) (w : ℕ) (items : Result (List Actual) Fault) → Fine (AllIn ActualHasWords) items → SmallOf p x (action.sent_items e c w items)
    sent_items e c w (Err fault) h = fails (line_of e) fault
    sent_items e c w (Ok items) h =
        let m = message_has_words f.values items top.values h in
        meets (Send c w items e.entry.after) (record {
          sends = m.1;
          goes_on = λ d r came kids. ((with_values _ m.0 e.entry.after, all.1), tt);
          costs = λ q d r. inr (tt, (same_owed (message_from f.values items).0 e.entry.after).1);
          owes = λ q d r. absurd q;
        })

    sent : (e : Point) (t : PortFields) (items : List Actual) (o : Option PortValue) → AllIn ActualHasWords items → SmallOf p x (action.sent e t o items)
    sent e t items None h = fails (line_of e) NullPort
    sent e t items (Some (Reader c)) h = fails (line_of e) NullPort
    sent e t items (Some (Writer c w)) h = sent_items e c w (action.cut_items [] t items) (cut_words [] t items h)

    sends : (e : Point) (t : PortFields) (q : Result Span Fault) (items : Result (List Actual) Fault) → Fine (AllIn ActualHasWords) items → SmallOf p x (action.sends e t f q items)
    sends e t (Err fault) items h = fails (line_of e) fault
    sends e t (Ok q) (Err fault) h = fails (line_of e) fault
    sends e t (Ok q) (Ok items) h = sent e t items (port_at f.values q) h

    closed : (e : Point) (vs : List Item) (o : Option PortValue) → HaveWords vs → SmallOf p x (action.closed x.execution e f below vs o)
    closed e vs None h = fails (line_of e) NullPort
    closed e vs (Some v) h = own _ _ 1 (with_values vs h e.entry.after, all.1) (omega arith)

    closes : (e : Point) (q : Result Span Fault) → SmallOf p x (action.closes x.execution e f below q)
    closes e (Err fault) = fails (line_of e) fault
    closes e (Ok q) = closed e (emptied_place f.values q).0 (emptied_place f.values q).1 (exchange_words f.values q.variable q.first None top.values)

    moves : (e : Point) (r : Result (Span × Span) Fault) → SmallOf p x (action.moves x.execution e f below r)
    moves e (Err fault) = fails (line_of e) fault
    moves e (Ok r) =
        let out = emptied_place f.values r.0 in
        own _ _ 1 (with_values (put_port out.0 r.1 out.1).0 (exchange_words out.0 r.1.variable r.1.first out.1 (exchange_words f.values r.0.variable r.0.first None top.values)) e.entry.after, all.1) (omega arith)

    make : (places : List Span) (writers cost next : ℕ) → cost ≤ most → EventIsSmall (Make places writers cost next) (ask_at p x below f (Make places writers cost next))
    make places writers cost next few = record {
      sends = tt;
      goes_on = λ d r came kids. ((with_values _ (placed_words f.values places (ports_from d writers) top.values) next, all.1), tt);
      costs = λ q d r. inl few;
      owes = λ q d r. (few, (same_owed (placed_all f.values places (ports_from d writers)).0 next).0);
    }

    makes : (e : Point) (r : Result (Span × Span) Fault) → SmallOf p x (action.makes e r)
    makes e (Err fault) = fails (line_of e) fault
    makes e (Ok r) = meets (Make (r.0 ∷ r.1 ∷ []) 1 1 e.entry.after) (make (r.0 ∷ r.1 ∷ []) 1 1 e.entry.after (omega arith))

    merges : (e : Point) (r : Result (Span × List Span) Fault) → Fine (λ r. length (elements_of r.1) ≤ 2147000000) r → SmallOf p x (action.merges e r)
    merges e (Err fault) h = fails (line_of e) fault
    merges e (Ok r) h =
        let n = length (elements_of r.1) in
        meets (Make (r.0 ∷ elements_of r.1) n (1 + n) e.entry.after) (make (r.0 ∷ elements_of r.1) n (1 + n) e.entry.after (omega (arith, h)))

    probes_at : (e : Point) (place : Span) (o : Option PortValue) → SmallOf p x (action.probes_at e place o)
    probes_at e place None = fails (line_of e) NullPort
    probes_at e place (Some (Writer c w)) = fails (line_of e) NullPort
    probes_at e place (Some (Reader c)) = meets (Probe c place e.entry.after) (record {
      sends = tt;
      goes_on = λ d r came kids. ((with_values _ (written_words f.values place (truth_word r.waits ∷ []) top.values (truth_is_word r.waits, tt)) e.entry.after, all.1), tt);
      costs = λ q d r. inl (omega arith);
      owes = λ q d r. absurd q;
    })

    probes : (e : Point) (r : Result (Span × Span) Fault) → SmallOf p x (action.probes e f r)
    probes e (Err fault) = fails (line_of e) fault
    probes e (Ok r) = probes_at e r.1 (port_at f.values r.0)

    came_on : (line next : ℕ) (items : List Span) (iostat : Option Span) (to : Option ℕ) (m : Option Message) → ((k : Message) → m ≡ Some k → HaveWords k)
        → ProcessHasWords (received x line below f next items iostat to m).self × AllIn ProcessHasWords (received x line below f next items iostat to m).starts
    came_on line next items iostat to (Some m) h = ((with_values _ (status_words _ iostat (pos 0) (stored_all_words f.values items m top.values (h m refl)) refl) next, all.1), tt)
    came_on line next items None None None h = (fine, tt)
    came_on line next items None (Some n) None h = ((moved_on n, all.1), tt)
    came_on line next items (Some s) to None h = ((with_values _ (status_words f.values (Some s) _ top.values refl) _, all.1), tt)

    came_for : (line next : ℕ) (items : List Span) (iostat : Option Span) (to : Option ℕ) (m : Option Message) → CostsFew x (Unit {0}) (received x line below f next items iostat to m)
    came_for line next items iostat to (Some m) = inr (tt, (same_owed (with_status (stored_all f.values items m).0 iostat (pos 0)) next).1)
    came_for line next items None None None = inl (omega arith)
    came_for line next items None (Some n) None = inl (omega arith)
    came_for line next items (Some s) to None = inl (omega arith)

    met_on : (line next : ℕ) (items : List Span) (iostat : Option Span) (to : Option ℕ) (exceeds : Bool) (m : Option Message) → ((k : Message) → m ≡ Some k → HaveWords k)
        → ProcessHasWords (steps.met x line below f next items iostat to exceeds m).self × AllIn ProcessHasWords (steps.met x line below f next items iostat to exceeds m).starts
    met_on line next items iostat to true None h = (fine, tt)
    met_on line next items iostat to true (Some m) h = came_on line next items iostat to (Some m) h
    met_on line next items iostat to false m h = came_on line next items iostat to m h

    met_for : (line next : ℕ) (items : List Span) (iostat : Option Span) (to : Option ℕ) (exceeds : Bool) (m : Option Message) → CostsFew x (Unit {0}) (steps.met x line below f next items iostat to exceeds m)
    met_for line next items iostat to true None = inl (omega arith)
    met_for line next items iostat to true (Some m) = came_for line next items iostat to (Some m)
    met_for line next items iostat to false m = came_for line next items iostat to m

    receives_at : (e : Point) (r : Receiving) (o : Option PortValue) → SmallOf p x (action.receives_at e r o)
    receives_at e r None = fails (line_of e) NullPort
    receives_at e r (Some (Writer c w)) = fails (line_of e) NullPort
    receives_at e r (Some (Reader c)) = meets (Receive c (line_of e) r.2 r.1 e.links.jump e.entry.after) (record {
      sends = tt;
      goes_on = λ d y came kids. met_on (line_of e) e.entry.after r.2 r.1 e.links.jump y.exceeds y.message came;
      costs = λ q d y. met_for (line_of e) e.entry.after r.2 r.1 e.links.jump y.exceeds y.message;
      owes = λ q d y. absurd q;
    })

    receives : (e : Point) (r : Result Receiving Fault) → SmallOf p x (action.receives e f r)
    receives e (Err fault) = fails (line_of e) fault
    receives e (Ok r) = receives_at e r (port_at f.values r.0)

    pended : (e : Point) (n : ℕ) (u : ProgramUnit) (backs : List Back) (seat : Seat) (t : Returned) → BothHaveWords t → back_words backs ≤ 65536 → u.names.words ≤ 65536 → SmallOf p x (action.pended x.execution e f below n u backs seat t)
    pended e n u backs seat t both back few =
        let s : Start = record { unit = n; values = t.theirs; backs = backs; machine = seat.0; node = seat.1 } in
        own (at_entry (record f { values = t.mine; starts = f.starts ++ s ∷ [] }) e.entry.after ∷ below) t.drops (1 + u.names.words)
        (record { values = both.0; results = tt; starts = all_joined StartHasWords f.starts (s ∷ []) top.starts (record { values = both.1; few = back }, tt); few = top.few }, all.1) (omega (arith, few))

    starts_one : (e : Point) (n : ℕ) (u : ProgramUnit) (r : Result (List Actual × Seat) Fault) → ((y : List Actual × Seat) → r ≡ Ok y → IsFewCall u y.0) → Fine (λ y. AllIn ActualHasWords y.0) r → SmallOf p x (action.starts_one x.execution e f below n u r)
    starts_one e n u (Err fault) h g = fails (line_of e) fault
    starts_one e n u (Ok r) h g = let small = h r refl in pended e n u (backs_of u r.0) r.1 (entered u f.values r.0) (entered_words u f.values r.0 top.values g) small.0 small.1

    the_pair : (a b : List Actual × Seat) → ◌≡◌ {A = Result (List Actual × Seat) Fault} (Ok a) (Ok b) → a ≡ b
    the_pair a b e = cc

    process_calls : (s : Scope) (e : Point) (o : Option (ℕ × ProgramUnit)) (args : List Tree) (w : Option Where) → ((v : ℕ × ProgramUnit) (given : List Actual) → o ≡ Some v → actuals_of s (trees_from args) 0 ≡ Ok given → IsFewCall v.1 given)
        → Fine (AllIn ActualHasWords) (actuals_of s (trees_from args) 0) → SmallOf p x (action.process_calls x.execution s e f below o args w)
    process_calls s e None args w h g = tt
    process_calls s e (Some v) args w h g = starts_one e v.0 v.1 _ few words
      where
        few : (y : List Actual × Seat)
            → (actuals_of s (trees_from args) 0 >>= λ actuals. action.seat_at s x.execution.machine (x.execution.machine, x.execution.node) w (refs_in_all s (trees_from args)) >>= λ seat. fitted v.1.names.extents seat >>= λ there. Ok (actuals, there)) ≡ Ok y
            → IsFewCall v.1 y.0
        few y came =
            let a = parts (actuals_of s (trees_from args) 0) _ y came in
            let b = parts (action.seat_at s x.execution.machine (x.execution.machine, x.execution.node) w (refs_in_all s (trees_from args))) _ y a.2 in
            let d = parts (fitted v.1.names.extents b.0) _ y b.2 in
            let same : (a.0, d.0) ≡ y = the_pair (a.0, d.0) y (d.2) in
            subst (λ (y : List Actual × Seat). IsFewCall v.1 y.0) same (h v a.0 refl a.1)

        words : Fine (λ (y : List Actual × Seat). AllIn ActualHasWords y.0)
            (actuals_of s (trees_from args) 0 >>= λ actuals. action.seat_at s x.execution.machine (x.execution.machine, x.execution.node) w (refs_in_all s (trees_from args)) >>= λ seat. fitted v.1.names.extents seat >>= λ there. Ok (actuals, there))
        words =
            then_fine (AllIn ActualHasWords) (λ (y : List Actual × Seat). AllIn ActualHasWords y.0) (actuals_of s (trees_from args) 0) _ g
            (λ actuals k.
            then_fine Any (λ (y : List Actual × Seat). AllIn ActualHasWords y.0) (action.seat_at s x.execution.machine (x.execution.machine, x.execution.node) w (refs_in_all s (trees_from args))) _ (any_fine _)
            (λ seat t. then_fine Any (λ (y : List Actual × Seat). AllIn ActualHasWords y.0) (fitted v.1.names.extents seat) _ (any_fine _) (λ there t. k)))

    children_words : (ss : List Start) → AllIn StartHasWords ss → AllIn ProcessHasWords (map child_of ss)
    children_words [] h = tt
    children_words (s ∷ ss) h = ((record { values = h.0.values; results = tt; starts = tt; few = h.0.few }, tt), children_words ss h.1)

    begin : SmallOf p x (Meets Begin)
    begin = meets Begin (record {
      sends = tt;
      goes_on = λ c r came kids. ((record { values = top.values; results = top.results; starts = tt; few = top.few }, all.1), children_words f.starts top.starts);
      costs = λ q c r. absurd q;
      owes = λ q c r. absurd q;
    })

    join : (block : ℕ) (kids : List Kid) (next : ℕ) → SmallOf p x (Meets (Join block kids next))
    join block kids next = meets (Join block kids next) (record {
      sends = tt;
      goes_on = λ c r came ys. ((with_values _ (kids_words (record { mine = f.values; theirs = []; drops = [] }) kids r.children top.values ys) next, all.1), tt);
      costs = λ q c r. absurd q;
      owes = λ q c r. absurd q;
    })

  gives_back : (f : Frame) (below : List Frame) → x.execution.frames ≡ f ∷ below → SmallOf p x (action.gives_back x.execution f below)
  gives_back f [] at = ends f [] at
  gives_back f (g ∷ below) at =
      let h = all f (g ∷ below) at in
      own f (g ∷ below) at (record g { values = (returned g.values f.values f.backs).mine } ∷ below) ((returned g.values f.values f.backs).drops ++ started_ports f.starts) (1 + back_words f.backs)
      (record { values = returned_words g.values f.values f.backs h.1.0.values h.0.values; results = h.1.0.results; starts = h.1.0.starts; few = h.1.0.few }, h.1.1) (let few = h.0.few in omega (arith, few))

  results_in : (u : ProgramUnit) (f : Frame) (below : List Frame) → x.execution.frames ≡ f ∷ below → SmallOf p x (action.results_in x.execution u f below)
  results_in u f [] at = ends f [] at
  results_in u f (g ∷ below) at =
      let h = all f (g ∷ below) at in
      own f (g ∷ below) at (record g { results = g.results ++ word_at f.values (scalar_place (result_variable u)) ∷ [] } ∷ below) (frame_ports f) 1 (
        record {
          values = h.1.0.values;
          results = all_joined IsWord g.results (word_at f.values (scalar_place (result_variable u)) ∷ []) h.1.0.results (word_here f.values (scalar_place (result_variable u)) h.0.values, tt);
          starts = h.1.0.starts;
          few = h.1.0.few;
        },
        h.1.1,
      ) (omega arith)

  returns : (u : ProgramUnit) (f : Frame) (below : List Frame) → x.execution.frames ≡ f ∷ below → (k : UnitKind) → SmallOf p x (action.returns x.execution u f below k)
  returns u f below at unit_kind.Program = ends f below at
  returns u f below at unit_kind.Process = ends f below at
  returns u f below at unit_kind.Subroutine = gives_back f below at
  returns u f below at unit_kind.Function = results_in u f below at

  module _ (small : ProgramIsSmall p) where
    module _ (f : Frame) (below : List Frame) (at : x.execution.frames ≡ f ∷ below) (u : ProgramUnit) (is_unit : unit_at p f.unit ≡ Some u) (e : Point) (there : slice_get u.tree.body f.entry ≡ Some e.entry) where
      abbrev here_in : Scope
      here_in = action.scope_of p u f

      within : IsIn p u here_in
      within = record { unit = refl; program = refl }

      in_words : ScopeHasWords here_in
      in_words = record { values = (all f below at).0.values; results = (all f below at).0.results; constants = small.constants f.unit u is_unit }

      is_small : (k : Stmt) → e.entry.stmt ≡ k → StatementIsSmall k
      is_small k here = subst StatementIsSmall here (small.entries f.unit u f.entry e.entry is_unit there)

      types : (k : Stmt) → e.entry.stmt ≡ k → StatementHasTypes p u k
      types k here = subst (StatementHasTypes p u) here ((program_has_types p).entries f.unit u f.entry e.entry is_unit there).statement

      few_call : (name : List ℕ) (args : Option (List Tree)) → e.entry.stmt ≡ stmt.Simple (simple.Call name args) → (v : ℕ × ProgramUnit) (given : List Actual) → unit_named p name ≡ Some v → actuals_of here_in (trees_in args) 0 ≡ Ok given → IsFewCall v.1 given
      few_call name args here v given named is =
          let unit = named_unit p (get (context p).units name) v named in
          let words = unit_small p v.0 v.1 unit in
          let back = backs_small p v.0 v.1 unit here_in (trees_in args) 0 given (types (stmt.Simple (simple.Call name args)) here v here_in named within) is in
          (omega (arith, back, words), words)

      few_start : (name : List ℕ) (part : Option CallPart) → e.entry.stmt ≡ stmt.ProcessCall name part → (v : ℕ × ProgramUnit) (given : List Actual) → unit_named p name ≡ Some v → actuals_of here_in (trees_from (arguments_in part)) 0 ≡ Ok given → IsFewCall v.1 given
      few_start name part here v given named is =
          let unit = named_unit p (get (context p).units name) v named in
          let words = unit_small p v.0 v.1 unit in
          let back = backs_small p v.0 v.1 unit here_in (trees_from (arguments_in part)) 0 given (types (stmt.ProcessCall name part) here v here_in named within) is in
          (omega (arith, back, words), words)

      references : (t : Tree) → TreeIsSmall t → SmallOf p x (action.reference_step x.execution (line_of e) here_in f below t)
      references (Ref name args) h =
          refers f below at (line_of e) (reference_of here_in name) _ (λ n w is. unit_small p n w (reference_calls p here_in name refl n w is).1) (actuals_small here_in in_words args _ (arguments_small name args h))
      references (Number k) h = tt
      references (Truth b) h = tt
      references (Named name) h = tt
      references (Paren t) h = tt
      references (Signed op t) h = tt
      references (Not t) h = tt
      references (Binary op a b) h = tt

      bounds : (h : LoopHead) → LoopIsSmall h → Fine (λ (m : ℤ × ℤ × ℤ). IsWord m.0) (action.loop_bounds here_in h)
      bounds h s =
          then_fine IsWord (λ (m : ℤ × ℤ × ℤ). IsWord m.0) (number_of here_in h.from 0) _ (number_small here_in in_words h.from 0 s.from)
          (λ m1 k.
          then_fine Any (λ (m : ℤ × ℤ × ℤ). IsWord m.0) (number_of here_in h.to (refs_in here_in h.from)) _ (any_fine _)
          (λ m2 t. then_fine Any (λ (m : ℤ × ℤ × ℤ). IsWord m.0) (action.step_number here_in h.step (refs_in here_in h.from + refs_in here_in h.to)) _ (any_fine _) (λ m3 t. k)))

      simple_good : (k : Simple) → e.entry.stmt ≡ stmt.Simple k → SmallOf p x (action.simple_action p x.execution u e f below here_in k)
      simple_good (simple.Assignment v t) here = assigns f below at e _ _ (value_small here_in in_words t (refs_in_var here_in v) (assigned_small v t (is_small _ here)))
      simple_good (simple.Goto l) here = jumps f below at e.links.jump
      simple_good simple.Continue here = goes f below at e.entry.after
      simple_good simple.Return here = returns u f below at (kind_of u)
      simple_good simple.Stop here = ends f below at
      simple_good (simple.Call name args) here = calls f below at e (unit_named p name) (actuals_of here_in (trees_in args) 0) (few_call name args here) (actuals_small here_in in_words (trees_in args) 0 (call_small name args (is_small _ here)))
      simple_good (simple.Print items) here = prints f below at e _ (line_few p f.unit u is_unit here_in refl in_words items 0 (print_small items (is_small _ here)))
      simple_good (simple.Write unit items) here = prints f below at e _ (line_few_listed p f.unit u is_unit here_in refl in_words items 0 (write_small unit items (is_small _ here)))
      simple_good (simple.Channel in_first i o) here = makes f below at e _
      simple_good (simple.Merger i os) here = merges f below at e _ (outports_few p f.unit u is_unit here_in refl i os (merged_small i os (is_small _ here)))
      simple_good (simple.Send named q items) here = sends f below at e (action.fields_at u q) _ (actuals_of here_in (trees_from items) (refs_in_var here_in q)) (actuals_small here_in in_words (trees_from items) (refs_in_var here_in q) (send_small named q items (is_small _ here)))
      simple_good (simple.Receive named q extras items) here = receives f below at e _
      simple_good (simple.EndChannel named q) here = closes f below at e _
      simple_good (simple.MovePort from to) here = moves f below at e _
      simple_good (simple.Probe named q place) here = probes f below at e _

      statement_good : (k : Stmt) → e.entry.stmt ≡ k → SmallOf p x (action.statement_action p x.execution u e f below here_in k)
      statement_good (stmt.Simple k) here = simple_good k here
      statement_good (stmt.LogicalIf t k) here = tests f below at e _
      statement_good (stmt.BlockIf t) here = tests f below at e _
      statement_good (stmt.ElseIf t) here = tests f below at e _
      statement_good stmt.Else here = goes f below at e.entry.after
      statement_good stmt.EndIf here = goes f below at e.entry.after
      statement_good (stmt.Do h) here = loops f below at e (scalar_place (variable_of u h.variable)) (action.loop_bounds here_in h) (bounds h (loop_parts h (behind_small _ _ (is_small _ here))))
      statement_good (stmt.ProcessDo h) here = loops f below at e (scalar_place (variable_of u h.variable)) (action.loop_bounds here_in h) (bounds h (loop_parts h (behind_small _ _ (is_small _ here))))
      statement_good (stmt.DoWhile t) here = tests f below at e _
      statement_good stmt.EndDo here = end_of f below at u e e.entry.mate
      statement_good stmt.EndProcessDo here = end_of f below at u e e.entry.mate
      statement_good stmt.LoopEnd here = end_of f below at u e e.entry.mate
      statement_good stmt.End here = returns u f below at (kind_of u)
      statement_good stmt.Processes here = goes f below at e.entry.after
      statement_good stmt.EndProcesses here = begin f below at
      statement_good (stmt.ProcessCall name part) here =
          process_calls f below at here_in e (unit_named p name) (arguments_in part) _ (few_start name part here) (actuals_small here_in in_words (trees_from (arguments_in part)) 0 (start_small name part (is_small _ here)))
      statement_good (stmt.Program name) here = tt
      statement_good (stmt.Process name formals) here = tt
      statement_good (stmt.Subroutine name formals) here = tt
      statement_good (stmt.Function name formals) here = tt
      statement_good (stmt.IntegerFunction name formals) here = tt
      statement_good (stmt.LogicalFunction name formals) here = tt
      statement_good stmt.ImplicitNone here = tt
      statement_good (stmt.Integer ds) here = tt
      statement_good (stmt.Logical ds) here = tt
      statement_good (stmt.Dimension ds) here = tt
      statement_good (stmt.Parameter ds) here = tt
      statement_good (stmt.Inport t ds) here = tt
      statement_good (stmt.Outport t ds) here = tt
      statement_good (stmt.Intent w names) here = tt
      statement_good (stmt.Processors es) here = tt

      by_good : (t : Option Tree) → ((r : Tree) → t ≡ Some r → TreeIsSmall r) → SmallOf p x (action.action_by p x.execution u e f below t)
      by_good (Some t) h = references t (h t refl)
      by_good None h = statement_good e.entry.stmt refl

      reference_small : (t : Tree) → next_reference e.entry (length f.results) ≡ Some t → TreeIsSmall t
      reference_small t is = go (slice_get e.entry.refs (length f.results)) is
        where
          go : (o : Option ℕ) → option_and_then (reference_at e.entry.stmt) o ≡ Some t → TreeIsSmall t
          go None is = absurd (cc is)
          go (Some i) is = in_all TreeIsSmall _ i t (statement_applied e.entry.stmt (is_small e.entry.stmt refl)) is

    point_good : (f : Frame) (below : List Frame) → x.execution.frames ≡ f ∷ below → (u : ProgramUnit) → unit_at p f.unit ≡ Some u → (e : Option Point) → point_at u f.entry ≡ e → SmallOf p x (action.point_action p x.execution u f below e)
    point_good f below at u is_unit None is = tt
    point_good f below at u is_unit (Some e) is =
        let there = entry_there (slice_get u.tree.body f.entry) (slice_get (links_of u.tree.body) f.entry) e is in
        by_good f below at u is_unit e there (next_reference e.entry (length f.results)) (reference_small f below at u is_unit e there)

    at_good : (f : Frame) (below : List Frame) → x.execution.frames ≡ f ∷ below → (u : Option ProgramUnit) → unit_at p f.unit ≡ u → SmallOf p x (action.action_at p x.execution f below u)
    at_good f below at None is_unit = tt
    at_good f below at (Some u) is_unit = point_good f below at u is_unit (point_at u f.entry) refl

    running_good : (fs : List Frame) → x.execution.frames ≡ fs → SmallOf p x (action.running p x.execution fs)
    running_good [] at = tt
    running_good (f ∷ below) at = at_good f below at (unit_at p f.unit) refl

    joining_good : (block : ℕ) (kids : List Kid) (fs : List Frame) → x.execution.frames ≡ fs → SmallOf p x (action.joining p block kids fs)
    joining_good block kids [] at = tt
    joining_good block kids (f ∷ below) at = join f below at block kids _

    phase_good : (phase : Phase) → SmallOf p x (action_in p x.execution phase)
    phase_good Running = running_good x.execution.frames refl
    phase_good (Joining block kids) = joining_good block kids x.execution.frames refl
    phase_good Ended = tt
    phase_good (Faulted line fault) = tt

    pub step_small : SmallOf p x (action_of p x)
    step_small = phase_good x.phase
