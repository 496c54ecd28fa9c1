-- What processes owe for their calls and process calls was paid before, and a step that prints nothing and makes no great merger
-- costs, with what its process owes then, no more than that and 131,074, and 65,536 for each sized field of a message.
use Rattle.std.proofs.Common.{◌≡◌, ℕ, ℤ, pos, ◌+◌, ◌*◌, ◌≤◌, Bool, true, false, cond, Option, Some, None, option_map, List, [], ◌∷◌, ◌++◌, map, length, slice_get, Result, Ok, Err, refl, sym, ap, ◌∙◌, subst, arith}
use Rattle.std.specs.Ordering.{int_eq}
use Rattle.std.specs.FinMap as finite
use Rattle.std.specs.FinMap.{get, get-empty}
use Rattle.fm_base.specs.PathOrder.{channel_cmp, path_cmp}
use Rattle.fm_base.specs.declared.fault.Fault.{Fault}
use Rattle.fm_base.specs.declared.fault.Fault.TheVariants.{NullPort, ZeroDivide}
use Rattle.fm_base.specs.declared.output.Printed.{Printed}
use Rattle.fm_base.specs.declared.path.ChanName.{ChanName}
use Rattle.fm_base.specs.declared.port.PortValue.{PortValue}
use Rattle.fm_base.specs.declared.port.PortValue.TheVariants.{Writer, Reader}
use Rattle.fm_base.specs.Channels.{Chan, ChannelOp, Chans, Item, Limits, Look, Message, Pop, Push, first_message, fits_limits, gives, is_ready}
use Rattle.fm_finmap.proofs.Keys.{decide}
use Rattle.fm_finmap.proofs.Inserts.{insert_here, insert_there}
use Rattle.fm_map.specs.Placement.{Seat, fitted}
use Rattle.fm_values.specs.Values.{sum}
use Rattle.fm_values.specs.declared.value.Value.{Value}
use Rattle.fm_tree.specs.PortFields.{PortFields}
use Rattle.fm_tree.specs.Tree.{Tree, Number, Truth, Named, Ref, Paren, Signed, Not, Binary, trees_from}
use Rattle.fm_tree.specs.declared.form.UnitKind.{UnitKind}
use Rattle.fm_tree.specs.declared.form.UnitKind.TheVariants as unit_kind
use Rattle.fm_tree.specs.declared.program_unit.Entry.{Entry}
use Rattle.fm_tree.specs.declared.statement.CallPart.{CallPart}
use Rattle.fm_tree.specs.declared.statement.Var.{Var}
use Rattle.fm_tree.specs.declared.statement.Where.{Where}
use Rattle.fm_tree.specs.declared.statement.Simple.{Simple}
use Rattle.fm_tree.specs.declared.statement.Simple.TheVariants as simple
use Rattle.fm_tree.specs.declared.statement.Stmt.{Stmt}
use Rattle.fm_tree.specs.declared.statement.Stmt.TheVariants as stmt
use Rattle.fm_sched.specs.Schedule.{IsLegal, Throughout, cost, next, play, used}
use Rattle.fm_sched.proofs.Runs.{cost-Some, next-Some}
use Rattle.fm_net.specs.Machine as net
use Rattle.fm_finmap.specs.Changes.{alters}
use Rattle.fm_finmap.proofs.Alters.{alter_here}
use Rattle.fm_net.specs.Machine.{Place, State, Procs, need_changes, start_changes, Need, Nothing, New, Children, Reply, Onward, Ask, Stop, Go, gathered, made, reply_at, reply_with, served, served_at}
use Rattle.fm_net.specs.Typed.{AllIn, IsTyped, IsTypedAsk, IsTypedLanguage, SentFits}
use Rattle.fm_net.proofs.Typed.{types_throughout}
use Rattle.fm_net.proofs.Keys.{path_order}
use Rattle.fm_net.proofs.Taken.{taken}
use Rattle.fm_rules.specs.Links.{links_of}
use Rattle.fm_rules.specs.declared.program.Program.{Program}
use Rattle.fm_mean.specs.Names.{ProgramUnit, Point, context, unit_at, unit_named, kind_of, main_number, result_variable, variable_of, point_at, line_of}
use Rattle.fm_mean.specs.declared.place.Actual.{Actual}
use Rattle.fm_mean.specs.declared.place.Back.{Back}
use Rattle.fm_mean.specs.declared.place.Span.{Span}
use Rattle.fm_mean.specs.Places.{Returned, emptied_place, message_from, port_at, returned, word_at}
use Rattle.fm_mean.specs.Evaluate.{Scope, Reference, Element, Call, Built, Unknown, reference_of, refs_in_all, refs_in_var, actuals_of}
use Rattle.fm_mean.specs.Process.{Start, Frame, framed, Kid, Phase, Running, Joining, Ended, Faulted, Proc, emptied, frame_ports, has_ended, started_ports}
use Rattle.fm_mean.specs.Calls.{back_words, backs_of, child_of, ended_frames, entered, new_frame}
use Rattle.fm_mean.specs.Actions as action
use Rattle.fm_mean.specs.Actions.{Event, Fail, Make, Send, Receive, Probe, Begin, Join, End, Action, Rest, Own, Meets, at_entry, Receiving, Loop, Counted, While, NoLoop, scalar_place, action_in, action_of, arguments_in, elements_of, trees_in}
use Rattle.fm_mean.specs.Owed.{starts_owe, frames_owe, kids_owe, phase_owes, owed, OweAtMost, IsQuiet, IsShort, HaveShortMessages, SizesAtMost, sized_fields}
use Rattle.fm_mean.specs.Steps as steps
use Rattle.fm_mean.specs.Steps.{received, joining_words, kid_of, ask, ask_at, ask_event, ask_for, main_in, main_by, proc_of, first_proc, first, language, step}
use Rattle.fm_mean.specs.TypedTrees.{IsIn, StatementHasTypes}
use Rattle.fm_mean.proofs.BackWords.{backs_small, unit_small}
use Rattle.fm_mean.proofs.EachStep.{EachAt, after_step}
use Rattle.fm_mean.proofs.JudgedReferences.{reference_calls}
use Rattle.fm_mean.proofs.Lawful.{lawful}
use Rattle.fm_mean.proofs.Laws.{first_owned}
use Rattle.fm_mean.proofs.Machines.{entry_there, named_unit}
use Rattle.fm_mean.proofs.MessageWords.{sent_small}
use Rattle.fm_mean.proofs.ProgramMeanings.{program_has_types}
use Rattle.fm_mean.proofs.Sorts.{fields_of_outport, parts}

-- ---- lists

starts_more : (ss : List Start) (s : Start) → starts_owe (ss ++ s ∷ []) ≡ starts_owe ss + (1 + back_words s.backs)
starts_more [] s = omega arith
starts_more (t ∷ ss) s = omega (arith, starts_more ss s)

kids_of_starts : (ss : List Start) → length ss + kids_owe (map kid_of ss) ≡ starts_owe ss
kids_of_starts [] = omega arith
kids_of_starts (s ∷ ss) = omega (arith, kids_of_starts ss)

children_owe : (n : ℕ) (ss : List Start) → starts_owe ss ≤ n → AllIn (λ (y : Proc). owed y ≤ n) (map child_of ss)
children_owe n [] h = tt
children_owe n (s ∷ ss) h = (omega (arith, h), children_owe n ss (omega (arith, h)))

joined_words : (ks : List Kid) → joining_words ks ≤ kids_owe ks
joined_words [] = omega arith
joined_words (k ∷ ks) = omega (arith, joined_words ks)

ended_owe : (p : Program) (fs : List Frame) → frames_owe (ended_frames p fs).0 ≤ frames_owe fs
ended_owe p [] = omega arith
ended_owe p (f ∷ []) = omega arith
ended_owe p (f ∷ g ∷ fs) = omega (arith, ended_owe p (g ∷ fs))

the_pair : (a b : List Actual × Seat) → ◌≡◌ {A = Result (List Actual × Seat) Fault} (Ok a) (Ok b) → a ≡ b
the_pair a b e = cc

-- ---- one step

-- what is sent
abbrev SendsShort : ℕ → Need → Type 0
SendsShort sizes Nothing = Unit {0}
SendsShort sizes (net.Event c (Push w m)) = IsShort sizes m
SendsShort sizes (net.Event c (Pop limits)) = Unit {0}
SendsShort sizes (net.Event c Look) = Unit {0}
SendsShort sizes (New n k) = Unit {0}
SendsShort sizes (Children b n) = Unit {0}

-- and what comes
abbrev CameShort : ℕ → Option Message → Type 0
CameShort sizes None = Unit {0}
CameShort sizes (Some m) = IsShort sizes m

-- where messages have few sized fields
record IsPaidStep (sizes : ℕ) (few : Type 0) (x : Proc) (quiet : Type 0) (need : Need) (f : ChanName → Reply Proc → Onward Proc) : Type 0 where
  sends : few → SendsShort sizes need
  owes : (c : ChanName) (r : Reply Proc) → (owed (f c r).self ≤ owed x + (f c r).cost) × AllIn (λ (y : Proc). owed y ≤ owed x + (f c r).cost) (f c r).starts
  costs : few → quiet → (c : ChanName) (r : Reply Proc) → CameShort sizes r.message → (f c r).cost + owed (f c r).self ≤ 131074 + 65536 * sizes + owed x

abbrev PaidAsk : ℕ → Type 0 → Proc → Type 0 → Ask Proc → Type 0
PaidAsk sizes few x quiet Stop = Unit {0}
PaidAsk sizes few x quiet (Go need f) = IsPaidStep sizes few x quiet need f

abbrev PaidOf : ℕ → Program → Proc → Action → Type 0
PaidOf sizes p x a = PaidAsk sizes (SizesAtMost sizes p) x (IsQuiet a) (ask_for p x a)

-- a call gives back no more words than its unit has
abbrev IsSmallCall : ProgramUnit → List Actual → Type 0
IsSmallCall u args = (back_words (backs_of u args) ≤ u.names.words) × (u.names.words ≤ 65536)

module _ (sizes : ℕ) (p : Program) (x : Proc) where
  met : (e : Event) (fs : List Frame) → x.execution.frames ≡ fs → PaidAsk sizes (SizesAtMost sizes p) x (IsQuiet (Meets e)) (ask_event p x e fs) → PaidOf sizes p x (Meets e)
  met e fs at h = subst (λ gs. PaidAsk sizes (SizesAtMost sizes p) x (IsQuiet (Meets e)) (ask_event p x e gs)) (sym at) h

  ends : (f : Frame) (below : List Frame) → x.execution.frames ≡ f ∷ below → PaidOf sizes p x (Meets End)
  ends f below at = met End (f ∷ below) at (record { sends = λ sized. tt; owes = λ c r. (omega (arith, ended_owe p x.execution.frames), tt); costs = λ sized q c r came. omega (arith, ended_owe p x.execution.frames) })

  module _ (f : Frame) (below : List Frame) (at : x.execution.frames ≡ f ∷ below) where
    kept : (n : ℕ) → phase_owes x.phase + frames_owe (f ∷ below) ≤ owed x + n
    kept n = omega (arith, ap frames_owe at)

    lone : (fs : List Frame) (drops : List PortValue) (cost : ℕ) → frames_owe fs ≤ frames_owe (f ∷ below) + cost → cost + frames_owe fs ≤ 131074 + 65536 * sizes + frames_owe (f ∷ below) → PaidOf sizes p x (Own (framed x.execution fs) [] drops cost)
    lone fs drops cost h g = record { sends = λ sized. tt; owes = λ c r. (omega (arith, h, ap frames_owe at), tt); costs = λ sized q c r came. omega (arith, g, ap frames_owe at) }

    plain : (fs : List Frame) (drops : List PortValue) → frames_owe fs ≡ frames_owe (f ∷ below) → PaidOf sizes p x (Own (framed x.execution fs) [] drops 1)
    plain fs drops e = lone fs drops 1 (omega (arith, e)) (omega (arith, e))

    meets : (e : Event) → PaidAsk sizes (SizesAtMost sizes p) x (IsQuiet (Meets e)) (ask_at p x below f e) → PaidOf sizes p x (Meets e)
    meets e h = met e (f ∷ below) at h

    fails : (line : ℕ) (fault : Fault) → PaidOf sizes p x (action.fails line fault)
    fails line fault = meets (Fail line fault) (record { sends = λ sized. tt; owes = λ c r. (omega arith, tt); costs = λ sized q c r came. omega arith })

    goes : (n : ℕ) → PaidOf sizes p x (action.goes_to x.execution below f n)
    goes n = plain (at_entry f n ∷ below) [] refl

    jumps : (n : Option ℕ) → PaidOf sizes p x (action.jumps x.execution below f n)
    jumps None = tt
    jumps (Some n) = goes n

    assigns : (e : Point) (s : Result Span Fault) (v : Result Value Fault) → PaidOf sizes p x (action.assigns x.execution e f below s v)
    assigns e (Err fault) v = fails (line_of e) fault
    assigns e (Ok s) (Err fault) = fails (line_of e) fault
    assigns e (Ok s) (Ok v) = plain _ [] refl

    prints : (e : Point) (v : Result (List Printed) Fault) → PaidOf sizes p x (action.prints x.execution e f below v)
    prints e (Err fault) = fails (line_of e) fault
    prints e (Ok items) = record { sends = λ sized. tt; owes = λ c r. (kept _, tt); costs = λ sized q c r came. absurd q }

    tests : (e : Point) (v : Result Value Fault) → PaidOf sizes p x (action.tests x.execution e f below v)
    tests e (Err fault) = fails (line_of e) fault
    tests e (Ok v) = goes _

    begins : (b : Bool) (e : Point) (fs : List Frame) → frames_owe fs ≡ frames_owe (f ∷ below) → PaidOf sizes p x (cond b (action.fails (line_of e) ZeroDivide) (Own (framed x.execution fs) [] [] 1))
    begins true e fs h = fails (line_of e) ZeroDivide
    begins false e fs h = plain fs [] h

    loops : (e : Point) (s : Span) (m : Result (ℤ × ℤ × ℤ) Fault) → PaidOf sizes p x (action.loops x.execution e f below s m)
    loops e s (Err fault) = fails (line_of e) fault
    loops e s (Ok m) = begins (int_eq m.2 (pos 0)) e _ refl

    adds : (e : Point) (opener body : ℕ) (s : Span) (count : ℕ) (by : ℤ) (v : Result ℤ Fault) → PaidOf sizes p x (action.adds x.execution e f below opener body s count by v)
    adds e opener body s count by (Err fault) = fails (line_of e) fault
    adds e opener body s count by (Ok n) = plain _ [] refl

    trips_end : (e : Point) (opener body : ℕ) (s : Span) (l : Option (ℕ × ℤ)) → PaidOf sizes p x (action.loop_trips x.execution e f below opener body s l)
    trips_end e opener body s None = goes e.entry.after
    trips_end e opener body s (Some l) = adds e opener body s l.0 l.1 (sum (word_at f.values s) l.1)

    ends_loop : (u : ProgramUnit) (e : Point) (opener body : ℕ) (l : Loop) → PaidOf sizes p x (action.ends_loop x.execution u e f below opener body l)
    ends_loop u e opener body (Counted name) = trips_end e opener body (scalar_place (variable_of u name)) (finite.get f.loops opener)
    ends_loop u e opener body While = goes opener
    ends_loop u e opener body NoLoop = tt

    end_by : (u : ProgramUnit) (e : Point) (opener : ℕ) (o : Option Entry) → PaidOf sizes p x (action.end_by x.execution u e f below opener o)
    end_by u e opener None = tt
    end_by u e opener (Some o) = ends_loop u e opener o.after (action.loop_of o.stmt)

    end_of : (u : ProgramUnit) (e : Point) (o : Option ℕ) → PaidOf sizes p x (action.end_of x.execution u e f below o)
    end_of u e None = tt
    end_of u e (Some o) = end_by u e o (slice_get u.tree.body o)

    opens : (caller : Frame) → frames_owe (caller ∷ below) ≡ frames_owe (f ∷ below) → (n : ℕ) (u : ProgramUnit) (r : Returned) (backs : List Back) → back_words backs ≤ u.names.words → u.names.words ≤ 65536
        → PaidOf sizes p x (action.opens x.execution caller below n u r backs)
    opens caller same n u r backs back few = lone (new_frame n r.theirs backs ∷ record caller { values = r.mine } ∷ below) r.drops (1 + u.names.words) (omega (arith, same, back)) (omega (arith, same, back, few))

    refers : (line : ℕ) (g : Reference) (args : Result (List Actual) Fault) → ((n : ℕ) (w : ProgramUnit) → g ≡ Call n w → w.names.words ≤ 65536) → PaidOf sizes p x (action.refers x.execution line f below g args)
    refers line (Element i v) args h = tt
    refers line (Built g) args h = tt
    refers line Unknown args h = tt
    refers line (Call n u) (Ok args) h = opens f refl n u (entered u f.values args) [] (omega arith) (h n u refl)
    refers line (Call n u) (Err fault) h = fails line fault

    calls : (e : Point) (u : Option (ℕ × ProgramUnit)) (args : Result (List Actual) Fault) → ((v : ℕ × ProgramUnit) (given : List Actual) → u ≡ Some v → args ≡ Ok given → IsSmallCall v.1 given) → PaidOf sizes p x (action.calls x.execution e f below u args)
    calls e None args h = tt
    calls e (Some u) (Err fault) h = fails (line_of e) fault
    calls e (Some u) (Ok args) h =
        let small = h u args refl refl in
        opens (at_entry f e.entry.after) refl u.0 u.1 (entered u.1 f.values args) (backs_of u.1 args) small.0 small.1

    sent_items : (e : Point) (c : ChanName) (w : ℕ) (items : Result (List Actual) Fault) → ((cut : List Actual) → items ≡ Ok cut → SizesAtMost sizes p → IsShort sizes (message_from f.values cut).1) → PaidOf sizes p x (action.sent_items e c w items)
    sent_items e c w (Err fault) short = fails (line_of e) fault
    sent_items e c w (Ok items) short =
        meets (Send c w items e.entry.after) (record { sends = short items refl; owes = λ d r. (kept _, tt); costs = λ sized q d r came. let words = short items refl sized in omega (arith, words, ap frames_owe at) })

    sent : (e : Point) (fields : PortFields) (items : List Actual) (o : Option PortValue)
        → ((cut : List Actual) → action.cut_items [] fields items ≡ Ok cut → SizesAtMost sizes p → IsShort sizes (message_from f.values cut).1) → PaidOf sizes p x (action.sent e fields o items)
    sent e t items None short = fails (line_of e) NullPort
    sent e t items (Some (Reader c)) short = fails (line_of e) NullPort
    sent e t items (Some (Writer c w)) short = sent_items e c w (action.cut_items [] t items) short

    sends : (e : Point) (fields : PortFields) (q : Result Span Fault) (items : Result (List Actual) Fault)
        → ((given cut : List Actual) → items ≡ Ok given → action.cut_items [] fields given ≡ Ok cut → SizesAtMost sizes p → IsShort sizes (message_from f.values cut).1) → PaidOf sizes p x (action.sends e fields f q items)
    sends e t (Err fault) items h = fails (line_of e) fault
    sends e t (Ok q) (Err fault) h = fails (line_of e) fault
    sends e t (Ok q) (Ok items) h = sent e t items (port_at f.values q) (λ cut. h items cut refl)

    closed : (e : Point) (vs : List Item) (o : Option PortValue) → PaidOf sizes p x (action.closed x.execution e f below vs o)
    closed e vs None = fails (line_of e) NullPort
    closed e vs (Some v) = plain _ _ refl

    closes : (e : Point) (q : Result Span Fault) → PaidOf sizes p x (action.closes x.execution e f below q)
    closes e (Err fault) = fails (line_of e) fault
    closes e (Ok q) = closed e (emptied_place f.values q).0 (emptied_place f.values q).1

    moves : (e : Point) (r : Result (Span × Span) Fault) → PaidOf sizes p x (action.moves x.execution e f below r)
    moves e (Err fault) = fails (line_of e) fault
    moves e (Ok r) = plain _ _ refl

    make : (places : List Span) (writers cost next : ℕ) → cost ≤ 1 + writers → PaidAsk sizes (SizesAtMost sizes p) x (IsQuiet (Meets (Make places writers cost next))) (ask_at p x below f (Make places writers cost next))
    make places writers cost next few = record { sends = λ sized. tt; owes = λ d r. (kept _, tt); costs = λ sized q d r came. omega (arith, few, q, ap frames_owe at) }

    makes : (e : Point) (r : Result (Span × Span) Fault) → PaidOf sizes p x (action.makes e r)
    makes e (Err fault) = fails (line_of e) fault
    makes e (Ok r) = meets (Make (r.0 ∷ r.1 ∷ []) 1 1 e.entry.after) (make (r.0 ∷ r.1 ∷ []) 1 1 e.entry.after (omega arith))

    merges : (e : Point) (r : Result (Span × List Span) Fault) → PaidOf sizes p x (action.merges e r)
    merges e (Err fault) = fails (line_of e) fault
    merges e (Ok r) =
        let n = length (elements_of r.1) in
        meets (Make (r.0 ∷ elements_of r.1) n (1 + n) e.entry.after) (make (r.0 ∷ elements_of r.1) n (1 + n) e.entry.after (omega arith))

    probes_at : (e : Point) (place : Span) (o : Option PortValue) → PaidOf sizes p x (action.probes_at e place o)
    probes_at e place None = fails (line_of e) NullPort
    probes_at e place (Some (Writer c w)) = fails (line_of e) NullPort
    probes_at e place (Some (Reader c)) = meets (Probe c place e.entry.after) (record { sends = λ sized. tt; owes = λ d r. (kept _, tt); costs = λ sized q d r came. omega (arith, ap frames_owe at) })

    probes : (e : Point) (r : Result (Span × Span) Fault) → PaidOf sizes p x (action.probes e f r)
    probes e (Err fault) = fails (line_of e) fault
    probes e (Ok r) = probes_at e r.1 (port_at f.values r.0)

    came_with : (line next : ℕ) (items : List Span) (iostat : Option Span) (to : Option ℕ) (m : Option Message)
        → (owed (received x line below f next items iostat to m).self ≤ owed x + (received x line below f next items iostat to m).cost)
        × AllIn (λ (y : Proc). owed y ≤ owed x + (received x line below f next items iostat to m).cost) (received x line below f next items iostat to m).starts
    came_with line next items iostat to (Some m) = (kept _, tt)
    came_with line next items None None None = (omega arith, tt)
    came_with line next items None (Some n) None = (kept _, tt)
    came_with line next items (Some s) to None = (kept _, tt)

    costs_then : (line next : ℕ) (items : List Span) (iostat : Option Span) (to : Option ℕ) (m : Option Message) → CameShort sizes m
        → (received x line below f next items iostat to m).cost + owed (received x line below f next items iostat to m).self ≤ 131074 + 65536 * sizes + owed x
    costs_then line next items iostat to (Some m) short = omega (arith, short, ap frames_owe at)
    costs_then line next items None None None short = omega arith
    costs_then line next items None (Some n) None short = omega (arith, ap frames_owe at)
    costs_then line next items (Some s) to None short = omega (arith, ap frames_owe at)

    came_met : (line next : ℕ) (items : List Span) (iostat : Option Span) (to : Option ℕ) (exceeds : Bool) (m : Option Message)
        → (owed (steps.met x line below f next items iostat to exceeds m).self ≤ owed x + (steps.met x line below f next items iostat to exceeds m).cost)
        × AllIn (λ (y : Proc). owed y ≤ owed x + (steps.met x line below f next items iostat to exceeds m).cost) (steps.met x line below f next items iostat to exceeds m).starts
    came_met line next items iostat to true None = (omega arith, tt)
    came_met line next items iostat to true (Some m) = came_with line next items iostat to (Some m)
    came_met line next items iostat to false m = came_with line next items iostat to m

    costs_met : (line next : ℕ) (items : List Span) (iostat : Option Span) (to : Option ℕ) (exceeds : Bool) (m : Option Message) → CameShort sizes m
        → (steps.met x line below f next items iostat to exceeds m).cost + owed (steps.met x line below f next items iostat to exceeds m).self ≤ 131074 + 65536 * sizes + owed x
    costs_met line next items iostat to true None short = omega arith
    costs_met line next items iostat to true (Some m) short = costs_then line next items iostat to (Some m) short
    costs_met line next items iostat to false m short = costs_then line next items iostat to m short

    receives_at : (e : Point) (r : Receiving) (o : Option PortValue) → PaidOf sizes p x (action.receives_at e r o)
    receives_at e r None = fails (line_of e) NullPort
    receives_at e r (Some (Writer c w)) = fails (line_of e) NullPort
    receives_at e r (Some (Reader c)) =
        meets (Receive c (line_of e) r.2 r.1 e.links.jump e.entry.after) (record {
          sends = λ sized. tt;
          owes = λ d y. came_met (line_of e) e.entry.after r.2 r.1 e.links.jump y.exceeds y.message;
          costs = λ sized q d y came. costs_met (line_of e) e.entry.after r.2 r.1 e.links.jump y.exceeds y.message came;
        })

    receives : (e : Point) (r : Result Receiving Fault) → PaidOf sizes p x (action.receives e f r)
    receives e (Err fault) = fails (line_of e) fault
    receives e (Ok r) = receives_at e r (port_at f.values r.0)

    pended : (e : Point) (n : ℕ) (u : ProgramUnit) (backs : List Back) (seat : Seat) (t : Returned) → back_words backs ≤ u.names.words → u.names.words ≤ 65536 → PaidOf sizes p x (action.pended x.execution e f below n u backs seat t)
    pended e n u backs seat t back few =
        let s : Start = record { unit = n; values = t.theirs; backs = backs; machine = seat.0; node = seat.1 } in
        lone (at_entry (record f { values = t.mine; starts = f.starts ++ s ∷ [] }) e.entry.after ∷ below) t.drops (1 + u.names.words) (omega (arith, starts_more f.starts s, back)) (omega (arith, starts_more f.starts s, back, few))

    starts_one : (e : Point) (n : ℕ) (u : ProgramUnit) (r : Result (List Actual × Seat) Fault) → ((y : List Actual × Seat) → r ≡ Ok y → IsSmallCall u y.0) → PaidOf sizes p x (action.starts_one x.execution e f below n u r)
    starts_one e n u (Err fault) h = fails (line_of e) fault
    starts_one e n u (Ok r) h = let small = h r refl in pended e n u (backs_of u r.0) r.1 (entered u f.values r.0) small.0 small.1

    process_calls : (s : Scope) (e : Point) (o : Option (ℕ × ProgramUnit)) (args : List Tree) (w : Option Where) → ((v : ℕ × ProgramUnit) (given : List Actual) → o ≡ Some v → actuals_of s (trees_from args) 0 ≡ Ok given → IsSmallCall v.1 given)
        → PaidOf sizes p x (action.process_calls x.execution s e f below o args w)
    process_calls s e None args w h = tt
    process_calls s e (Some v) args w h = starts_one e v.0 v.1 _ (λ y came.
        let a = parts (actuals_of s (trees_from args) 0) _ y came in
        let b = parts (action.seat_at s x.execution.machine (x.execution.machine, x.execution.node) w (refs_in_all s (trees_from args))) _ y a.2 in
        let d = parts (fitted v.1.names.extents b.0) _ y b.2 in
        let same : (a.0, d.0) ≡ y = the_pair (a.0, d.0) y (d.2) in
        subst (λ (y : List Actual × Seat). IsSmallCall v.1 y.0) same (h v a.0 refl a.1))

    begin : PaidOf sizes p x (Meets Begin)
    begin = meets Begin (record {
      sends = λ sized. tt;
      owes = λ c r. (omega (arith, kids_of_starts f.starts, ap frames_owe at), children_owe (owed x + (1 + length f.starts)) f.starts (omega (arith, ap frames_owe at)));
      costs = λ sized q c r came. omega (arith, kids_of_starts f.starts, ap frames_owe at);
    })

    join : (block : ℕ) (kids : List Kid) (next : ℕ) → x.phase ≡ Joining block kids → PaidOf sizes p x (Meets (Join block kids next))
    join block kids next joins = meets (Join block kids next) (record {
      sends = λ sized. tt;
      owes = λ c r. (omega (arith, ap frames_owe at), tt);
      costs = λ sized q c r came. omega (arith, joined_words kids, ap phase_owes joins, ap frames_owe at);
    })

  gives_back : (f : Frame) (below : List Frame) → x.execution.frames ≡ f ∷ below → PaidOf sizes p x (action.gives_back x.execution f below)
  gives_back f [] at = ends f [] at
  gives_back f (g ∷ below) at =
      let r = returned g.values f.values f.backs in
      lone f (g ∷ below) at (record g { values = r.mine } ∷ below) (r.drops ++ started_ports f.starts) (1 + back_words f.backs) (omega arith) (omega arith)

  results_in : (u : ProgramUnit) (f : Frame) (below : List Frame) → x.execution.frames ≡ f ∷ below → PaidOf sizes p x (action.results_in x.execution u f below)
  results_in u f [] at = ends f [] at
  results_in u f (g ∷ below) at =
      lone f (g ∷ below) at (record g { results = g.results ++ word_at f.values (scalar_place (result_variable u)) ∷ [] } ∷ below) (frame_ports f) 1 (omega arith) (omega arith)

  returns : (u : ProgramUnit) (f : Frame) (below : List Frame) → x.execution.frames ≡ f ∷ below → (k : UnitKind) → PaidOf sizes p x (action.returns x.execution u f below k)
  returns u f below at unit_kind.Program = ends f below at
  returns u f below at unit_kind.Process = ends f below at
  returns u f below at unit_kind.Subroutine = gives_back f below at
  returns u f below at unit_kind.Function = results_in u f below at

  module _ (f : Frame) (below : List Frame) (at : x.execution.frames ≡ f ∷ below) (u : ProgramUnit) (is_unit : unit_at p f.unit ≡ Some u) (e : Point) (there : slice_get u.tree.body f.entry ≡ Some e.entry) where
    abbrev here_in : Scope
    here_in = action.scope_of p u f

    within : IsIn p u here_in
    within = record { unit = refl; program = refl }

    types : (k : Stmt) → e.entry.stmt ≡ k → StatementHasTypes p u k
    types k here = subst (StatementHasTypes p u) here ((program_has_types p).entries f.unit u f.entry e.entry is_unit there).statement

    small_call : (name : List ℕ) (args : Option (List Tree)) → e.entry.stmt ≡ stmt.Simple (simple.Call name args) → (v : ℕ × ProgramUnit) (given : List Actual) → unit_named p name ≡ Some v → actuals_of here_in (trees_in args) 0 ≡ Ok given → IsSmallCall v.1 given
    small_call name args here v given named is =
        let unit = named_unit p (get (context p).units name) v named in
        (backs_small p v.0 v.1 unit here_in (trees_in args) 0 given (types (stmt.Simple (simple.Call name args)) here v here_in named within) is, unit_small p v.0 v.1 unit)

    small_start : (name : List ℕ) (part : Option CallPart) → e.entry.stmt ≡ stmt.ProcessCall name part → (v : ℕ × ProgramUnit) (given : List Actual) → unit_named p name ≡ Some v → actuals_of here_in (trees_from (arguments_in part)) 0 ≡ Ok given → IsSmallCall v.1 given
    small_start name part here v given named is =
        let unit = named_unit p (get (context p).units name) v named in
        (backs_small p v.0 v.1 unit here_in (trees_from (arguments_in part)) 0 given (types (stmt.ProcessCall name part) here v here_in named within) is, unit_small p v.0 v.1 unit)

    small_message : (named : Bool) (q : Var) (items : List Tree) → e.entry.stmt ≡ stmt.Simple (simple.Send named q items) → (given cut : List Actual) → actuals_of here_in (trees_from items) (refs_in_var here_in q) ≡ Ok given
        → action.cut_items [] (action.fields_at u q) given ≡ Ok cut → SizesAtMost sizes p → IsShort sizes (message_from f.values cut).1
    small_message named q items here given cut is cuts few =
        let t = types (stmt.Simple (simple.Send named q items)) here in
        let fields : action.fields_at u q ≡ t.0 = fields_of_outport u q t.0 t.1 in
        let sized : sized_fields t.0 ≤ sizes = subst (λ (fields : PortFields). sized_fields fields ≤ sizes) fields (few f.unit u f.entry e.entry named q items is_unit there here) in
        let words = sent_small p f.unit u q.name t.0 is_unit t.1 here_in refl (trees_from items) (refs_in_var here_in q) given cut (t.2 here_in within) is (subst (λ (fields : PortFields). action.cut_items [] fields given ≡ Ok cut) fields cuts) f.values in
        omega (arith, sized, words)

    references : (t : Tree) → PaidOf sizes p x (action.reference_step x.execution (line_of e) here_in f below t)
    references (Ref name args) = refers f below at (line_of e) (reference_of here_in name) _ (λ n w is. unit_small p n w (reference_calls p here_in name refl n w is).1)
    references (Number k) = tt
    references (Truth b) = tt
    references (Named name) = tt
    references (Paren t) = tt
    references (Signed op t) = tt
    references (Not t) = tt
    references (Binary op a b) = tt

    simple_paid : (k : Simple) → e.entry.stmt ≡ stmt.Simple k → PaidOf sizes p x (action.simple_action p x.execution u e f below here_in k)
    simple_paid (simple.Assignment v t) here = assigns f below at e _ _
    simple_paid (simple.Goto l) here = jumps f below at e.links.jump
    simple_paid simple.Continue here = goes f below at e.entry.after
    simple_paid simple.Return here = returns u f below at (kind_of u)
    simple_paid simple.Stop here = ends f below at
    simple_paid (simple.Call name args) here = calls f below at e (unit_named p name) (actuals_of here_in (trees_in args) 0) (small_call name args here)
    simple_paid (simple.Print items) here = prints f below at e _
    simple_paid (simple.Write unit items) here = prints f below at e _
    simple_paid (simple.Channel in_first i o) here = makes f below at e _
    simple_paid (simple.Merger i os) here = merges f below at e _
    simple_paid (simple.Send named q items) here = sends f below at e (action.fields_at u q) _ (actuals_of here_in (trees_from items) (refs_in_var here_in q)) (small_message named q items here)
    simple_paid (simple.Receive named q extras items) here = receives f below at e _
    simple_paid (simple.EndChannel named q) here = closes f below at e _
    simple_paid (simple.MovePort from to) here = moves f below at e _
    simple_paid (simple.Probe named q place) here = probes f below at e _

    statement_paid : (k : Stmt) → e.entry.stmt ≡ k → PaidOf sizes p x (action.statement_action p x.execution u e f below here_in k)
    statement_paid (stmt.Simple k) here = simple_paid k here
    statement_paid (stmt.LogicalIf t k) here = tests f below at e _
    statement_paid (stmt.BlockIf t) here = tests f below at e _
    statement_paid (stmt.ElseIf t) here = tests f below at e _
    statement_paid stmt.Else here = goes f below at e.entry.after
    statement_paid stmt.EndIf here = goes f below at e.entry.after
    statement_paid (stmt.Do h) here = loops f below at e (scalar_place (variable_of u h.variable)) (action.loop_bounds here_in h)
    statement_paid (stmt.ProcessDo h) here = loops f below at e (scalar_place (variable_of u h.variable)) (action.loop_bounds here_in h)
    statement_paid (stmt.DoWhile t) here = tests f below at e _
    statement_paid stmt.EndDo here = end_of f below at u e e.entry.mate
    statement_paid stmt.EndProcessDo here = end_of f below at u e e.entry.mate
    statement_paid stmt.LoopEnd here = end_of f below at u e e.entry.mate
    statement_paid stmt.End here = returns u f below at (kind_of u)
    statement_paid stmt.Processes here = goes f below at e.entry.after
    statement_paid stmt.EndProcesses here = begin f below at
    statement_paid (stmt.ProcessCall name part) here = process_calls f below at here_in e (unit_named p name) (arguments_in part) _ (small_start name part here)
    statement_paid (stmt.Program name) here = tt
    statement_paid (stmt.Process name formals) here = tt
    statement_paid (stmt.Subroutine name formals) here = tt
    statement_paid (stmt.Function name formals) here = tt
    statement_paid (stmt.IntegerFunction name formals) here = tt
    statement_paid (stmt.LogicalFunction name formals) here = tt
    statement_paid stmt.ImplicitNone here = tt
    statement_paid (stmt.Integer ds) here = tt
    statement_paid (stmt.Logical ds) here = tt
    statement_paid (stmt.Dimension ds) here = tt
    statement_paid (stmt.Parameter ds) here = tt
    statement_paid (stmt.Inport t ds) here = tt
    statement_paid (stmt.Outport t ds) here = tt
    statement_paid (stmt.Intent w names) here = tt
    statement_paid (stmt.Processors es) here = tt

    by_paid : (t : Option Tree) → PaidOf sizes p x (action.action_by p x.execution u e f below t)
    by_paid (Some t) = references t
    by_paid None = statement_paid e.entry.stmt refl

  point_paid : (f : Frame) (below : List Frame) → x.execution.frames ≡ f ∷ below → (u : ProgramUnit) → unit_at p f.unit ≡ Some u → (e : Option Point) → point_at u f.entry ≡ e → PaidOf sizes p x (action.point_action p x.execution u f below e)
  point_paid f below at u is_unit None is = tt
  point_paid f below at u is_unit (Some e) is =
      by_paid f below at u is_unit e (entry_there (slice_get u.tree.body f.entry) (slice_get (links_of u.tree.body) f.entry) e is) (action.next_reference e.entry (length f.results))

  at_paid : (f : Frame) (below : List Frame) → x.execution.frames ≡ f ∷ below → (u : Option ProgramUnit) → unit_at p f.unit ≡ u → PaidOf sizes p x (action.action_at p x.execution f below u)
  at_paid f below at None is_unit = tt
  at_paid f below at (Some u) is_unit = point_paid f below at u is_unit (point_at u f.entry) refl

  running_paid : (fs : List Frame) → x.execution.frames ≡ fs → PaidOf sizes p x (action.running p x.execution fs)
  running_paid [] at = tt
  running_paid (f ∷ below) at = at_paid f below at (unit_at p f.unit) refl

  joining_paid : (block : ℕ) (kids : List Kid) → x.phase ≡ Joining block kids → (fs : List Frame) → x.execution.frames ≡ fs → PaidOf sizes p x (action.joining p block kids fs)
  joining_paid block kids joins [] at = tt
  joining_paid block kids joins (f ∷ below) at = join f below at block kids _ joins

  phase_paid : (phase : Phase) → x.phase ≡ phase → PaidOf sizes p x (action_in p x.execution phase)
  phase_paid Running is = running_paid x.execution.frames refl
  phase_paid (Joining block kids) is = joining_paid block kids is x.execution.frames refl
  phase_paid Ended is = tt
  phase_paid (Faulted line fault) is = tt

  step_paid : PaidAsk sizes (SizesAtMost sizes p) x (IsQuiet (action_of p x)) (ask p x)
  step_paid = phase_paid x.phase refl

-- ---- messages

-- channels have no types here
abbrev NoTypes : Type 0
NoTypes = ChanName → Prim.Unit {0}

module _ (sizes : ℕ) (p : Program) (few : SizesAtMost sizes p) where
  abbrev AnyProc : NoTypes → Proc → Type 0
  AnyProc types x = Prim.Unit {0}

  abbrev ShortAt : NoTypes → ChanName → Message → Type 0
  ShortAt types c m = IsShort sizes m

  sent_fits : (types : NoTypes) (need : Need) → SendsShort sizes need → SentFits (language p) AnyProc ShortAt types need
  sent_fits types Nothing h = tt
  sent_fits types (net.Event c (Push w m)) h = h
  sent_fits types (net.Event c (Pop limits)) h = tt
  sent_fits types (net.Event c Look) h = tt
  sent_fits types (New n k) h = tt
  sent_fits types (Children b n) h = tt

  all_any : (types : NoTypes) (xs : List Proc) → AllIn (AnyProc types) xs
  all_any types [] = tt
  all_any types (x ∷ xs) = (tt, all_any types xs)

  typed_ask : (x : Proc) (quiet : Type 0) (a : Ask Proc) → PaidAsk sizes (SizesAtMost sizes p) x quiet a → IsTypedAsk (language p) AnyProc ShortAt x a
  typed_ask x quiet Stop h = tt
  typed_ask x quiet (Go need f) h = record { type_made = tt; sends = λ types fine. sent_fits types need (h.sends few); goes_on = λ types fine c r made came all. (tt, all_any types (f c r).starts) }

  short_language : IsTypedLanguage (language p) AnyProc ShortAt
  short_language = record { goes = λ x. typed_ask x (IsQuiet (action_of p x)) (ask p x) (step_paid sizes p x); empties = λ types x fine. tt; agrees = λ types others x same fine. tt; message_agrees = λ types others c m at same fits. fits }

  first_short : IsTyped (language p) AnyProc ShortAt (first p)
  first_short = ((λ c. tt), record { each = λ q x is. tt; queues = λ c ch is. absurd (cc (sym (get-empty {X = Chan} channel_cmp c) ∙ is)) })

  -- no message that waits is longer than a type may be, but for its sized fields
  pub short_along : Throughout (step p) (HaveShortMessages sizes) (first p)
  short_along cs legal = ((types_throughout (language p) AnyProc ShortAt short_language (lawful p) (first p) (first_owned p) first_short) cs legal).1.queues

the_reply : (a b : Reply Proc) → Some a ≡ Some b → a ≡ b
the_reply a b e = cc

module _ (sizes : ℕ) where
  first_short_of : (l : Limits) (ms : List Message) → AllIn (IsShort sizes) ms → CameShort sizes (first_message l ms)
  first_short_of l [] h = tt
  first_short_of l (m ∷ ms) h = elim (fits_limits l m) as (λ (b : Bool). CameShort sizes (cond b (Some m) None)) [ true ↦ h.0 | false ↦ tt ]

  gives_short : (a : ChannelOp) (ch : Chan) → AllIn (IsShort sizes) ch.queue → CameShort sizes (gives a ch)
  gives_short (Push w m) ch h = tt
  gives_short (Pop l) ch h = first_short_of l ch.queue h
  gives_short Look ch h = tt

  -- what comes is one of those that wait
  reply_short : (m : Procs Proc) (cs : Chans) (q : Place) (need : Need) (r : Reply Proc) → ((c : ChanName) (ch : Chan) → get cs c ≡ Some ch → AllIn (IsShort sizes) ch.queue) → served has_ended m cs q need ≡ Some r → CameShort sizes r.message
  reply_short m cs q Nothing r all e = subst (λ (r : Reply Proc). CameShort sizes r.message) (the_reply (reply_with []) r e) tt
  reply_short m cs q (New n k) r all e = subst (λ (r : Reply Proc). CameShort sizes r.message) (the_reply (reply_with []) r e) tt
  reply_short m cs q (Children b n) r all e = go (gathered has_ended m q b 1 n) e
    where
      go : (o : Option (List Proc)) → option_map reply_with o ≡ Some r → CameShort sizes r.message
      go None e = absurd (cc e)
      go (Some ys) e = subst (λ (r : Reply Proc). CameShort sizes r.message) (the_reply (reply_with ys) r e) tt
  reply_short m cs q (net.Event c a) r all e = go (get cs c) refl e
    where
      by_ready : (ch : Chan) (b : Bool) → AllIn (IsShort sizes) ch.queue → cond b (Some (reply_at a ch)) None ≡ Some r → CameShort sizes r.message
      by_ready ch true h e = subst (λ (r : Reply Proc). CameShort sizes r.message) (the_reply (reply_at a ch) r e) (gives_short a ch h)
      by_ready ch false h e = absurd (cc e)

      go : (o : Option Chan) → get cs c ≡ o → served_at a o ≡ Some r → CameShort sizes r.message
      go None is e = absurd (cc e)
      go (Some ch) is e = by_ready ch (is_ready a ch) (all c ch is) e

-- ---- a step of a state

spread : (n : ℕ) (xs : List Proc) → AllIn (λ (y : Proc). owed y ≤ n) xs → AllIn (λ (y : Proc). (i : ℕ) → owed y ≤ n) xs
spread n [] all = tt
spread n (x ∷ xs) all = ((λ i. all.0), spread n xs all.1)

module _ (p : Program) where
  paid_step : (s : State Proc) (q : Place) (t : State Proc × ℕ) (n : ℕ) → step p s q ≡ Some t → OweAtMost n s → OweAtMost (n + t.1) t.0
  paid_step s q t n is all =
      let k = taken (language p) s q t is in
      let b = k.start in
      let o = b.goes (made q b.need) b.reply in
      let mine = all q b.self b.is in
      let paid = (subst (PaidAsk 0 (SizesAtMost 0 p) b.self (IsQuiet (action_of p b.self))) b.asks (step_paid 0 p b.self)).owes (made q b.need) b.reply in
      let room : owed b.self + o.cost ≤ n + o.cost = omega (arith, mine) in
      let Fact : Place → Proc → Type 0 = λ (r : Place) (x : Proc). owed x ≤ n + o.cost in
      let before : EachAt Fact s.procs = λ r x there. let less = all r x there in omega (arith, less) in
      let starts = spread (n + o.cost) o.starts (all_lower (owed b.self + o.cost) (n + o.cost) room o.starts paid.1) in
      subst (λ (t : State Proc × ℕ). OweAtMost (n + t.1) t.0) k.there
      (after_step Fact has_ended emptied (λ r x done fact. omega (arith, fact)) s.procs s.chans q b.need b.reply o before b.serves (omega (arith, paid.0, room)) starts)
    where
      all_lower : (m n : ℕ) → m ≤ n → (xs : List Proc) → AllIn (λ (y : Proc). owed y ≤ m) xs → AllIn (λ (y : Proc). owed y ≤ n) xs
      all_lower m n h [] all = tt
      all_lower m n h (x ∷ xs) all = let less = all.0 in (omega (arith, less, h), all_lower m n h xs all.1)

  -- who steps is still there
  stays_there : (s : State Proc) (q : Place) (t : State Proc × ℕ) (is : step p s q ≡ Some t) → let b = (taken (language p) s q t is).start in get t.0.procs q ≡ Some (b.goes (made q b.need) b.reply).self
  stays_there s q t is =
      let k = taken (language p) s q t is in
      let b = k.start in
      let o = b.goes (made q b.need) b.reply in
      let rest = alters (start_changes q o.block 1 o.starts ++ need_changes emptied q b.need) s.procs in
      sym (ap (λ (t : State Proc × ℕ). get t.0.procs q) k.there) ∙ alter_here path_order rest q (λ v. Some o.self)

  -- a quiet step, with what its process owes then
  pub quiet_costs : (sizes : ℕ) → SizesAtMost sizes p → (s : State Proc) (q : Place) (t : State Proc × ℕ) (x y : Proc) → HaveShortMessages sizes s → step p s q ≡ Some t → get s.procs q ≡ Some x → get t.0.procs q ≡ Some y
      → IsQuiet (action_of p x) → t.1 + owed y ≤ 131074 + 65536 * sizes + owed x
  quiet_costs sizes few s q t x y short is there after quiet =
      let k = taken (language p) s q t is in
      let b = k.start in
      let o = b.goes (made q b.need) b.reply in
      let same : x ≡ b.self = the_proc x b.self (sym there ∙ b.is) in
      let left : o.self ≡ y = the_proc o.self y (sym (stays_there s q t is) ∙ after) in
      let paid = (subst (PaidAsk sizes (SizesAtMost sizes p) b.self (IsQuiet (action_of p b.self))) b.asks (step_paid sizes p b.self)).costs few (subst (λ x. IsQuiet (action_of p x)) same quiet) (made q b.need) b.reply (reply_short sizes s.procs s.chans q b.need b.reply short b.serves) in
      let cost : o.cost ≡ t.1 = ap (λ (t : State Proc × ℕ). t.1) k.there in
      omega (arith, paid, cost, ap owed same, ap owed left)
    where
      the_proc : (a b : Proc) → Some a ≡ Some b → a ≡ b
      the_proc a b e = cc

  -- ---- along a schedule

  paid_from : (cs : List Place) (s : State Proc) (n : ℕ) → OweAtMost n s → IsLegal (step p) s cs → OweAtMost (n + used (step p) s cs) (play (step p) s cs)
  paid_from [] s n all legal = λ q x is. let less = all q x is in omega (arith, less)
  paid_from (c ∷ cs) s n all legal =
      let t = legal.0.0 in
      let on = paid_step s c t n legal.0.1 all in
      let there : OweAtMost (n + cost (step p) s c) (next (step p) s c) =
      subst (λ (u : State Proc). OweAtMost (n + cost (step p) s c) u) (sym (next-Some (step p) s c t legal.0.1)) (subst (λ m. OweAtMost (n + m) t.0) (sym (cost-Some (step p) s c t legal.0.1)) on) in
      let rest = paid_from cs (next (step p) s c) (n + cost (step p) s c) there legal.1 in
      λ q x is. let less = rest q x is in omega (arith, less)

  main_owes : (o : Option ProgramUnit) (n : ℕ) → owed (proc_of (main_in n o)) ≤ 0
  main_owes None n = omega arith
  main_owes (Some u) n = omega arith

  proc_owes : (o : Option ℕ) → owed (proc_of (main_by p o)) ≤ 0
  proc_owes None = omega arith
  proc_owes (Some n) = main_owes (unit_at p n) n

  first_owes : OweAtMost 0 (first p)
  first_owes q x is = elim (decide path_order q []) [
    | yes e ↦ let same : first_proc p ≡ x = cc (sym (insert_here path_order finite.empty [] (first_proc p)) ∙ ap (get (first p).procs) (sym e) ∙ is) in subst (λ (x : Proc). owed x ≤ 0) same (proc_owes (main_number p))
    | no n ↦ absurd (cc (sym (insert_there path_order finite.empty [] (first_proc p) q n ∙ get-empty path_cmp q) ∙ is))
  ]

  pub paid_along : (cs : List Place) → IsLegal (step p) (first p) cs → OweAtMost (used (step p) (first p) cs) (play (step p) (first p) cs)
  paid_along cs legal q x is = let less = paid_from cs (first p) 0 first_owes legal q x is in omega (arith, less)

  -- so a quiet step costs 131,074 turns, and 65,536 for each sized field, more than all before it at most
  pub costs_along : (sizes : ℕ) → SizesAtMost sizes p → (cs : List Place) → IsLegal (step p) (first p) cs → (q : Place) (t : State Proc × ℕ) (x : Proc) → step p (play (step p) (first p) cs) q ≡ Some t
      → get (play (step p) (first p) cs).procs q ≡ Some x → IsQuiet (action_of p x) → t.1 ≤ 131074 + 65536 * sizes + used (step p) (first p) cs
  costs_along sizes few cs legal q t x is there quiet =
      let s = play (step p) (first p) cs in
      let few = quiet_costs sizes few s q t x _ (short_along sizes p few cs legal) is there (stays_there s q t is) quiet in
      let paid = paid_along cs legal q x there in
      omega (arith, few, paid)
