-- The language of each program is lawful: each action accounts for its ports.
use Rattle.std.proofs.Common.{◌≡◌, ℕ, ℤ, pos, negsuc, ◌+◌, ◌-◌, ◌≤◌, Bool, true, false, cond, ◌==◌, Option, Some, None, option_to_list, List, [], ◌∷◌, ◌++◌, map, length, slice_get, Result, Ok, Err, refl, ap, ◌∙◌, sym, subst, arith}
use Rattle.std.specs.FinMap as finite
use Rattle.std.proofs.lemmas.Grind.{flat_map-append}
use Rattle.fm_base.specs.declared.fault.Fault.{Fault}
use Rattle.fm_base.specs.declared.fault.Fault.TheVariants.{NullPort, ZeroDivide}
use Rattle.fm_base.specs.declared.output.Printed.{Printed}
use Rattle.fm_base.specs.declared.path.ChanName.{ChanName}
use Rattle.fm_base.specs.declared.port.PortValue.{PortValue}
use Rattle.fm_base.specs.declared.port.PortValue.TheVariants.{Writer, Reader}
use Rattle.fm_base.specs.Channels.{Item, Message, message_ports}
use Rattle.fm_values.specs.Values.{sum, word_of, is_true, truth_word}
use Rattle.fm_values.specs.declared.value.Value.{Value}
use Rattle.std.specs.Ordering.{int_eq}
use Rattle.fm_tree.specs.PortFields.{PortFields}
use Rattle.fm_tree.specs.Tree.{Tree, Number, Truth, Named, Ref, Paren, Signed, Not, Binary}
use Rattle.fm_tree.specs.declared.statement.Where.{Where}
use Rattle.fm_tree.specs.declared.statement.Simple.{Simple}
use Rattle.fm_tree.specs.declared.statement.Simple.TheVariants as simple
use Rattle.fm_tree.specs.declared.statement.Stmt.{Stmt}
use Rattle.fm_tree.specs.declared.statement.Stmt.TheVariants as stmt
use Rattle.fm_net.specs.Machine.{Nothing, Onward, Stop}
use Rattle.fm_net.specs.Owned.{count}
use Rattle.fm_net.specs.Lawful.{got, sum_of, ports_from, IsLawfulStep, IsLawfulAsk, IsLawfulLanguage}
use Rattle.fm_net.proofs.Counts.{count-nil, count-append}
use Rattle.fm_tree.specs.declared.form.UnitKind.{UnitKind}
use Rattle.fm_tree.specs.declared.form.UnitKind.TheVariants as unit_kind
use Rattle.fm_tree.specs.declared.program_unit.Entry.{Entry}
use Rattle.fm_rules.specs.declared.program.Program.{Program}
use Rattle.fm_mean.specs.Names.{ProgramUnit, Point, unit_at, unit_named, kind_of, variable_of, result_variable, point_at, line_of}
use Rattle.fm_mean.specs.declared.place.Actual.{Actual}
use Rattle.fm_mean.specs.declared.place.Back.{Back}
use Rattle.fm_mean.specs.declared.place.Span.{Span}
use Rattle.fm_mean.specs.Places.{word_at, port_at, written, put_port, emptied_place, stored_all, placed_all, message_from, Returned, without_theirs, returned}
use Rattle.fm_mean.specs.Evaluate.{Scope, Reference, Element, Call, Built, Unknown, reference_of, refs_in_all, actuals_of}
use Rattle.fm_mean.specs.Process.{Start, Frame, Execution, framed, Kid, Phase, Running, Joining, Ended, Faulted, Proc, started_ports, frames_ports, is_ended, held, emptied}
use Rattle.fm_map.specs.Placement.{Seat}
use Rattle.fm_mean.specs.Calls.{entered, backs_of, new_frame, child_of}
use Rattle.fm_mean.specs.Actions as action
use Rattle.fm_mean.specs.Actions.{Event, Fail, Make, Send, Receive, Probe, Begin, Join, End, Action, Rest, Own, Meets, at_entry, behind, goes_to, gone_on, Receiving, Loop, Counted, While, NoLoop, scalar_place, action_in}
use Rattle.fm_mean.specs.Steps as steps
use Rattle.fm_mean.specs.Steps.{onward, with_status, jump_to, received, given_back, kid_back, kids_back, ended, ask_at, ask_event, ask_for, language}
use Rattle.fm_mean.proofs.Exchanges.{found, within, found-none, exchange_law, written_law, stored_all_law, placed_law, message_law, port_found}
use Rattle.fm_mean.proofs.Calling.{accounted, own, all_back_law, without_law, returned_law, entered_law, frames-cons, frame-parts, ended_law}

-- what an action owes
abbrev LawOf : Program → Proc → Action → Type 0
LawOf p x a = IsLawfulAsk (language p) x (ask_for p x a)

abbrev holding : PortValue → Proc → ℕ
holding z x = count z (held x)

abbrev waiting : PortValue → List Start → ℕ
waiting z ss = count z (started_ports ss)

-- children that were joined hold nothing
none_kept : (z : PortValue) (kids : List Proc) → sum_of (λ kid. holding z (emptied kid)) kids ≡ 0
none_kept z [] = refl
none_kept z (kid ∷ kids) = omega (arith, none_kept z kids, count-nil z)

-- a step of its own, in which nothing starts: what it holds then and what is let go is what it held
alone : (p : Program) (x y : Proc) (drops : List PortValue) (cost : ℕ) → 1 ≤ cost → y.next_block ≡ x.next_block → y.next_channel ≡ x.next_channel
    → ((z : PortValue) → holding z y + count z drops ≡ holding z x) → IsLawfulStep (language p) x Nothing (λ c r. onward x y [] drops cost)
alone p x y drops cost some block channel same = record {
  costs = λ c r. some;
  uses = tt;
  numbered = tt;
  block_is = λ c r. refl;
  later_block = λ c r. omega (arith, block);
  passed_block = λ c r h. absurd (omega arith);
  later_channel = λ c r. omega (arith, channel);
  passed_channel = λ c r n k e. absurd (cc);
  account = λ c r may z. omega (arith, same z, none_kept z r.children, ap (sum_of (holding z)) may.1, ap (λ m. count z (got m)) may.0, count-nil z);
}

-- what the process holds, by its top frame
top : (z : PortValue) (x : Proc) (f : Frame) (below : List Frame) → x.execution.frames ≡ f ∷ below → holding z x ≡ within z f.values + waiting z f.starts + count z (frames_ports below)
top z x f below at = ap (λ fs. count z (frames_ports fs)) at ∙ frames-cons z f below

-- what an event owes that is met by the top frame
abbrev LawAt : Program → Proc → List Frame → Frame → Event → Type 0
LawAt p x below f e = IsLawfulAsk (language p) x (ask_at p x below f e)

module _ (p : Program) (x : Proc) where
  met : (e : Event) (fs : List Frame) → x.execution.frames ≡ fs → IsLawfulAsk (language p) x (ask_event p x e fs) → LawOf p x (Meets e)
  met e fs at law = subst (λ gs. IsLawfulAsk (language p) x (ask_event p x e gs)) (sym at) law

  ends : (f : Frame) (below : List Frame) → x.execution.frames ≡ f ∷ below → LawOf p x (Meets End)
  ends f below at = met End (f ∷ below) at (alone p x (ended p x).self (ended p x).drops 1 (omega arith) refl refl (λ z. ended_law z p x.execution.frames))

  module _ (f : Frame) (below : List Frame) (at : x.execution.frames ≡ f ∷ below) where
    meets : (e : Event) → LawAt p x below f e → LawOf p x (Meets e)
    meets e law = met e (f ∷ below) at law

    fails : (line : ℕ) (fault : Fault) → LawOf p x (action.fails line fault)
    fails line fault = meets (Fail line fault) (alone p x (record x { phase = Faulted line fault }) [] 1 (omega arith) refl refl (λ z. omega (arith, count-nil z)))

    -- a step that changes the top frame
    tops : (g : Frame) (lines : List (List ℕ)) (drops : List PortValue) (cost : ℕ) → 1 ≤ cost → ((z : PortValue) → within z g.values + waiting z g.starts + count z drops ≡ within z f.values + waiting z f.starts)
        → LawOf p x (Own (framed x.execution (g ∷ below)) lines drops cost)
    tops g lines drops cost some same =
        alone p x (gone_on x (framed x.execution (g ∷ below)) lines) drops cost some refl refl (λ z. omega (arith, same z, top z x f below at, frames-cons z g below))

    goes : (n : ℕ) → LawOf p x (goes_to x.execution below f n)
    goes n = tops (at_entry f n) [] [] 1 (omega arith) (λ z. omega (arith, count-nil z))

    jumps : (n : Option ℕ) → LawOf p x (action.jumps x.execution below f n)
    jumps None = tt
    jumps (Some n) = goes n

    writes : (g : Frame) (s : Span) (ns : List ℤ) (cost : ℕ) → 1 ≤ cost → g.values ≡ written f.values s ns → g.starts ≡ f.starts → LawOf p x (Own (framed x.execution (g ∷ below)) [] [] cost)
    writes g s ns cost some is starts = tops g [] [] cost some (λ z. omega (arith, ap (within z) is, ap (waiting z) starts, written_law z f.values s ns, count-nil z))

    behind_law : (n : ℕ) (vs : List Item) (drops : List PortValue) (cost : ℕ) → 1 ≤ cost → ((z : PortValue) → within z vs + count z drops ≡ within z f.values) → LawOf p x (Own (behind x.execution n f below vs) [] drops cost)
    behind_law n vs drops cost some same = tops (at_entry (record f { values = vs }) n) [] drops cost some (λ z. omega (arith, same z))

    assigns : (e : Point) (s : Result Span Fault) (v : Result Value Fault) → LawOf p x (action.assigns x.execution e f below s v)
    assigns e (Err fault) v = fails (line_of e) fault
    assigns e (Ok s) (Err fault) = fails (line_of e) fault
    assigns e (Ok s) (Ok v) = behind_law e.entry.after (written f.values s (word_of v ∷ [])) [] 1 (omega arith) (λ z. omega (arith, written_law z f.values s (word_of v ∷ []), count-nil z))

    prints : (e : Point) (v : Result (List Printed) Fault) → LawOf p x (action.prints x.execution e f below v)
    prints e (Err fault) = fails (line_of e) fault
    prints e (Ok items) = tops (at_entry f e.entry.after) _ [] _ (omega arith) (λ z. omega (arith, count-nil z))

    tests : (e : Point) (v : Result Value Fault) → LawOf p x (action.tests x.execution e f below v)
    tests e (Err fault) = fails (line_of e) fault
    tests e (Ok v) = goes (cond (is_true v) e.entry.after e.links.other)

    begins : (b : Bool) (e : Point) (w : Execution) → LawOf p x (Own w [] [] 1) → LawOf p x (cond b (action.fails (line_of e) ZeroDivide) (Own w [] [] 1))
    begins true e w law = fails (line_of e) ZeroDivide
    begins false e w law = law

    loops : (e : Point) (s : Span) (m : Result (ℤ × ℤ × ℤ) Fault) → LawOf p x (action.loops x.execution e f below s m)
    loops e s (Err fault) = fails (line_of e) fault
    loops e s (Ok m) = begins (int_eq m.2 (pos 0)) e _ (writes _ s (m.0 ∷ []) 1 (omega arith) refl refl)

    adds : (e : Point) (opener body : ℕ) (s : Span) (count : ℕ) (by : ℤ) (v : Result ℤ Fault) → LawOf p x (action.adds x.execution e f below opener body s count by v)
    adds e opener body s count by (Err fault) = fails (line_of e) fault
    adds e opener body s count by (Ok n) = writes _ s (n ∷ []) 1 (omega arith) refl refl

    trips_end : (e : Point) (opener body : ℕ) (s : Span) (l : Option (ℕ × ℤ)) → LawOf p x (action.loop_trips x.execution e f below opener body s l)
    trips_end e opener body s None = goes e.entry.after
    trips_end e opener body s (Some l) = adds e opener body s l.0 l.1 (sum (word_at f.values s) l.1)

    ends_loop : (u : ProgramUnit) (e : Point) (opener body : ℕ) (l : Loop) → LawOf p x (action.ends_loop x.execution u e f below opener body l)
    ends_loop u e opener body (Counted name) = trips_end e opener body (scalar_place (variable_of u name)) (finite.get f.loops opener)
    ends_loop u e opener body While = goes opener
    ends_loop u e opener body NoLoop = tt

    end_by : (u : ProgramUnit) (e : Point) (opener : ℕ) (o : Option Entry) → LawOf p x (action.end_by x.execution u e f below opener o)
    end_by u e opener None = tt
    end_by u e opener (Some o) = ends_loop u e opener o.after (action.loop_of o.stmt)

    end_of : (u : ProgramUnit) (e : Point) (o : Option ℕ) → LawOf p x (action.end_of x.execution u e f below o)
    end_of u e None = tt
    end_of u e (Some o) = end_by u e o (slice_get u.tree.body o)

    -- ---- calls and returns

    opens : (caller : Frame) (n : ℕ) (u : ProgramUnit) (r : Returned) (backs : List Back) → caller.starts ≡ f.starts → ((z : PortValue) → accounted z r ≡ within z f.values) → LawOf p x (action.opens x.execution caller below n u r backs)
    opens caller n u r backs starts same =
        alone p x (gone_on x (framed x.execution (new_frame n r.theirs backs ∷ record caller { values = r.mine } ∷ below)) []) r.drops _ (omega arith) refl refl
        (λ z. omega (arith, same z, top z x f below at, ap (waiting z) starts, frames-cons z (new_frame n r.theirs backs) (record caller { values = r.mine } ∷ below), frames-cons z (record caller { values = r.mine }) below, count-nil z))

    refers : (line : ℕ) (g : Reference) (args : Result (List Actual) Fault) → LawOf p x (action.refers x.execution line f below g args)
    refers line (Element i v) args = tt
    refers line (Built g) args = tt
    refers line Unknown args = tt
    refers line (Call n u) (Ok args) = opens f n u (entered u f.values args) [] refl (λ z. entered_law z u f.values args)
    refers line (Call n u) (Err fault) = fails line fault

    references : (line : ℕ) (s : Scope) (t : Tree) → LawOf p x (action.reference_step x.execution line s f below t)
    references line s (Ref name args) = refers line (reference_of s name) (actuals_of s args (length f.results - refs_in_all s args))
    references line s (Number k) = tt
    references line s (Truth b) = tt
    references line s (Named name) = tt
    references line s (Paren e) = tt
    references line s (Signed op e) = tt
    references line s (Not e) = tt
    references line s (Binary op a b) = tt

    calls : (e : Point) (u : Option (ℕ × ProgramUnit)) (args : Result (List Actual) Fault) → LawOf p x (action.calls x.execution e f below u args)
    calls e None args = tt
    calls e (Some u) (Err fault) = fails (line_of e) fault
    calls e (Some u) (Ok args) = opens (at_entry f e.entry.after) u.0 u.1 (entered u.1 f.values args) (backs_of u.1 args) refl (λ z. entered_law z u.1 f.values args)

    -- ---- ports

    send : (c : ChanName) (w : ℕ) (q : Span) (items : List Actual) (n : ℕ) → port_at f.values q ≡ Some (Writer c w) → LawAt p x below f (Send c w items n)
    send c w q items n is = record {
      costs = λ c r. omega arith;
      uses = omega (arith, port_found (Writer c w) f.values q is, top (Writer c w) x f below at);
      numbered = tt;
      block_is = λ d r. refl;
      later_block = λ d r. omega arith;
      passed_block = λ d r h. absurd (omega arith);
      later_channel = λ d r. omega arith;
      passed_channel = λ d r n k e. absurd (cc);
      account = λ d r may z.
          let m = message_from f.values items in
          omega (
            arith,
            top z x f below at,
            frames-cons z (at_entry (record f { values = m.0 }) n) below,
            message_law z f.values items,
            none_kept z r.children,
            ap (sum_of (holding z)) may.1,
            ap (λ m. count z (got m)) may.0,
            count-nil z,
          );
    }

    sent_items : (e : Point) (c : ChanName) (w : ℕ) (q : Span) (items : Result (List Actual) Fault) → port_at f.values q ≡ Some (Writer c w) → LawOf p x (action.sent_items e c w items)
    sent_items e c w q (Err fault) is = fails (line_of e) fault
    sent_items e c w q (Ok items) is = meets (Send c w items e.entry.after) (send c w q items e.entry.after is)

    sent : (e : Point) (fields : PortFields) (q : Span) (items : List Actual) (o : Option PortValue) → port_at f.values q ≡ o → LawOf p x (action.sent e fields o items)
    sent e t q items None is = fails (line_of e) NullPort
    sent e t q items (Some (Reader c)) is = fails (line_of e) NullPort
    sent e t q items (Some (Writer c w)) is = sent_items e c w q (action.cut_items [] t items) is

    sends : (e : Point) (fields : PortFields) (q : Result Span Fault) (items : Result (List Actual) Fault) → LawOf p x (action.sends e fields f q items)
    sends e t (Err fault) items = fails (line_of e) fault
    sends e t (Ok q) (Err fault) = fails (line_of e) fault
    sends e t (Ok q) (Ok items) = sent e t q items (port_at f.values q) refl

    closed : (e : Point) (vs : List Item) (o : Option PortValue) → ((z : PortValue) → within z vs + found z o ≡ within z f.values) → LawOf p x (action.closed x.execution e f below vs o)
    closed e vs None same = fails (line_of e) NullPort
    closed e vs (Some v) same = behind_law e.entry.after vs (v ∷ []) 1 (omega arith) same

    closes : (e : Point) (q : Result Span Fault) → LawOf p x (action.closes x.execution e f below q)
    closes e (Err fault) = fails (line_of e) fault
    closes e (Ok q) = closed e (emptied_place f.values q).0 (emptied_place f.values q).1 (λ z. omega (arith, exchange_law z f.values q.variable q.first None, found-none z))

    moves : (e : Point) (r : Result (Span × Span) Fault) → LawOf p x (action.moves x.execution e f below r)
    moves e (Err fault) = fails (line_of e) fault
    moves e (Ok r) =
        let out = emptied_place f.values r.0 in
        let in' = put_port out.0 r.1 out.1 in
        behind_law e.entry.after in'.0 (option_to_list in'.1) 1 (omega arith) (λ z. omega (arith, exchange_law z f.values r.0.variable r.0.first None, exchange_law z out.0 r.1.variable r.1.first out.1, found-none z))

    makes : (next : ℕ) (places : List Span) (n cost : ℕ) → 1 ≤ cost → LawAt p x below f (Make places n cost next)
    makes next places n cost some = record {
      costs = λ c r. some;
      uses = tt;
      numbered = refl;
      block_is = λ c r. refl;
      later_block = λ c r. omega arith;
      passed_block = λ c r h. absurd (omega arith);
      later_channel = λ c r. omega arith;
      passed_channel = λ c r k w e. omega arith;
      account = λ c r may z.
          let in' = placed_all f.values places (ports_from c n) in
          omega (
            arith,
            top z x f below at,
            frames-cons z (at_entry (record f { values = in'.0 }) next) below,
            placed_law z f.values places (ports_from c n),
            none_kept z r.children,
            ap (sum_of (holding z)) may.1,
            ap (λ m. count z (got m)) may.0,
            count-nil z,
          );
    }

    make : (e : Point) (r : Result (Span × Span) Fault) → LawOf p x (action.makes e r)
    make e (Err fault) = fails (line_of e) fault
    make e (Ok r) = meets (Make (r.0 ∷ r.1 ∷ []) 1 1 e.entry.after) (makes e.entry.after (r.0 ∷ r.1 ∷ []) 1 1 (omega arith))

    merges : (e : Point) (r : Result (Span × List Span) Fault) → LawOf p x (action.merges e r)
    merges e (Err fault) = fails (line_of e) fault
    merges e (Ok r) = meets (Make (r.0 ∷ action.elements_of r.1) (length (action.elements_of r.1)) (1 + length (action.elements_of r.1)) e.entry.after) (makes e.entry.after (r.0 ∷ action.elements_of r.1) (length (action.elements_of r.1)) (1 + length (action.elements_of r.1)) (omega arith))

    -- what came goes in or is let go
    record Takes (m : Option Message) (o : Onward Proc) : Type 0 where
      block_is : o.block ≡ x.next_block
      next_block : o.self.next_block ≡ x.next_block
      next_channel : o.self.next_channel ≡ x.next_channel
      starts : o.starts ≡ []
      costs : 1 ≤ o.cost
      account : (z : PortValue) → holding z o.self + count z o.drops ≡ holding z x + count z (got m)

    status_law : (z : PortValue) (vs : List Item) (s : Option Span) (n : ℤ) → within z (with_status vs s n) ≡ within z vs
    status_law z vs None n = refl
    status_law z vs (Some s) n = written_law z vs s (n ∷ [])

    takes : (line next : ℕ) (items : List Span) (iostat : Option Span) (to : Option ℕ) (m : Option Message) → Takes m (received x line below f next items iostat to m)
    takes line next items iostat to (Some m) = record {
      block_is = refl;
      next_block = refl;
      next_channel = refl;
      starts = refl;
      costs = omega arith;
      account = λ z.
          let in' = stored_all f.values items m in
          omega (arith, top z x f below at, frames-cons z (at_entry (record f { values = with_status in'.0 iostat (pos 0) }) next) below, status_law z in'.0 iostat (pos 0), stored_all_law z f.values items m);
    }
    takes line next items None None None = record { block_is = refl; next_block = refl; next_channel = refl; starts = refl; costs = omega arith; account = λ z. omega (arith, count-nil z) }
    takes line next items None (Some n) None = record { block_is = refl; next_block = refl; next_channel = refl; starts = refl; costs = omega arith; account = λ z. omega (arith, top z x f below at, frames-cons z (at_entry f n) below, count-nil z) }
    takes line next items (Some s) to None = record {
      block_is = refl;
      next_block = refl;
      next_channel = refl;
      starts = refl;
      costs = omega arith;
      account = λ z. omega (arith, top z x f below at, frames-cons z (at_entry (record f { values = with_status f.values (Some s) (negsuc 0) }) (jump_to next to)) below, status_law z f.values (Some s) (negsuc 0), count-nil z);
    }

    takes_met : (line next : ℕ) (items : List Span) (iostat : Option Span) (to : Option ℕ) (exceeds : Bool) (m : Option Message) → Takes m (steps.met x line below f next items iostat to exceeds m)
    takes_met line next items iostat to true None = record { block_is = refl; next_block = refl; next_channel = refl; starts = refl; costs = omega arith; account = λ z. omega (arith, count-nil z) }
    takes_met line next items iostat to true (Some m) = takes line next items iostat to (Some m)
    takes_met line next items iostat to false m = takes line next items iostat to m

    receive : (c : ChanName) (q : Span) → port_at f.values q ≡ Some (Reader c) → (line next : ℕ) (items : List Span) (iostat : Option Span) (to : Option ℕ) → LawAt p x below f (Receive c line items iostat to next)
    receive c q is line next items iostat to = record {
      costs = λ d r. (takes_met line next items iostat to r.exceeds r.message).costs;
      uses = omega (arith, port_found (Reader c) f.values q is, top (Reader c) x f below at);
      numbered = tt;
      block_is = λ d r. (takes_met line next items iostat to r.exceeds r.message).block_is;
      later_block = λ d r. omega (arith, (takes_met line next items iostat to r.exceeds r.message).next_block);
      passed_block = λ d r h. absurd (omega (arith, h, ap length (takes_met line next items iostat to r.exceeds r.message).starts));
      later_channel = λ d r. omega (arith, (takes_met line next items iostat to r.exceeds r.message).next_channel);
      passed_channel = λ d r n k e. absurd (cc);
      account = λ d r may z.
          omega (arith, (takes_met line next items iostat to r.exceeds r.message).account z, ap (sum_of (holding z)) (takes_met line next items iostat to r.exceeds r.message).starts, none_kept z r.children, ap (sum_of (holding z)) may.1, count-nil z);
    }

    receives_at : (e : Point) (r : Receiving) (o : Option PortValue) → port_at f.values r.0 ≡ o → LawOf p x (action.receives_at e r o)
    receives_at e r None is = fails (line_of e) NullPort
    receives_at e r (Some (Writer c w)) is = fails (line_of e) NullPort
    receives_at e r (Some (Reader c)) is = meets (Receive c (line_of e) r.2 r.1 e.links.jump e.entry.after) (receive c r.0 is (line_of e) e.entry.after r.2 r.1 e.links.jump)

    receives : (e : Point) (r : Result Receiving Fault) → LawOf p x (action.receives e f r)
    receives e (Err fault) = fails (line_of e) fault
    receives e (Ok r) = receives_at e r (port_at f.values r.0) refl

    probe : (c : ChanName) (q : Span) → port_at f.values q ≡ Some (Reader c) → (next : ℕ) (place : Span) → LawAt p x below f (Probe c place next)
    probe c q is next place = record {
      costs = λ c r. omega arith;
      uses = omega (arith, port_found (Reader c) f.values q is, top (Reader c) x f below at);
      numbered = tt;
      block_is = λ d r. refl;
      later_block = λ d r. omega arith;
      passed_block = λ d r h. absurd (omega arith);
      later_channel = λ d r. omega arith;
      passed_channel = λ d r n k e. absurd (cc);
      account = λ d r may z.
          omega (
            arith,
            top z x f below at,
            frames-cons z (at_entry (record f { values = written f.values place (truth_word r.waits ∷ []) }) next) below,
            written_law z f.values place (truth_word r.waits ∷ []),
            none_kept z r.children,
            ap (sum_of (holding z)) may.1,
            ap (λ m. count z (got m)) may.0,
            count-nil z,
          );
    }

    probes_at : (e : Point) (q empty : Span) (o : Option PortValue) → port_at f.values q ≡ o → LawOf p x (action.probes_at e empty o)
    probes_at e q empty None is = fails (line_of e) NullPort
    probes_at e q empty (Some (Writer c w)) is = fails (line_of e) NullPort
    probes_at e q empty (Some (Reader c)) is = meets (Probe c empty e.entry.after) (probe c q is e.entry.after empty)

    probes : (e : Point) (r : Result (Span × Span) Fault) → LawOf p x (action.probes e f r)
    probes e (Err fault) = fails (line_of e) fault
    probes e (Ok r) = probes_at e r.0 r.1 (port_at f.values r.0) refl

    -- ---- blocks

    waiting-last : (z : PortValue) (ss : List Start) (s : Start) → waiting z (ss ++ s ∷ []) ≡ waiting z ss + within z s.values
    waiting-last z ss s =
        omega (arith, ap (count z) (flat_map-append (λ (s : Start). message_ports s.values) ss (s ∷ [])), count-append z (started_ports ss) (message_ports s.values ++ []), count-append z (message_ports s.values) [], count-nil z)

    pended : (e : Point) (n : ℕ) (u : ProgramUnit) (backs : List Back) (seat : Seat) (t : Returned) → ((z : PortValue) → accounted z t ≡ within z f.values) → LawOf p x (action.pended x.execution e f below n u backs seat t)
    pended e n u backs seat t same = tops _ [] t.drops _ (omega arith) (λ z. omega (arith, same z, waiting-last z f.starts (record { unit = n; values = t.theirs; backs = backs; machine = seat.0; node = seat.1 })))

    starts_one : (e : Point) (n : ℕ) (u : ProgramUnit) (r : Result (List Actual × Seat) Fault) → LawOf p x (action.starts_one x.execution e f below n u r)
    starts_one e n u (Err fault) = fails (line_of e) fault
    starts_one e n u (Ok r) = pended e n u (backs_of u r.0) r.1 (entered u f.values r.0) (λ z. entered_law z u f.values r.0)

    process_calls : (s : Scope) (e : Point) (u : Option (ℕ × ProgramUnit)) (args : List Tree) (w : Option Where) → LawOf p x (action.process_calls x.execution s e f below u args w)
    process_calls s e None args w = tt
    process_calls s e (Some u) args w = starts_one e u.0 u.1 _

    started_parts : (z : PortValue) (ss : List Start) → sum_of (holding z) (map child_of ss) ≡ waiting z ss
    started_parts z [] = omega (arith, count-nil z)
    started_parts z (s ∷ ss) = omega (arith, started_parts z ss, frames-cons z (new_frame s.unit s.values s.backs) [], count-nil z, count-append z (message_ports s.values) (started_ports ss))

    begun : LawAt p x below f Begin
    begun = record {
      costs = λ c r. omega arith;
      uses = tt;
      numbered = tt;
      block_is = λ c r. refl;
      later_block = λ c r. omega arith;
      passed_block = λ c r h. omega arith;
      later_channel = λ c r. omega arith;
      passed_channel = λ c r n k e. absurd (cc);
      account = λ c r may z.
          omega (
            arith,
            top z x f below at,
            frames-cons z (record f { starts = [] }) below,
            started_parts z f.starts,
            none_kept z r.children,
            ap (sum_of (holding z)) may.1,
            ap (λ m. count z (got m)) may.0,
            count-nil z,
          );
    }

    begin : LawOf p x (Meets Begin)
    begin = meets Begin begun

    given_law : (z : PortValue) (b : Bool) (r : Returned) (bs : List Back) → accounted z (given_back b r bs) ≡ accounted z r
    given_law z true r bs = all_back_law z r bs
    given_law z false r bs = refl

    kid_law : (z : PortValue) (r : Returned) (k : Kid) (fs : List Frame) → own z (kid_back r k fs) ≡ own z r + count z (frames_ports fs)
    kid_law z r k [] = omega (arith, count-nil z)
    kid_law z r k (g ∷ gs) =
        let t = given_back (g.unit == k.unit) (record r { theirs = g.values }) k.backs in
        omega (arith, frames-cons z g gs, count-append z (started_ports g.starts) (frames_ports gs), given_law z (g.unit == k.unit) (record r { theirs = g.values }) k.backs, without_law z t, count-append z (without_theirs t).drops (started_ports g.starts ++ frames_ports gs))

    kids_law : (z : PortValue) (r : Returned) (kids : List Kid) (ys : List Proc) → own z (kids_back r kids ys) ≡ own z r + sum_of (holding z) ys
    kids_law z r [] [] = omega arith
    kids_law z r (k ∷ ks) [] = omega arith
    kids_law z r [] (y ∷ ys) = let none : Kid = record { unit = 0; backs = [] } in omega (arith, kids_law z (kid_back r none y.execution.frames) [] ys, kid_law z r none y.execution.frames)
    kids_law z r (k ∷ ks) (y ∷ ys) = omega (arith, kids_law z (kid_back r k y.execution.frames) ks ys, kid_law z r k y.execution.frames)

    joined : (block : ℕ) (kids : List Kid) (next : ℕ) → LawAt p x below f (Join block kids next)
    joined block kids next = record {
      costs = λ c r. omega arith;
      uses = tt;
      numbered = tt;
      block_is = λ c r. refl;
      later_block = λ c r. omega arith;
      passed_block = λ c r h. absurd (omega arith);
      later_channel = λ c r. omega arith;
      passed_channel = λ c r n k e. absurd (cc);
      account = λ c r may z.
          let t = kids_back (record { mine = f.values; theirs = []; drops = [] }) kids r.children in
          omega (
            arith,
            top z x f below at,
            frames-cons z (at_entry (record f { values = t.mine }) next) below,
            kids_law z (record { mine = f.values; theirs = []; drops = [] }) kids r.children,
            none_kept z r.children,
            ap (λ m. count z (got m)) may,
            count-nil z,
          );
    }

    join : (block : ℕ) (kids : List Kid) (next : ℕ) → LawOf p x (Meets (Join block kids next))
    join block kids next = meets (Join block kids next) (joined block kids next)

  -- ---- returns

  gives_back : (f : Frame) (below : List Frame) → x.execution.frames ≡ f ∷ below → LawOf p x (action.gives_back x.execution f below)
  gives_back f [] at = ends f [] at
  gives_back f (g ∷ below) at =
      let r = returned g.values f.values f.backs in
      alone p x (gone_on x (framed x.execution (record g { values = r.mine } ∷ below)) []) _ _ (omega arith) refl refl
      (λ z. omega (
        arith,
        top z x f (g ∷ below) at,
        frames-cons z g below,
        frames-cons z (record g { values = r.mine }) below,
        returned_law z g.values f.values f.backs,
        count-append z r.drops (started_ports f.starts),
      ))

  results_in : (u : ProgramUnit) (f : Frame) (below : List Frame) → x.execution.frames ≡ f ∷ below → LawOf p x (action.results_in x.execution u f below)
  results_in u f [] at = ends f [] at
  results_in u f (g ∷ below) at =
      alone p x (gone_on x (framed x.execution (record g { results = g.results ++ word_at f.values (scalar_place (result_variable u)) ∷ [] } ∷ below)) []) _ _ (omega arith) refl refl
      (λ z. omega (
        arith,
        top z x f (g ∷ below) at,
        frames-cons z g below,
        frames-cons z (record g { results = g.results ++ word_at f.values (scalar_place (result_variable u)) ∷ [] }) below,
        frame-parts z f,
      ))

  returns : (u : ProgramUnit) (f : Frame) (below : List Frame) → x.execution.frames ≡ f ∷ below → (role : UnitKind) → LawOf p x (action.returns x.execution u f below role)
  returns u f below at unit_kind.Program = ends f below at
  returns u f below at unit_kind.Process = ends f below at
  returns u f below at unit_kind.Subroutine = gives_back f below at
  returns u f below at unit_kind.Function = results_in u f below at

  -- ---- statements

  module _ (u : ProgramUnit) (e : Point) (f : Frame) (below : List Frame) (at : x.execution.frames ≡ f ∷ below) (s : Scope) where
    simple_law : (k : Simple) → LawOf p x (action.simple_action p x.execution u e f below s k)
    simple_law (simple.Assignment v t) = assigns f below at e _ _
    simple_law (simple.Goto l) = jumps f below at e.links.jump
    simple_law simple.Continue = goes f below at e.entry.after
    simple_law simple.Return = returns u f below at (kind_of u)
    simple_law simple.Stop = ends f below at
    simple_law (simple.Call name args) = calls f below at e (unit_named p name) _
    simple_law (simple.Print items) = prints f below at e _
    simple_law (simple.Write unit items) = prints f below at e _
    simple_law (simple.Channel in_first i o) = make f below at e _
    simple_law (simple.Merger i os) = merges f below at e _
    simple_law (simple.Send named q items) = sends f below at e (action.fields_at u q) _ _
    simple_law (simple.Receive named q extras items) = receives f below at e _
    simple_law (simple.EndChannel named q) = closes f below at e _
    simple_law (simple.MovePort from to) = moves f below at e _
    simple_law (simple.Probe named q empty) = probes f below at e _

    statement_law : (k : Stmt) → LawOf p x (action.statement_action p x.execution u e f below s k)
    statement_law (stmt.Simple k) = simple_law k
    statement_law (stmt.LogicalIf t k) = tests f below at e _
    statement_law (stmt.BlockIf t) = tests f below at e _
    statement_law (stmt.ElseIf t) = tests f below at e _
    statement_law stmt.Else = goes f below at e.entry.after
    statement_law stmt.EndIf = goes f below at e.entry.after
    statement_law (stmt.Do h) = loops f below at e (scalar_place (variable_of u h.variable)) (action.loop_bounds s h)
    statement_law (stmt.ProcessDo h) = loops f below at e (scalar_place (variable_of u h.variable)) (action.loop_bounds s h)
    statement_law (stmt.DoWhile t) = tests f below at e _
    statement_law stmt.EndDo = end_of f below at u e e.entry.mate
    statement_law stmt.EndProcessDo = end_of f below at u e e.entry.mate
    statement_law stmt.LoopEnd = end_of f below at u e e.entry.mate
    statement_law stmt.End = returns u f below at (kind_of u)
    statement_law stmt.Processes = goes f below at e.entry.after
    statement_law stmt.EndProcesses = begin f below at
    statement_law (stmt.ProcessCall name part) = process_calls f below at s e (unit_named p name) _ _
    statement_law (stmt.Program name) = tt
    statement_law (stmt.Process name formals) = tt
    statement_law (stmt.Subroutine name formals) = tt
    statement_law (stmt.Function name formals) = tt
    statement_law (stmt.IntegerFunction name formals) = tt
    statement_law (stmt.LogicalFunction name formals) = tt
    statement_law stmt.ImplicitNone = tt
    statement_law (stmt.Integer ds) = tt
    statement_law (stmt.Logical ds) = tt
    statement_law (stmt.Dimension ds) = tt
    statement_law (stmt.Parameter ds) = tt
    statement_law (stmt.Inport t ds) = tt
    statement_law (stmt.Outport t ds) = tt
    statement_law (stmt.Intent w names) = tt
    statement_law (stmt.Processors es) = tt

  by_law : (u : ProgramUnit) (e : Point) (f : Frame) (below : List Frame) → x.execution.frames ≡ f ∷ below → (t : Option Tree) → LawOf p x (action.action_by p x.execution u e f below t)
  by_law u e f below at (Some t) = references f below at (line_of e) (action.scope_of p u f) t
  by_law u e f below at None = statement_law u e f below at (action.scope_of p u f) e.entry.stmt

  point_law : (u : ProgramUnit) (f : Frame) (below : List Frame) → x.execution.frames ≡ f ∷ below → (e : Option Point) → LawOf p x (action.point_action p x.execution u f below e)
  point_law u f below at None = tt
  point_law u f below at (Some e) = by_law u e f below at (action.next_reference e.entry (length f.results))

  at_law : (f : Frame) (below : List Frame) → x.execution.frames ≡ f ∷ below → (u : Option ProgramUnit) → LawOf p x (action.action_at p x.execution f below u)
  at_law f below at None = tt
  at_law f below at (Some u) = point_law u f below at (point_at u f.entry)

  running_law : (fs : List Frame) → x.execution.frames ≡ fs → LawOf p x (action.running p x.execution fs)
  running_law [] at = tt
  running_law (f ∷ below) at = at_law f below at (unit_at p f.unit)

  joining_law : (block : ℕ) (kids : List Kid) (fs : List Frame) → x.execution.frames ≡ fs → LawOf p x (action.joining p block kids fs)
  joining_law block kids [] at = tt
  joining_law block kids (f ∷ below) at = join f below at block kids _

  phase_law : (phase : Phase) → LawOf p x (action_in p x.execution phase)
  phase_law Running = running_law x.execution.frames refl
  phase_law (Joining block kids) = joining_law block kids x.execution.frames refl
  phase_law Ended = tt
  phase_law (Faulted line fault) = tt

  stops : (phase : Phase) → is_ended phase ≡ true → ask_for p x (action_in p x.execution phase) ≡ Stop
  stops Running e = absurd (cc)
  stops (Joining block kids) e = absurd (cc)
  stops Ended e = refl
  stops (Faulted line fault) e = absurd (cc)

pub lawful : (p : Program) → IsLawfulLanguage (language p)
lawful p = record { stops = λ x e. stops p x x.phase e; stays_ended = λ x e. e; same_block = λ x. refl; same_channel = λ x. refl; goes = λ x. phase_law p x x.phase }
