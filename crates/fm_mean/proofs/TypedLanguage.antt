-- A program whose checks of ports passed keeps ports at places of the type of their channel, and sends
-- messages that fit their channel.
use Rattle.std.proofs.Common.{◌≡◌, ℕ, zero, suc, ℤ, pos, negsuc, ◌+◌, ◌-◌, ◌==◌, Bool, true, false, cond, Option, Some, None, List, [], ◌∷◌, ◌++◌, map, length, slice_get, unwrap_or, Result, Ok, Err, refl, sym, ap, ◌∙◌, subst, eqb-true}
use Rattle.std.specs.FinMap as finite
use Rattle.fm_base.specs.declared.fault.Fault.{Fault}
use Rattle.fm_base.specs.declared.fault.Fault.TheVariants.{NullPort, ZeroDivide}
use Rattle.fm_base.specs.declared.output.Printed.{Printed}
use Rattle.fm_base.specs.declared.path.ChanName.{ChanName}
use Rattle.fm_base.specs.declared.port.PortValue.{PortValue}
use Rattle.fm_base.specs.declared.port.PortValue.TheVariants.{Writer, Reader}
use Rattle.fm_base.specs.Channels.{Item, Words, Ports, Message, numbers_from}
use Rattle.fm_values.specs.declared.value.Value.{Value}
use Rattle.fm_values.specs.Values.{sum, word_of, is_true, truth_word}
use Rattle.fm_tree.specs.Tree.{Tree, Trees, Number, Truth, Named, Ref, Paren, Signed, Not, Binary, trees_from}
use Rattle.fm_tree.specs.declared.statement.Var.{Var}
use Rattle.fm_tree.specs.declared.statement.Extra.{Extra}
use Rattle.fm_tree.specs.declared.statement.Where.{Where}
use Rattle.fm_tree.specs.declared.statement.Simple.{Simple}
use Rattle.fm_tree.specs.declared.statement.Simple.TheVariants as simple
use Rattle.fm_tree.specs.declared.statement.Stmt.{Stmt}
use Rattle.fm_tree.specs.declared.statement.Stmt.TheVariants as stmt
use Rattle.fm_rules.specs.Links.{links_of}
use Rattle.fm_net.specs.Owned.{count}
use Rattle.fm_net.specs.Lawful.{ports_from}
use Rattle.fm_net.specs.Typed.{AllIn, IsTypedAsk, IsTypedLanguage}
use Rattle.fm_tree.specs.PortFields.{PortFields, FieldKind, NoFields, Integer, Logical, In, Out}
use Rattle.std.specs.Ordering.{int_eq}
use Rattle.fm_tree.specs.declared.form.UnitKind.{UnitKind}
use Rattle.fm_tree.specs.declared.form.UnitKind.TheVariants as unit_kind
use Rattle.fm_tree.specs.declared.program_unit.Entry.{Entry}
use Rattle.fm_symbols.specs.declared.names.Variable.{Variable}
use Rattle.fm_rules.specs.declared.program.Program.{Program}
use Rattle.fm_mean.specs.Names.{ProgramUnit, Point, unit_at, unit_named, kind_of, variable_of, result_variable, point_at, line_of}
use Rattle.fm_mean.specs.declared.place.Actual.{Actual}
use Rattle.fm_mean.specs.declared.place.Back.{Back}
use Rattle.fm_mean.specs.declared.place.Span.{Span}
use Rattle.fm_mean.specs.Places.{items_at, ports_in, word_at, port_at, written, emptied_place, stored_all, placed_all, message_from, Returned, returned}
use Rattle.fm_mean.specs.Evaluate.{value_of, Scope, Reference, Element, Call, Built, Unknown, reference_of, refs_in_all, refs_in_var, place_of, places_of, actuals_of}
use Rattle.fm_mean.specs.Process.{Start, Frame, Execution, framed, Kid, Phase, Running, Joining, Ended, Faulted, Proc}
use Rattle.fm_map.specs.Placement.{Seat, fitted}
use Rattle.fm_mean.specs.Calls.{entered, backs_of, new_frame, child_of, variables_in, ended_frames}
use Rattle.fm_mean.specs.Actions as action
use Rattle.fm_mean.specs.Actions.{Event, Fail, Make, Send, Receive, Probe, Begin, Join, End, Action, Rest, Own, Meets, at_entry, behind, goes_to, gone_on, Receiving, Loop, Counted, While, NoLoop, scalar_place, action_in, scope_of, next_reference, elements_from, elements_of}
use Rattle.fm_mean.specs.Steps as steps
use Rattle.fm_mean.specs.Steps.{made, with_status, jump_to, received, kid_of, given_back, kid_back, kids_back, ask_at, ask_event, ask_for, language}
use Rattle.fm_mean.specs.Fits.{sort_of_variable, IsBit, BitsAt, Types, PortFits, MayStand, ItemFits, ValuesFit, MessageFits, Fits, sort_at, BackFits, variables_of, StartFits, FrameFits, FramesFit, KidFits, KidsFit, PhaseFits, IsFine, ItemsFit, PlacesFit, EnterFrom}
use Rattle.fm_tree.specs.declared.statement.Extra.TheVariants as extra
use Rattle.fm_mean.specs.Typing.{IsScope, ValueFits, ExtraFits, LoopFits, sort_of, VarsFit, ArgumentsFit, ReferenceFits, IsTypedSimple, IsTypedStatement, IsTypedReference, IsTypedEntry, IsTypedProgram}
use Rattle.fm_mean.proofs.Fitting.{MayStandAt, null_stands, exchange_fits, written_fits, message_fits, stored_all_fits, MayBePlaced, placed_fits, BothFit, all_back_fits, entered_fits, backs_fit, kept_fits}
use Rattle.fm_mean.proofs.Sorts.{fields_of_outport, loop_sort, parts, place_sort, places_fit, places_sorts, named_at}
use Rattle.fm_mean.proofs.Agreeing.{message_agrees, frames_agree}
use Rattle.fm_mean.proofs.Determined.{reference_is, point_entry}

-- what an action owes
abbrev TypedOf : Program → Proc → Action → Type 0
TypedOf p x a = IsTypedAsk (language p) (IsFine p) Fits x (ask_for p x a)

-- ---- frames

pub top_fits : (p : Program) (types : Types) (f : Frame) (fs : List Frame) → FramesFit p types (f ∷ fs) → FrameFits p types f
top_fits p types f [] fits = fits
top_fits p types f (g ∷ fs) fits = fits.0

-- another frame of the same unit on those below
retopped : (p : Program) (types : Types) (f g : Frame) (fs : List Frame) → g.unit ≡ f.unit → g.backs ≡ f.backs → FramesFit p types (f ∷ fs) → FrameFits p types g → FramesFit p types (g ∷ fs)
retopped p types f g [] unit backs fits h = h
retopped p types f g (k ∷ fs) unit backs fits h =
    (h, subst (λ n. AllIn (BackFits (variables_of p k.unit) (variables_of p n)) g.backs) (sym unit) (subst (AllIn (BackFits (variables_of p k.unit) (variables_of p f.unit))) (sym backs) fits.1), fits.2)

kept_frames : (p : Program) (types : Types) (fs : List Frame) → FramesFit p types fs → FramesFit p types (ended_frames p fs).0
kept_frames p types [] fits = tt
kept_frames p types (f ∷ []) fits = (kept_fits types (variables_of p f.unit) f.values fits.0, tt)
kept_frames p types (f ∷ g ∷ fs) fits = kept_frames p types (g ∷ fs) fits.2

starts_push : (p : Program) (types : Types) (mine : List Variable) (ss : List Start) (s : Start) → AllIn (StartFits p types mine) ss → StartFits p types mine s → AllIn (StartFits p types mine) (ss ++ s ∷ [])
starts_push p types mine [] s all h = (h, tt)
starts_push p types mine (t ∷ ss) s all h = (all.0, starts_push p types mine ss s all.1 h)

children_fine : (p : Program) (types : Types) (mine : List Variable) (ss : List Start) → AllIn (StartFits p types mine) ss → AllIn (IsFine p types) (map child_of ss)
children_fine p types mine [] all = tt
children_fine p types mine (s ∷ ss) all = (((all.0.0, tt), tt), children_fine p types mine ss all.1)

kids_begin : (p : Program) (types : Types) (mine : List Variable) (ss : List Start) → AllIn (StartFits p types mine) ss → AllIn (KidFits p mine) (map kid_of ss)
kids_begin p types mine [] all = tt
kids_begin p types mine (s ∷ ss) all = (all.0.1, kids_begin p types mine ss all.1)

-- ---- joins

given_fits : (p : Program) (types : Types) (mine : List Variable) (n m : ℕ) (b : Bool) → n == m ≡ b → (r : Returned) (bs : List Back) → AllIn (BackFits mine (variables_of p m)) bs → BothFit types mine (variables_of p n) r → ValuesFit types mine (given_back b r bs).mine
given_fits p types mine n m true e r bs all both =
    (all_back_fits types mine (variables_of p n) r bs (subst (λ k. AllIn (BackFits mine (variables_of p k)) bs) (sym (eqb-true n m e)) all) both).0
given_fits p types mine n m false e r bs all both = both.0

kid_fits : (p : Program) (types : Types) (mine : List Variable) (r : Returned) (k : Kid) (fs : List Frame) → KidFits p mine k → FramesFit p types fs → ValuesFit types mine r.mine → ValuesFit types mine (kid_back r k fs).mine
kid_fits p types mine r k [] all fits h = h
kid_fits p types mine r k (f ∷ fs) all fits h = given_fits p types mine f.unit k.unit (f.unit == k.unit) refl (record r { theirs = f.values }) k.backs all (h, (top_fits p types f fs fits).0)

kids_fit : (p : Program) (types : Types) (mine : List Variable) (r : Returned) (ks : List Kid) (ys : List Proc) → AllIn (KidFits p mine) ks → AllIn (IsFine p types) ys → ValuesFit types mine r.mine → ValuesFit types mine (kids_back r ks ys).mine
kids_fit p types mine r [] [] all fine h = h
kids_fit p types mine r (k ∷ ks) [] all fine h = h
kids_fit p types mine r [] (y ∷ ys) all fine h =
    let none : Kid = record { unit = 0; backs = [] } in
    kids_fit p types mine (kid_back r none y.execution.frames) [] ys tt fine.1 (kid_fits p types mine r none y.execution.frames tt fine.0.0 h)
kids_fit p types mine r (k ∷ ks) (y ∷ ys) all fine h = kids_fit p types mine (kid_back r k y.execution.frames) ks ys all.1 fine.1 (kid_fits p types mine r k y.execution.frames all.0 fine.0.0 h)

the_status : (a b : Option Span × ℕ) → ◌≡◌ {A = Result (Option Span × ℕ) Fault} (Ok a) (Ok b) → a ≡ b
the_status a b e = cc

-- ---- channels that are made

the_sort : (a b : FieldKind) → Some a ≡ Some b → a ≡ b
the_sort a b e = cc

stands_in : (types : Types) (vars : List Variable) (i : ℕ) (t : PortFields) (c : ChanName) → sort_at vars i ≡ Some (In t) → types c ≡ t → MayStandAt types vars i (Some (Reader c))
stands_in types vars i t c is made s e = subst (λ s. PortFits types s (Reader c)) (the_sort (In t) s (sym is ∙ e)) made

stands_out : (types : Types) (vars : List Variable) (i : ℕ) (t : PortFields) (c : ChanName) (w : ℕ) → sort_at vars i ≡ Some (Out t) → types c ≡ t → MayStandAt types vars i (Some (Writer c w))
stands_out types vars i t c w is made s e = subst (λ s. PortFits types s (Writer c w)) (the_sort (Out t) s (sym is ∙ e)) made

-- these places are outports
abbrev AreOutports : List Variable → PortFields → List Span → Type 0
AreOutports vars t xs = AllIn (λ (x : Span). sort_at vars x.variable ≡ Some (Out t)) xs

writers_placed : (types : Types) (vars : List Variable) (t : PortFields) (c : ChanName) (xs : List Span) (i n : ℕ) → AreOutports vars t xs → types c ≡ t → MayBePlaced types vars xs (map (Writer c) (numbers_from i n))
writers_placed types vars t c xs i zero all made = tt
writers_placed types vars t c [] i (suc n) all made = tt
writers_placed types vars t c (x ∷ xs) i (suc n) all made = (stands_out types vars x.variable t c i all.0 made, writers_placed types vars t c xs (suc i) n all.1 made)

outports-append : (vars : List Variable) (t : PortFields) (xs ys : List Span) → AreOutports vars t xs → AreOutports vars t ys → AreOutports vars t (xs ++ ys)
outports-append vars t [] ys h g = g
outports-append vars t (x ∷ xs) ys h g = (h.0, outports-append vars t xs ys h.1 g)

elements_out : (vars : List Variable) (t : PortFields) (i k n : ℕ) → sort_at vars i ≡ Some (Out t) → AreOutports vars t (elements_from i k n)
elements_out vars t i k zero is = tt
elements_out vars t i k (suc n) is = (is, elements_out vars t i (suc k) n is)

all_elements_out : (vars : List Variable) (t : PortFields) (xs : List Span) → AreOutports vars t xs → AreOutports vars t (elements_of xs)
all_elements_out vars t [] all = tt
all_elements_out vars t (x ∷ xs) all = outports-append vars t (elements_from x.variable x.first x.count) (elements_of xs) (elements_out vars t x.variable x.first x.count all.0) (all_elements_out vars t xs all.1)

-- ---- what a port says of its channel

found_in_list : (types : Types) (s : FieldKind) (ps : List (Option PortValue)) (k : ℕ) → AllIn (MayStand types s) ps → MayStand types s (unwrap_or (slice_get ps k) None)
found_in_list types s [] k all = tt
found_in_list types s (p ∷ ps) zero all = all.0
found_in_list types s (p ∷ ps) (suc k) all = found_in_list types s ps k all.1

found_in_item : (types : Types) (s : FieldKind) (n : ℕ) (v : Item) (k : ℕ) → ItemFits types s n v → MayStand types s (unwrap_or (slice_get (ports_in v) k) None)
found_in_item types s n (Words ws) k h = tt
found_in_item types Integer n (Ports ps) k h = absurd h
found_in_item types Logical n (Ports ps) k h = absurd h
found_in_item types (In t) n (Ports ps) k h = found_in_list types (In t) ps k h.1
found_in_item types (Out t) n (Ports ps) k h = found_in_list types (Out t) ps k h.1

found_in_values : (types : Types) (vars : List Variable) (vs : List Item) (i k : ℕ) → ValuesFit types vars vs → MayStandAt types vars i (unwrap_or (slice_get (ports_in (items_at vs i)) k) None)
found_in_values types vars [] i k fits s e = tt
found_in_values types [] (x ∷ xs) i k fits s e = absurd fits
found_in_values types (v ∷ vars) (x ∷ xs) zero k fits s e = subst (λ s. MayStand types s (unwrap_or (slice_get (ports_in x) k) None)) (the_sort (sort_of_variable v) s e) (found_in_item types (sort_of_variable v) v.words x k fits.0)
found_in_values types (v ∷ vars) (x ∷ xs) (suc i) k fits s e = found_in_values types vars xs i k fits.1 s e

found_stands : (types : Types) (vars : List Variable) (vs : List Item) (q : Span) (o : Option PortValue) → ValuesFit types vars vs → port_at vs q ≡ o → MayStandAt types vars q.variable o
found_stands types vars vs q o fits is = subst (MayStandAt types vars q.variable) is (found_in_values types vars vs q.variable q.first fits)

pub truth_bit : (b : Bool) → IsBit (truth_word b)
truth_bit true = tt
truth_bit false = tt

module _ (p : Program) (x : Proc) where
  -- a step of its own
  lone : (w : Execution) (lines : List (List ℕ)) (drops : List PortValue) (cost : ℕ) → ((types : Types) → IsFine p types x → IsFine p types (gone_on x w lines)) → TypedOf p x (Own w lines drops cost)
  lone w lines drops cost keeps = record { type_made = NoFields; sends = λ types fine. tt; goes_on = λ types fine c r made came all. (keeps types fine, tt) }

  met : (e : Event) (fs : List Frame) → x.execution.frames ≡ fs → IsTypedAsk (language p) (IsFine p) Fits x (ask_event p x e fs) → TypedOf p x (Meets e)
  met e fs at law = subst (λ gs. IsTypedAsk (language p) (IsFine p) Fits x (ask_event p x e gs)) (sym at) law

  ends : (f : Frame) (below : List Frame) → x.execution.frames ≡ f ∷ below → TypedOf p x (Meets End)
  ends f below at = met End (f ∷ below) at (record { type_made = NoFields; sends = λ types fine. tt; goes_on = λ types fine c r made came all. ((kept_frames p types x.execution.frames fine.0, tt), tt) })

  module _ (f : Frame) (below : List Frame) (at : x.execution.frames ≡ f ∷ below) (runs : x.phase ≡ Running) where
    meets : (e : Event) → IsTypedAsk (language p) (IsFine p) Fits x (ask_at p x below f e) → TypedOf p x (Meets e)
    meets e law = met e (f ∷ below) at law

    fails : (line : ℕ) (fault : Fault) → TypedOf p x (action.fails line fault)
    fails line fault = meets (Fail line fault) (record { type_made = NoFields; sends = λ types fine. tt; goes_on = λ types fine c r made came all. ((fine.0, tt), tt) })

    abbrev vars : List Variable
    vars = variables_of p f.unit

    -- all frames, and the top one
    frames : (types : Types) → IsFine p types x → FramesFit p types (f ∷ below)
    frames types fine = subst (FramesFit p types) at fine.0

    top : (types : Types) → IsFine p types x → FrameFits p types f
    top types fine = top_fits p types f below (frames types fine)

    phase : (fs : List Frame) → PhaseFits p fs x.phase
    phase fs = subst (PhaseFits p fs) (sym runs) tt

    -- the process with another top frame of the same unit
    top_is : (types : Types) → IsFine p types x → (g : Frame) → g.unit ≡ f.unit → g.backs ≡ f.backs → ValuesFit types (variables_of p g.unit) g.values → AllIn (StartFits p types (variables_of p g.unit)) g.starts → FramesFit p types (g ∷ below)
    top_is types fine g unit backs values starts = retopped p types f g below unit backs (frames types fine) (values, starts)

    tops : (g : Frame) (lines : List (List ℕ)) (drops : List PortValue) (cost : ℕ) → g.unit ≡ f.unit → g.backs ≡ f.backs → g.starts ≡ f.starts → ((types : Types) → ValuesFit types vars f.values → ValuesFit types vars g.values)
        → TypedOf p x (Own (framed x.execution (g ∷ below)) lines drops cost)
    tops g lines drops cost unit backs starts keeps = lone (framed x.execution (g ∷ below)) lines drops cost (λ types fine.
        let h = top types fine in (
          top_is types fine g unit backs
              (subst (λ n. ValuesFit types (variables_of p n) g.values) (sym unit) (keeps types h.0))
              (subst (λ n. AllIn (StartFits p types (variables_of p n)) g.starts) (sym unit) (subst (AllIn (StartFits p types vars)) (sym starts) h.1)),
          phase (g ∷ below),
        ))

    goes : (n : ℕ) → TypedOf p x (goes_to x.execution below f n)
    goes n = tops (at_entry f n) [] [] 1 refl refl refl (λ types h. h)

    jumps : (n : Option ℕ) → TypedOf p x (action.jumps x.execution below f n)
    jumps None = tt
    jumps (Some n) = goes n

    -- words that may stand at a place of the top frame
    abbrev Bits : Span → List ℤ → Type 0
    Bits s ns = (types : Types) → ValuesFit types vars f.values → BitsAt vars s.variable ns

    integer_bits : (s : Span) (ns : List ℤ) → sort_at vars s.variable ≡ Some Integer → Bits s ns
    integer_bits s ns is types h e = absurd (cc (the_sort Integer Logical (sym is ∙ e)))

    writes : (g : Frame) (s : Span) (ns : List ℤ) → Bits s ns → g.unit ≡ f.unit → g.backs ≡ f.backs → g.starts ≡ f.starts → g.values ≡ written f.values s ns → TypedOf p x (Own (framed x.execution (g ∷ below)) [] [] 1)
    writes g s ns bits unit backs starts is = tops g [] [] 1 unit backs starts (λ types h. subst (ValuesFit types vars) (sym is) (written_fits types vars f.values s.variable s.first ns (bits types h) h))

    assigns : (e : Point) (s : Result Span Fault) (v : Result Value Fault) → ((y : Span) (w : Value) → s ≡ Ok y → v ≡ Ok w → Bits y (word_of w ∷ [])) → TypedOf p x (action.assigns x.execution e f below s v)
    assigns e (Err fault) v bits = fails (line_of e) fault
    assigns e (Ok s) (Err fault) bits = fails (line_of e) fault
    assigns e (Ok s) (Ok v) bits = writes _ s (word_of v ∷ []) (bits s v refl refl) refl refl refl refl

    prints : (e : Point) (v : Result (List Printed) Fault) → TypedOf p x (action.prints x.execution e f below v)
    prints e (Err fault) = fails (line_of e) fault
    prints e (Ok items) = tops (at_entry f e.entry.after) _ [] _ refl refl refl (λ types h. h)

    tests : (e : Point) (v : Result Value Fault) → TypedOf p x (action.tests x.execution e f below v)
    tests e (Err fault) = fails (line_of e) fault
    tests e (Ok v) = goes (cond (is_true v) e.entry.after e.links.other)

    begins : (b : Bool) (e : Point) (w : Execution) → TypedOf p x (Own w [] [] 1) → TypedOf p x (cond b (action.fails (line_of e) ZeroDivide) (Own w [] [] 1))
    begins true e w law = fails (line_of e) ZeroDivide
    begins false e w law = law

    loops : (e : Point) (s : Span) (m : Result (ℤ × ℤ × ℤ) Fault) → sort_at vars s.variable ≡ Some Integer → TypedOf p x (action.loops x.execution e f below s m)
    loops e s (Err fault) int = fails (line_of e) fault
    loops e s (Ok m) int = begins (int_eq m.2 (pos 0)) e _ (writes _ s (m.0 ∷ []) (integer_bits s (m.0 ∷ []) int) refl refl refl refl)

    adds : (e : Point) (opener body : ℕ) (s : Span) (count : ℕ) (by : ℤ) (v : Result ℤ Fault) → sort_at vars s.variable ≡ Some Integer → TypedOf p x (action.adds x.execution e f below opener body s count by v)
    adds e opener body s count by (Err fault) int = fails (line_of e) fault
    adds e opener body s count by (Ok n) int = writes _ s (n ∷ []) (integer_bits s (n ∷ []) int) refl refl refl refl

    trips_end : (e : Point) (opener body : ℕ) (s : Span) (l : Option (ℕ × ℤ)) → sort_at vars s.variable ≡ Some Integer → TypedOf p x (action.loop_trips x.execution e f below opener body s l)
    trips_end e opener body s None int = goes e.entry.after
    trips_end e opener body s (Some l) int = adds e opener body s l.0 l.1 (sum (word_at f.values s) l.1) int

    -- the variable of a loop
    abbrev LoopAt : ProgramUnit → Loop → Type 0
    LoopAt u (Counted name) = sort_at vars (scalar_place (variable_of u name)).variable ≡ Some Integer
    LoopAt u While = Unit {0}
    LoopAt u NoLoop = Unit {0}

    ends_loop : (u : ProgramUnit) (e : Point) (opener body : ℕ) (l : Loop) → LoopAt u l → TypedOf p x (action.ends_loop x.execution u e f below opener body l)
    ends_loop u e opener body (Counted name) int = trips_end e opener body (scalar_place (variable_of u name)) (finite.get f.loops opener) int
    ends_loop u e opener body While int = goes opener
    ends_loop u e opener body NoLoop int = tt

    end_by : (u : ProgramUnit) (e : Point) (opener : ℕ) (o : Option Entry) → ((k : Entry) → o ≡ Some k → LoopAt u (action.loop_of k.stmt)) → TypedOf p x (action.end_by x.execution u e f below opener o)
    end_by u e opener None int = tt
    end_by u e opener (Some o) int = ends_loop u e opener o.after (action.loop_of o.stmt) (int o refl)

    end_of : (u : ProgramUnit) (e : Point) (o : Option ℕ) → ((n : ℕ) (k : Entry) → slice_get u.tree.body n ≡ Some k → LoopAt u (action.loop_of k.stmt)) → TypedOf p x (action.end_of x.execution u e f below o)
    end_of u e None int = tt
    end_of u e (Some o) int = end_by u e o (slice_get u.tree.body o) (int o)

    -- ---- calls

    -- the unit that is called, and what its arguments owe
    abbrev Callable : ℕ → ProgramUnit → List Actual → Type 0
    Callable n u args = (unit_at p n ≡ Some u) × ((types : Types) → ValuesFit types vars f.values → EnterFrom vars u 1 args)

    opens : (caller : Frame) (n : ℕ) (u : ProgramUnit) (args : List Actual) (backs : List Back) → caller.unit ≡ f.unit → caller.backs ≡ f.backs → caller.starts ≡ f.starts → Callable n u args → ((types : Types) → ValuesFit types vars f.values → AllIn (BackFits vars u.names.variables) backs)
        → TypedOf p x (action.opens x.execution caller below n u (entered u f.values args) backs)
    opens caller n u args backs unit same_backs starts call all = lone _ [] _ _ (λ types fine.
        let h = top types fine in
        let r = entered u f.values args in
        let both = entered_fits types vars u f.values args (call.1 types h.0) h.0 in
        let theirs : u.names.variables ≡ variables_of p n = sym (ap variables_in call.0) in
        let g : Frame = record caller { values = r.mine } in (
          (
            (subst (λ vs. ValuesFit types vs r.theirs) theirs both.1, tt),
            subst (λ m. AllIn (BackFits (variables_of p m) (variables_of p n)) backs) (sym unit) (subst (λ vs. AllIn (BackFits vars vs) backs) theirs (all types h.0)),
            top_is types fine g unit same_backs
                (subst (λ m. ValuesFit types (variables_of p m) r.mine) (sym unit) both.0)
                (subst (λ m. AllIn (StartFits p types (variables_of p m)) caller.starts) (sym unit) (subst (AllIn (StartFits p types vars)) (sym starts) h.1)),
          ),
          phase (new_frame n r.theirs backs ∷ g ∷ below),
        ))

    refers : (line : ℕ) (g : Reference) (args : Result (List Actual) Fault) → ((n : ℕ) (u : ProgramUnit) (as' : List Actual) → g ≡ Call n u → args ≡ Ok as' → Callable n u as') → TypedOf p x (action.refers x.execution line f below g args)
    refers line (Element i v) args call = tt
    refers line (Built g) args call = tt
    refers line Unknown args call = tt
    refers line (Call n u) (Ok args) call = opens f n u args [] refl refl refl (call n u args refl refl) (λ types h. tt)
    refers line (Call n u) (Err fault) call = fails line fault

    calls : (e : Point) (u : Option (ℕ × ProgramUnit)) (args : Result (List Actual) Fault) → ((v : ℕ × ProgramUnit) (as' : List Actual) → u ≡ Some v → args ≡ Ok as' → Callable v.0 v.1 as') → TypedOf p x (action.calls x.execution e f below u args)
    calls e None args call = tt
    calls e (Some u) (Err fault) call = fails (line_of e) fault
    calls e (Some u) (Ok args) call = let h = call u args refl refl in opens (at_entry f e.entry.after) u.0 u.1 args (backs_of u.1 args) refl refl refl h (λ types k. backs_fit vars u.1 args (h.1 types k))

    -- ---- ports

    send : (q : Span) (t : PortFields) (items cut : List Actual) (c : ChanName) (w n : ℕ) → action.cut_items [] t items ≡ Ok cut → sort_at vars q.variable ≡ Some (Out t) → ((types : Types) → ValuesFit types vars f.values → ItemsFit vars t items)
        → port_at f.values q ≡ Some (Writer c w) → IsTypedAsk (language p) (IsFine p) Fits x (ask_at p x below f (Send c w cut n))
    send q t items cut c w n cuts sort fits is = record {
      type_made = NoFields;
      sends = λ types fine.
          let h = top types fine in
          let at_c : types c ≡ t = found_stands types vars f.values q (Some (Writer c w)) h.0 is (Out t) sort in
          subst (λ k. MessageFits types k (message_from f.values cut).1) (sym at_c) (message_fits types vars f.values t items cut h.0 (fits types h.0) cuts).1;
      goes_on = λ types fine c r made came all.
          let h = top types fine in
          let g : Frame = at_entry (record f { values = (message_from f.values cut).0 }) n in
          ((top_is types fine g refl refl (message_fits types vars f.values t items cut h.0 (fits types h.0) cuts).0 h.1, phase (g ∷ below)), tt);
    }

    sent_items : (e : Point) (q : Span) (t : PortFields) (items : List Actual) (c : ChanName) (w : ℕ) (cut : Result (List Actual) Fault) → action.cut_items [] t items ≡ cut → sort_at vars q.variable ≡ Some (Out t)
        → ((types : Types) → ValuesFit types vars f.values → ItemsFit vars t items) → port_at f.values q ≡ Some (Writer c w) → TypedOf p x (action.sent_items e c w cut)
    sent_items e q t items c w (Err fault) cuts sort fits is = fails (line_of e) fault
    sent_items e q t items c w (Ok cut) cuts sort fits is = meets (Send c w cut e.entry.after) (send q t items cut c w e.entry.after cuts sort fits is)

    sent : (e : Point) (q : Span) (t : PortFields) (items : List Actual) (o : Option PortValue) → sort_at vars q.variable ≡ Some (Out t) → ((types : Types) → ValuesFit types vars f.values → ItemsFit vars t items) → port_at f.values q ≡ o
        → TypedOf p x (action.sent e t o items)
    sent e q t items None sort fits is = fails (line_of e) NullPort
    sent e q t items (Some (Reader c)) sort fits is = fails (line_of e) NullPort
    sent e q t items (Some (Writer c w)) sort fits is = sent_items e q t items c w (action.cut_items [] t items) refl sort fits is

    sends : (e : Point) (q : Result Span Fault) (items : Result (List Actual) Fault) (t : PortFields) → ((y : Span) → q ≡ Ok y → sort_at vars y.variable ≡ Some (Out t))
        → ((as' : List Actual) → items ≡ Ok as' → (types : Types) → ValuesFit types vars f.values → ItemsFit vars t as') → TypedOf p x (action.sends e t f q items)
    sends e (Err fault) items t sort fits = fails (line_of e) fault
    sends e (Ok q) (Err fault) t sort fits = fails (line_of e) fault
    sends e (Ok q) (Ok items) t sort fits = sent e q t items (port_at f.values q) (sort q refl) (fits items refl) refl

    closed : (e : Point) (vs : List Item) (o : Option PortValue) → ((types : Types) → ValuesFit types vars f.values → ValuesFit types vars vs) → TypedOf p x (action.closed x.execution e f below vs o)
    closed e vs None keeps = fails (line_of e) NullPort
    closed e vs (Some v) keeps = tops _ [] (v ∷ []) 1 refl refl refl keeps

    closes : (e : Point) (q : Result Span Fault) → TypedOf p x (action.closes x.execution e f below q)
    closes e (Err fault) = fails (line_of e) fault
    closes e (Ok q) = closed e (emptied_place f.values q).0 (emptied_place f.values q).1 (λ types h. (exchange_fits types vars f.values q.variable q.first None h (null_stands types vars q.variable)).0)

    moves : (e : Point) (r : Result (Span × Span) Fault) → ((y : Span × Span) → r ≡ Ok y → sort_at vars y.0.variable ≡ sort_at vars y.1.variable) → TypedOf p x (action.moves x.execution e f below r)
    moves e (Err fault) same = fails (line_of e) fault
    moves e (Ok r) same = tops _ [] _ 1 refl refl refl (λ types h.
        let out = exchange_fits types vars f.values r.0.variable r.0.first None h (null_stands types vars r.0.variable) in
        (exchange_fits types vars (emptied_place f.values r.0).0 r.1.variable r.1.first (emptied_place f.values r.0).1 out.0 (λ s is. out.1 s (same r refl ∙ is))).0)

    make : (next : ℕ) (i : Span) (os : List Span) (n cost : ℕ) (t : PortFields) → sort_at vars i.variable ≡ Some (In t) → AreOutports vars t os → IsTypedAsk (language p) (IsFine p) Fits x (ask_at p x below f (Make (i ∷ os) n cost next))
    make next i os n cost t is all_out = record {
      type_made = t;
      sends = λ types fine. tt;
      goes_on = λ types fine c r made came all.
          let h = top types fine in
          let vs = (placed_all f.values (i ∷ os) (ports_from c n)).0 in
          let g : Frame = at_entry (record f { values = vs }) next in
          ((top_is types fine g refl refl (placed_fits types vars f.values (i ∷ os) (ports_from c n) h.0 (stands_in types vars i.variable t c is made, writers_placed types vars t c os 0 n all_out made)) h.1, phase (g ∷ below)), tt);
    }

    makes : (e : Point) (r : Result (Span × Span) Fault) (t : PortFields) → ((y : Span × Span) → r ≡ Ok y → (sort_at vars y.0.variable ≡ Some (In t)) × (sort_at vars y.1.variable ≡ Some (Out t))) → TypedOf p x (action.makes e r)
    makes e (Err fault) t sorts = fails (line_of e) fault
    makes e (Ok r) t sorts = meets (Make (r.0 ∷ r.1 ∷ []) 1 1 e.entry.after) (make e.entry.after r.0 (r.1 ∷ []) 1 1 t (sorts r refl).0 ((sorts r refl).1, tt))

    merges : (e : Point) (r : Result (Span × List Span) Fault) (t : PortFields) → ((y : Span × List Span) → r ≡ Ok y → (sort_at vars y.0.variable ≡ Some (In t)) × AreOutports vars t y.1) → TypedOf p x (action.merges e r)
    merges e (Err fault) t sorts = fails (line_of e) fault
    merges e (Ok r) t sorts =
        meets (Make (r.0 ∷ elements_of r.1) (length (elements_of r.1)) (1 + length (elements_of r.1)) e.entry.after)
        (make e.entry.after r.0 (elements_of r.1) _ _ t (sorts r refl).0 (all_elements_out vars t r.1 (sorts r refl).1))

    -- the place of IOSTAT is an integer
    abbrev StatusFits : Option Span → Type 0
    StatusFits None = Unit {0}
    StatusFits (Some s) = sort_at vars s.variable ≡ Some Integer

    status_fits : (types : Types) (vs : List Item) (s : Option Span) (n : ℤ) → StatusFits s → ValuesFit types vars vs → ValuesFit types vars (with_status vs s n)
    status_fits types vs None n int h = h
    status_fits types vs (Some s) n int h = written_fits types vars vs s.variable s.first (n ∷ []) (λ e. absurd (cc (the_sort Integer Logical (sym int ∙ e)))) h

    taken : (types : Types) (t : PortFields) (line next : ℕ) (items : List Span) (iostat : Option Span) (to : Option ℕ) (m : Option Message) → IsFine p types x → StatusFits iostat → PlacesFit vars t items → ((k : Message) → m ≡ Some k → MessageFits types t k)
        → IsFine p types (received x line below f next items iostat to m).self × AllIn (IsFine p types) (received x line below f next items iostat to m).starts
    taken types t line next items iostat to (Some m) fine int fits came =
        let h = top types fine in
        let g : Frame = at_entry (record f { values = with_status (stored_all f.values items m).0 iostat (pos 0) }) next in
        ((top_is types fine g refl refl (status_fits types (stored_all f.values items m).0 iostat (pos 0) int (stored_all_fits types vars f.values t items m h.0 fits (came m refl))) h.1, phase (g ∷ below)), tt)
    taken types t line next items None None None fine int fits came = ((fine.0, tt), tt)
    taken types t line next items None (Some n) None fine int fits came = let h = top types fine in ((top_is types fine (at_entry f n) refl refl h.0 h.1, phase (at_entry f n ∷ below)), tt)
    taken types t line next items (Some s) to None fine int fits came =
        let h = top types fine in
        let g : Frame = at_entry (record f { values = with_status f.values (Some s) (negsuc 0) }) (jump_to next to) in
        ((top_is types fine g refl refl (status_fits types f.values (Some s) (negsuc 0) int h.0) h.1, phase (g ∷ below)), tt)

    then_taken : (types : Types) (t : PortFields) (line next : ℕ) (items : List Span) (iostat : Option Span) (to : Option ℕ) (exceeds : Bool) (m : Option Message) → IsFine p types x → StatusFits iostat → PlacesFit vars t items
        → ((k : Message) → m ≡ Some k → MessageFits types t k)
        → IsFine p types (steps.met x line below f next items iostat to exceeds m).self × AllIn (IsFine p types) (steps.met x line below f next items iostat to exceeds m).starts
    then_taken types t line next items iostat to true None fine int fits came = ((fine.0, tt), tt)
    then_taken types t line next items iostat to true (Some m) fine int fits came = taken types t line next items iostat to (Some m) fine int fits came
    then_taken types t line next items iostat to false m fine int fits came = taken types t line next items iostat to m fine int fits came

    receive : (c : ChanName) (line : ℕ) (r : Receiving) (t : PortFields) (to : Option ℕ) (next : ℕ) → sort_at vars r.0.variable ≡ Some (In t) → PlacesFit vars t r.2 → StatusFits r.1 → port_at f.values r.0 ≡ Some (Reader c)
        → IsTypedAsk (language p) (IsFine p) Fits x (ask_at p x below f (Receive c line r.2 r.1 to next))
    receive c line r t to next sort fits int is = record {
      type_made = NoFields;
      sends = λ types fine. tt;
      goes_on = λ types fine d y made came all.
          let at_c : types c ≡ t = found_stands types vars f.values r.0 (Some (Reader c)) (top types fine).0 is (In t) sort in
          then_taken types t line next r.2 r.1 to y.exceeds y.message fine int fits (λ k same. subst (λ t. MessageFits types t k) at_c (came k same));
    }

    receives_at : (e : Point) (r : Receiving) (t : PortFields) (o : Option PortValue) → sort_at vars r.0.variable ≡ Some (In t) → PlacesFit vars t r.2 → StatusFits r.1 → port_at f.values r.0 ≡ o → TypedOf p x (action.receives_at e r o)
    receives_at e r t None sort fits int is = fails (line_of e) NullPort
    receives_at e r t (Some (Writer c w)) sort fits int is = fails (line_of e) NullPort
    receives_at e r t (Some (Reader c)) sort fits int is =
        meets (Receive c (line_of e) r.2 r.1 e.links.jump e.entry.after) (receive c (line_of e) r t e.links.jump e.entry.after sort fits int is)

    receives : (e : Point) (r : Result Receiving Fault) (t : PortFields) → ((y : Receiving) → r ≡ Ok y → (sort_at vars y.0.variable ≡ Some (In t)) × PlacesFit vars t y.2 × StatusFits y.1) → TypedOf p x (action.receives e f r)
    receives e (Err fault) t sorts = fails (line_of e) fault
    receives e (Ok r) t sorts = receives_at e r t (port_at f.values r.0) (sorts r refl).0 (sorts r refl).1 (sorts r refl).2 refl

    probe : (c : ChanName) (empty : Span) (next : ℕ) → IsTypedAsk (language p) (IsFine p) Fits x (ask_at p x below f (Probe c empty next))
    probe c empty next = record {
      type_made = NoFields;
      sends = λ types fine. tt;
      goes_on = λ types fine d y made came all.
          let h = top types fine in
          let g : Frame = at_entry (record f { values = written f.values empty (truth_word y.waits ∷ []) }) next in
          ((top_is types fine g refl refl (written_fits types vars f.values empty.variable empty.first (truth_word y.waits ∷ []) (λ e. (truth_bit y.waits, tt)) h.0) h.1, phase (g ∷ below)), tt);
    }

    probes_at : (e : Point) (empty : Span) (o : Option PortValue) → TypedOf p x (action.probes_at e empty o)
    probes_at e empty None = fails (line_of e) NullPort
    probes_at e empty (Some (Writer c w)) = fails (line_of e) NullPort
    probes_at e empty (Some (Reader c)) = meets (Probe c empty e.entry.after) (probe c empty e.entry.after)

    probes : (e : Point) (r : Result (Span × Span) Fault) → TypedOf p x (action.probes e f r)
    probes e (Err fault) = fails (line_of e) fault
    probes e (Ok r) = probes_at e r.1 (port_at f.values r.0)

    -- ---- blocks

    starts_one : (e : Point) (n : ℕ) (u : ProgramUnit) (r : Result (List Actual × Seat) Fault) → ((y : List Actual × Seat) → r ≡ Ok y → Callable n u y.0) → TypedOf p x (action.starts_one x.execution e f below n u r)
    starts_one e n u (Err fault) call = fails (line_of e) fault
    starts_one e n u (Ok r) call = lone _ [] _ _ (λ types fine.
        let h = top types fine in
        let t = entered u f.values r.0 in
        let k = call r refl in
        let both = entered_fits types vars u f.values r.0 (k.1 types h.0) h.0 in
        let theirs : u.names.variables ≡ variables_of p n = sym (ap variables_in k.0) in
        let s : Start = record { unit = n; values = t.theirs; backs = backs_of u r.0; machine = r.1.0; node = r.1.1 } in
        let g : Frame = at_entry (record f { values = t.mine; starts = f.starts ++ s ∷ [] }) e.entry.after in (
          top_is types fine g refl refl both.0
              (starts_push p types vars f.starts s h.1 (subst (λ vs. ValuesFit types vs t.theirs) theirs both.1, subst (λ vs. AllIn (BackFits vars vs) (backs_of u r.0)) theirs (backs_fit vars u r.0 (k.1 types h.0)))),
          phase (g ∷ below),
        ))

    process_calls : (s : Scope) (e : Point) (u : Option (ℕ × ProgramUnit)) (args : List Tree) (w : Option Where)
        → ((v : ℕ × ProgramUnit) (as' : List Actual) → u ≡ Some v → actuals_of s (trees_from args) 0 ≡ Ok as' → Callable v.0 v.1 as') → TypedOf p x (action.process_calls x.execution s e f below u args w)
    process_calls s e None args w call = tt
    process_calls s e (Some u) args w call = starts_one e u.0 u.1 _ (λ y is.
        let a = parts (actuals_of s (trees_from args) 0) _ y is in
        let b = parts (action.seat_at s x.execution.machine (x.execution.machine, x.execution.node) w (refs_in_all s (trees_from args))) _ y a.2 in
        let d = parts (fitted u.1.names.extents b.0) _ y b.2 in
        let same : (a.0, d.0) ≡ y = the_pair (a.0, d.0) y (d.2) in
        subst (λ (y : List Actual × Seat). Callable u.0 u.1 y.0) same (call u a.0 refl a.1))
      where
        the_pair : (a b : List Actual × Seat) → ◌≡◌ {A = Result (List Actual × Seat) Fault} (Ok a) (Ok b) → a ≡ b
        the_pair a b e = cc

    begun : IsTypedAsk (language p) (IsFine p) Fits x (ask_at p x below f Begin)
    begun = record {
      type_made = NoFields;
      sends = λ types fine. tt;
      goes_on = λ types fine c r made came all.
          let h = top types fine in
          ((top_is types fine (record f { starts = [] }) refl refl h.0 tt, kids_begin p types vars f.starts h.1), children_fine p types vars f.starts h.1);
    }

    begin : TypedOf p x (Meets Begin)
    begin = meets Begin begun

  joined : (f : Frame) (below : List Frame) → x.execution.frames ≡ f ∷ below → (block : ℕ) (kids : List Kid) (next : ℕ) → x.phase ≡ Joining block kids → IsTypedAsk (language p) (IsFine p) Fits x (ask_at p x below f (Join block kids next))
  joined f below at block kids next joins = record {
    type_made = NoFields;
    sends = λ types fine. tt;
    goes_on = λ types fine c r made came all.
        let fits = subst (FramesFit p types) at fine.0 in
        let h = top_fits p types f below fits in
        let ks : AllIn (KidFits p (variables_of p f.unit)) kids = subst (KidsFit p kids) at (subst (PhaseFits p x.execution.frames) joins fine.1) in
        let t = kids_back (record { mine = f.values; theirs = []; drops = [] }) kids r.children in
        let g : Frame = at_entry (record f { values = t.mine }) next in
        ((retopped p types f g below refl refl fits (kids_fit p types (variables_of p f.unit) (record { mine = f.values; theirs = []; drops = [] }) kids r.children ks all h.0, h.1), tt), tt);
  }

  join : (f : Frame) (below : List Frame) → x.execution.frames ≡ f ∷ below → (block : ℕ) (kids : List Kid) (next : ℕ) → x.phase ≡ Joining block kids → TypedOf p x (Meets (Join block kids next))
  join f below at block kids next joins = met (Join block kids next) (f ∷ below) at (joined f below at block kids next joins)

  -- ---- returns

  gives_back : (f : Frame) (below : List Frame) → x.execution.frames ≡ f ∷ below → x.phase ≡ Running → TypedOf p x (action.gives_back x.execution f below)
  gives_back f [] at runs = ends f [] at
  gives_back f (g ∷ below) at runs = lone _ [] _ _ (λ types fine.
      let fits = subst (FramesFit p types) at fine.0 in
      let h = top_fits p types g below fits.2 in
      let r = returned g.values f.values f.backs in
      let both = all_back_fits types (variables_of p g.unit) (variables_of p f.unit) (record { mine = g.values; theirs = f.values; drops = [] }) f.backs fits.1 (h.0, fits.0.0) in
      (retopped p types g (record g { values = r.mine }) below refl refl fits.2 (both.0, h.1), subst (PhaseFits p (record g { values = r.mine } ∷ below)) (sym runs) tt))

  results_in : (u : ProgramUnit) (f : Frame) (below : List Frame) → x.execution.frames ≡ f ∷ below → x.phase ≡ Running → TypedOf p x (action.results_in x.execution u f below)
  results_in u f [] at runs = ends f [] at
  results_in u f (g ∷ below) at runs = lone _ [] _ _ (λ types fine.
      let fits = subst (FramesFit p types) at fine.0 in
      let k : Frame = record g { results = g.results ++ word_at f.values (scalar_place (result_variable u)) ∷ [] } in
      (retopped p types g k below refl refl fits.2 (top_fits p types g below fits.2), subst (PhaseFits p (k ∷ below)) (sym runs) tt))

  returns : (u : ProgramUnit) (f : Frame) (below : List Frame) → x.execution.frames ≡ f ∷ below → x.phase ≡ Running → (role : UnitKind) → TypedOf p x (action.returns x.execution u f below role)
  returns u f below at runs unit_kind.Program = ends f below at
  returns u f below at runs unit_kind.Process = ends f below at
  returns u f below at runs unit_kind.Subroutine = gives_back f below at runs
  returns u f below at runs unit_kind.Function = results_in u f below at runs

  -- ---- statements

  module _ (typed : IsTypedProgram p) (f : Frame) (below : List Frame) (at : x.execution.frames ≡ f ∷ below) (runs : x.phase ≡ Running) (u : ProgramUnit) (is_unit : unit_at p f.unit ≡ Some u) (e : Point) (there : slice_get u.tree.body f.entry ≡ Some e.entry) where
    abbrev scope : Scope
    scope = scope_of p u f

    vars_are : variables_of p f.unit ≡ u.names.variables
    vars_are = ap variables_in is_unit

    entry_typed : IsTypedEntry p u e.entry
    entry_typed = typed f.unit u f.entry e.entry is_unit there

    -- a place by its name
    sorted : (v : Var) (n : ℕ) (y : Span) (r : FieldKind) → place_of scope v n ≡ Ok y → sort_of u v.name ≡ Some r → sort_at (variables_of p f.unit) y.variable ≡ Some r
    sorted v n y r is sort = subst (λ vs. sort_at vs y.variable ≡ Some r) (sym vars_are) (place_sort scope v n y r is sort)

    -- the scope, whose values fit
    in_scope : (types : Types) → ValuesFit types (variables_of p f.unit) f.values → IsScope p u scope
    in_scope types h = (types, refl, refl, subst (λ vs. ValuesFit types vs f.values) vars_are h)

    callable : (name : List ℕ) (ts : Trees) (n : ℕ) → ArgumentsFit p u name ts → (v : ℕ × ProgramUnit) (as' : List Actual) → unit_named p name ≡ Some v → actuals_of scope ts n ≡ Ok as' → Callable f below at runs v.0 v.1 as'
    callable name ts n fits v as' named is =
        (named_at p name v.0 v.1 named, λ types h. subst (λ vs. EnterFrom vs v.1 1 as') (sym vars_are) (fits v scope n as' named (in_scope types h) is))

    referable : (name : List ℕ) (args : Trees) (n : ℕ) → ReferenceFits p u name args → (m : ℕ) (c : ProgramUnit) (as' : List Actual) → reference_of scope name ≡ Call m c → actuals_of scope args n ≡ Ok as' → Callable f below at runs m c as'
    referable name args n fits m c as' calls is =
        (named_at p name m c (reference_is scope name m c calls), λ types h. subst (λ vs. EnterFrom vs c 1 as') (sym vars_are) (fits m c scope n as' calls (in_scope types h) is))

    reference_typed : (t : Tree) → IsTypedReference p u t → TypedOf p x (action.reference_step x.execution (line_of e) scope f below t)
    reference_typed (Ref name args) fits = refers f below at runs (line_of e) (reference_of scope name) (actuals_of scope args (length f.results - refs_in_all scope args)) (referable name args (length f.results - refs_in_all scope args) fits)
    reference_typed (Number k) fits = tt
    reference_typed (Truth b) fits = tt
    reference_typed (Named name) fits = tt
    reference_typed (Paren t) fits = tt
    reference_typed (Signed op t) fits = tt
    reference_typed (Not t) fits = tt
    reference_typed (Binary op a b) fits = tt

    two_sorts : (a b : Var) (r : FieldKind) → sort_of u a.name ≡ Some r → sort_of u b.name ≡ Some r → (y : Span × Span) → action.two_places scope a b ≡ Ok y → sort_at (variables_of p f.unit) y.0.variable ≡ sort_at (variables_of p f.unit) y.1.variable
    two_sorts a b r sa sb y is =
        let h = parts (place_of scope a 0) _ y is in
        let k = parts (place_of scope b (refs_in_var scope a)) _ y h.2 in
        let same : (h.0, k.0) ≡ y = the_pair (h.0, k.0) y (k.2) in
        subst (λ (y : Span × Span). sort_at (variables_of p f.unit) y.0.variable ≡ sort_at (variables_of p f.unit) y.1.variable) same (sorted a 0 h.0 r h.1 sa ∙ sym (sorted b (refs_in_var scope a) k.0 r k.1 sb))
      where
        the_pair : (a b : Span × Span) → ◌≡◌ {A = Result (Span × Span) Fault} (Ok a) (Ok b) → a ≡ b
        the_pair a b e = cc

    channel_sorts : (in_first : Bool) (i o : Var) (t : PortFields) → sort_of u i.name ≡ Some (In t) → sort_of u o.name ≡ Some (Out t) → (y : Span × Span) → action.channel_places scope in_first i o ≡ Ok y
        → (sort_at (variables_of p f.unit) y.0.variable ≡ Some (In t)) × (sort_at (variables_of p f.unit) y.1.variable ≡ Some (Out t))
    channel_sorts true i o t si so y is =
        let h = parts (place_of scope i 0) _ y is in
        let k = parts (place_of scope o (refs_in_var scope i)) _ y h.2 in
        subst (λ (y : Span × Span). (sort_at (variables_of p f.unit) y.0.variable ≡ Some (In t)) × (sort_at (variables_of p f.unit) y.1.variable ≡ Some (Out t))) (the_pair (h.0, k.0) y (k.2))
        (sorted i 0 h.0 (In t) h.1 si, sorted o (refs_in_var scope i) k.0 (Out t) k.1 so)
      where
        the_pair : (a b : Span × Span) → ◌≡◌ {A = Result (Span × Span) Fault} (Ok a) (Ok b) → a ≡ b
        the_pair a b e = cc
    channel_sorts false i o t si so y is =
        let h = parts (place_of scope o 0) _ y is in
        let k = parts (place_of scope i (refs_in_var scope o)) _ y h.2 in
        subst (λ (y : Span × Span). (sort_at (variables_of p f.unit) y.0.variable ≡ Some (In t)) × (sort_at (variables_of p f.unit) y.1.variable ≡ Some (Out t))) (the_pair (k.0, h.0) y (k.2))
        (sorted i (refs_in_var scope o) k.0 (In t) k.1 si, sorted o 0 h.0 (Out t) h.1 so)
      where
        the_pair : (a b : Span × Span) → ◌≡◌ {A = Result (Span × Span) Fault} (Ok a) (Ok b) → a ≡ b
        the_pair a b e = cc

    merger_sorts : (i : Var) (os : List Var) (t : PortFields) → sort_of u i.name ≡ Some (In t) → AllIn (λ (o : Var). sort_of u o.name ≡ Some (Out t)) os → (y : Span × List Span) → action.merger_places scope i os ≡ Ok y
        → (sort_at (variables_of p f.unit) y.0.variable ≡ Some (In t)) × AreOutports (variables_of p f.unit) t y.1
    merger_sorts i os t si all y is =
        let h = parts (place_of scope i 0) _ y is in
        let k = parts (places_of scope os (refs_in_var scope i)) _ y h.2 in
        subst (λ (y : Span × List Span). (sort_at (variables_of p f.unit) y.0.variable ≡ Some (In t)) × AreOutports (variables_of p f.unit) t y.1) (the_pair (h.0, k.0) y (k.2))
        (sorted i 0 h.0 (In t) h.1 si, subst (λ vs. AreOutports vs t k.0) (sym vars_are) (places_sorts scope (Out t) os (refs_in_var scope i) k.0 k.1 all))
      where
        the_pair : (a b : Span × List Span) → ◌≡◌ {A = Result (Span × List Span) Fault} (Ok a) (Ok b) → a ≡ b
        the_pair a b e = cc

    status : (es : List Extra) (n : ℕ) (r : Option Span × ℕ) → AllIn (ExtraFits u) es → action.iostat_of scope es n ≡ Ok r → StatusFits f below at runs r.0
    status [] n r all is = subst (λ (r : Option Span × ℕ). StatusFits f below at runs r.0) (the_status (None, n) r is) tt
    status (extra.End l ∷ es) n r all is = status es n r all.1 is
    status (extra.Iostat v ∷ es) n r all is =
        let h = parts (place_of scope v n) _ r is in
        let k = parts (action.iostat_of scope es (n + refs_in_var scope v)) _ r h.2 in
        subst (λ (r : Option Span × ℕ). StatusFits f below at runs r.0) (the_status (Some h.0, k.0.1) r (k.2)) (sorted v n h.0 Integer h.1 all.0)

    -- a logical variable gets 0 or 1
    assigned : (v : Var) (t : Tree) → ValueFits p u v t → (y : Span) (w : Value) → place_of scope v 0 ≡ Ok y → value_of scope t (refs_in_var scope v) ≡ Ok w → Bits f below at runs y (word_of w ∷ [])
    assigned v t fits y w placed valued types h e = (fits scope 0 (refs_in_var scope v) y w (in_scope types h) placed valued (subst (λ vs. sort_at vs y.variable ≡ Some Logical) vars_are e), tt)

    loop_at : (name : List ℕ) → sort_of u name ≡ Some Integer → sort_at (variables_of p f.unit) (scalar_place (variable_of u name)).variable ≡ Some Integer
    loop_at name is = subst (λ vs. sort_at vs (scalar_place (variable_of u name)).variable ≡ Some Integer) (sym vars_are) (loop_sort u name Integer is)

    loop_fits : (l : Loop) → LoopFits u l → LoopAt f below at runs u l
    loop_fits (Counted name) is = loop_at name is
    loop_fits While is = tt
    loop_fits NoLoop is = tt

    opener_fits : (n : ℕ) (o : Entry) → slice_get u.tree.body n ≡ Some o → LoopAt f below at runs u (action.loop_of o.stmt)
    opener_fits n o is = loop_fits (action.loop_of o.stmt) (typed f.unit u n o is_unit is).loop

    receive_sorts : (q : Var) (extras : List Extra) (items : List Var) (t : PortFields) → sort_of u q.name ≡ Some (In t) → VarsFit u t items → AllIn (ExtraFits u) extras → (y : Receiving) → action.receive_places scope q extras items ≡ Ok y
        → (sort_at (variables_of p f.unit) y.0.variable ≡ Some (In t)) × PlacesFit (variables_of p f.unit) t y.2 × StatusFits f below at runs y.1
    receive_sorts q extras items t sq fits all y is =
        let h = parts (place_of scope q 0) _ y is in
        let k = parts (action.iostat_of scope extras (refs_in_var scope q)) _ y h.2 in
        let l = parts (places_of scope items k.0.1) _ y k.2 in
        subst (λ (y : Receiving). (sort_at (variables_of p f.unit) y.0.variable ≡ Some (In t)) × PlacesFit (variables_of p f.unit) t y.2 × StatusFits f below at runs y.1) (the_same (h.0, k.0.0, l.0) y (l.2))
        (sorted q 0 h.0 (In t) h.1 sq, subst (λ vs. PlacesFit vs t l.0) (sym vars_are) (places_fit scope t items k.0.1 l.0 l.1 fits), status extras (refs_in_var scope q) k.0 all k.1)
      where
        the_same : (a b : Receiving) → ◌≡◌ {A = Result Receiving Fault} (Ok a) (Ok b) → a ≡ b
        the_same a b e = cc

    simple_typed : (k : Simple) → IsTypedSimple p u k → TypedOf p x (action.simple_action p x.execution u e f below scope k)
    simple_typed (simple.Assignment v t) h = assigns f below at runs e _ _ (assigned v t h)
    simple_typed (simple.Goto l) h = jumps f below at runs e.links.jump
    simple_typed simple.Continue h = goes f below at runs e.entry.after
    simple_typed simple.Return h = returns u f below at runs (kind_of u)
    simple_typed simple.Stop h = ends f below at
    simple_typed (simple.Call name args) h = calls f below at runs e (unit_named p name) _ (callable name (action.trees_in args) 0 h)
    simple_typed (simple.Print items) h = prints f below at runs e _
    simple_typed (simple.Write unit items) h = prints f below at runs e _
    simple_typed (simple.Channel in_first i o) h = makes f below at runs e _ h.0 (channel_sorts in_first i o h.0 h.1 h.2.0)
    simple_typed (simple.Merger i os) h = merges f below at runs e _ h.0 (merger_sorts i os h.0 h.1 h.2)
    simple_typed (simple.Send named q items) h =
        subst (λ (t : PortFields). TypedOf p x (action.sends e t f (place_of scope q 0) (actuals_of scope (trees_from items) (refs_in_var scope q)))) (sym (fields_of_outport u q h.0 h.1))
        (sends f below at runs e _ _ h.0 (λ y is. sorted q 0 y (Out h.0) is h.1)
        (λ as' is types k. subst (λ vs. ItemsFit vs h.0 as') (sym vars_are) (h.2 scope (refs_in_var scope q) as' (in_scope types k) is)))
    simple_typed (simple.Receive named q extras items) h = receives f below at runs e _ h.0 (receive_sorts q extras items h.0 h.1 h.2 h.3)
    simple_typed (simple.EndChannel named q) h = closes f below at runs e _
    simple_typed (simple.MovePort from to) h = moves f below at runs e _ (two_sorts from to h.0 h.1 h.2)
    simple_typed (simple.Probe named q empty) h = probes f below at runs e _

    statement_typed : (k : Stmt) → IsTypedStatement p u k → TypedOf p x (action.statement_action p x.execution u e f below scope k)
    statement_typed (stmt.Simple k) h = simple_typed k h
    statement_typed (stmt.LogicalIf t k) h = tests f below at runs e _
    statement_typed (stmt.BlockIf t) h = tests f below at runs e _
    statement_typed (stmt.ElseIf t) h = tests f below at runs e _
    statement_typed stmt.Else h = goes f below at runs e.entry.after
    statement_typed stmt.EndIf h = goes f below at runs e.entry.after
    statement_typed (stmt.Do l) h = loops f below at runs e (scalar_place (variable_of u l.variable)) (action.loop_bounds scope l) (loop_at l.variable h)
    statement_typed (stmt.ProcessDo l) h = loops f below at runs e (scalar_place (variable_of u l.variable)) (action.loop_bounds scope l) (loop_at l.variable h)
    statement_typed (stmt.DoWhile t) h = tests f below at runs e _
    statement_typed stmt.EndDo h = end_of f below at runs u e e.entry.mate opener_fits
    statement_typed stmt.EndProcessDo h = end_of f below at runs u e e.entry.mate opener_fits
    statement_typed stmt.LoopEnd h = end_of f below at runs u e e.entry.mate opener_fits
    statement_typed stmt.End h = returns u f below at runs (kind_of u)
    statement_typed stmt.Processes h = goes f below at runs e.entry.after
    statement_typed stmt.EndProcesses h = begin f below at runs
    statement_typed (stmt.ProcessCall name part) h = process_calls f below at runs scope e (unit_named p name) (action.arguments_in part) _ (callable name (trees_from (action.arguments_in part)) 0 h)
    statement_typed (stmt.Program name) h = tt
    statement_typed (stmt.Process name formals) h = tt
    statement_typed (stmt.Subroutine name formals) h = tt
    statement_typed (stmt.Function name formals) h = tt
    statement_typed (stmt.IntegerFunction name formals) h = tt
    statement_typed (stmt.LogicalFunction name formals) h = tt
    statement_typed stmt.ImplicitNone h = tt
    statement_typed (stmt.Integer ds) h = tt
    statement_typed (stmt.Logical ds) h = tt
    statement_typed (stmt.Dimension ds) h = tt
    statement_typed (stmt.Parameter ds) h = tt
    statement_typed (stmt.Inport t ds) h = tt
    statement_typed (stmt.Outport t ds) h = tt
    statement_typed (stmt.Intent w names) h = tt
    statement_typed (stmt.Processors es) h = tt

    by_typed : (n : ℕ) (t : Option Tree) → next_reference e.entry n ≡ t → TypedOf p x (action.action_by p x.execution u e f below t)
    by_typed n (Some t) is = reference_typed t (entry_typed.references n t is)
    by_typed n None is = statement_typed e.entry.stmt entry_typed.statement

  point_typed : IsTypedProgram p → (f : Frame) (below : List Frame) → x.execution.frames ≡ f ∷ below → x.phase ≡ Running → (u : ProgramUnit) → unit_at p f.unit ≡ Some u → (e : Option Point) → point_at u f.entry ≡ e
      → TypedOf p x (action.point_action p x.execution u f below e)
  point_typed typed f below at runs u is_unit None there = tt
  point_typed typed f below at runs u is_unit (Some e) there =
      by_typed typed f below at runs u is_unit e (point_entry (slice_get u.tree.body f.entry) (slice_get (links_of u.tree.body) f.entry) e there) (length f.results) (next_reference e.entry (length f.results)) refl

  at_typed : IsTypedProgram p → (f : Frame) (below : List Frame) → x.execution.frames ≡ f ∷ below → x.phase ≡ Running → (u : Option ProgramUnit) → unit_at p f.unit ≡ u → TypedOf p x (action.action_at p x.execution f below u)
  at_typed typed f below at runs None is_unit = tt
  at_typed typed f below at runs (Some u) is_unit = point_typed typed f below at runs u is_unit (point_at u f.entry) refl

  running_typed : IsTypedProgram p → (fs : List Frame) → x.execution.frames ≡ fs → x.phase ≡ Running → TypedOf p x (action.running p x.execution fs)
  running_typed typed [] at runs = tt
  running_typed typed (f ∷ below) at runs = at_typed typed f below at runs (unit_at p f.unit) refl

  joining_typed : (block : ℕ) (kids : List Kid) (fs : List Frame) → x.execution.frames ≡ fs → x.phase ≡ Joining block kids → TypedOf p x (action.joining p block kids fs)
  joining_typed block kids [] at joins = tt
  joining_typed block kids (f ∷ below) at joins = join f below at block kids _ joins

  phase_typed : IsTypedProgram p → (phase : Phase) → x.phase ≡ phase → TypedOf p x (action_in p x.execution phase)
  phase_typed typed Running is = running_typed typed x.execution.frames refl is
  phase_typed typed (Joining block kids) is = joining_typed block kids x.execution.frames refl is
  phase_typed typed Ended is = tt
  phase_typed typed (Faulted line fault) is = tt

no_frames : (p : Program) (phase : Phase) → PhaseFits p [] phase
no_frames p Running = tt
no_frames p (Joining block kids) = tt
no_frames p Ended = tt
no_frames p (Faulted line fault) = tt

pub typed_language : (p : Program) → IsTypedProgram p → IsTypedLanguage (language p) (IsFine p) Fits
typed_language p typed = record {
  goes = λ x. phase_typed p x typed x.phase refl;
  empties = λ types x fine. (tt, no_frames p x.phase);
  agrees = λ types others x same fine. (frames_agree types others p x.execution.frames same fine.0, fine.1);
  message_agrees = λ types others c m at same fits. message_agrees types others (others c) m same (subst (λ t. MessageFits types t m) at fits);
}
