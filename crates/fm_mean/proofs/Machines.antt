-- Each process is on the first node of its machine, whose nodes are among those of main's, and has as many as PROCESSORS of the
-- units at work asks for.
use Rattle.std.proofs.Common.{◌≡◌, ℕ, suc, ◌+◌, ◌*◌, ◌<◌, ◌≤◌, ℤ, pos, negsuc, Bool, true, false, ◌&&◌, cond, Option, Some, None, List, [], ◌∷◌, ◌++◌, map, length, slice_get, Result, Ok, Err, refl, sym, ap, ◌∙◌, subst, arith, mul-suc, mul-le-mul_left}
use Rattle.std.specs.Prelude.{if◌then◌else◌, int_le, nat_lt, unsigned_abs, option_map, ◌-ℤ◌, ◌≤ℤ◌}
use Rattle.std.specs.Ordering.{int_eq}
use Rattle.std.specs.FinMap as finite
use Rattle.std.specs.FinMap.{get, get-empty}
use Rattle.std.proofs.lemmas.Bool.Decides.{nat_tests}
use Rattle.std.proofs.lemmas.Int.{ints}
use Rattle.fm_base.specs.declared.fault.Fault.{Fault}
use Rattle.fm_base.specs.declared.fault.Fault.TheVariants.{BadMachine, NullPort, ZeroDivide}
use Rattle.fm_base.specs.declared.output.Printed.{Printed}
use Rattle.fm_base.specs.declared.path.ChanName.{ChanName}
use Rattle.fm_base.specs.declared.port.PortValue.{PortValue}
use Rattle.fm_base.specs.declared.port.PortValue.TheVariants.{Writer, Reader}
use Rattle.fm_base.specs.declared.schedule.Machine.{Machine}
use Rattle.fm_base.specs.Channels.{Chan, Item, Message}
use Rattle.fm_base.specs.PathOrder.{channel_cmp, path_cmp}
use Rattle.fm_finmap.proofs.Keys.{decide}
use Rattle.fm_finmap.proofs.Inserts.{insert_here, insert_there}
use Rattle.fm_values.specs.Trips.{natural}
use Rattle.fm_values.specs.Values.{sum}
use Rattle.fm_values.specs.declared.value.Value.{Value}
use Rattle.fm_tree.specs.PortFields.{PortFields}
use Rattle.fm_tree.specs.Tree.{Tree, Trees, Number, Truth, Named, Ref, Paren, Signed, Not, Binary, trees_from}
use Rattle.fm_tree.specs.declared.form.UnitKind.{UnitKind}
use Rattle.fm_tree.specs.declared.form.UnitKind.TheVariants as unit_kind
use Rattle.fm_tree.specs.declared.program_unit.Entry.{Entry}
use Rattle.fm_tree.specs.declared.statement.Where.{Where}
use Rattle.fm_tree.specs.declared.statement.Where.TheVariants as put_at
use Rattle.fm_tree.specs.declared.statement.Simple.{Simple}
use Rattle.fm_tree.specs.declared.statement.Simple.TheVariants as simple
use Rattle.fm_tree.specs.declared.statement.Stmt.{Stmt}
use Rattle.fm_tree.specs.declared.statement.Stmt.TheVariants as stmt
use Rattle.fm_symbols.specs.Context.{scope_of}
use Rattle.fm_symbols.specs.declared.context.Scope as symbols
use Rattle.fm_symbols.specs.Headings.{is_function}
use Rattle.fm_map.specs.Placement.{Seat, product, shape_of, place_in, is_numbered, one_of, at_node, located, at_first, parted, fitted}
use Rattle.fm_sched.specs.Schedule.{Throughout}
use Rattle.fm_net.specs.Machine.{Ask}
use Rattle.fm_net.specs.Typed.{AllIn, IsTyped, IsTypedAsk, IsTypedLanguage}
use Rattle.fm_net.proofs.Keys.{path_order}
use Rattle.fm_net.proofs.Typed.{types_throughout}
use Rattle.fm_rules.specs.declared.calls.CallKind.{CallKind}
use Rattle.fm_rules.specs.declared.calls.CallKind.TheVariants as call_kind
use Rattle.fm_rules.specs.declared.entry_links.EntryLinks.{EntryLinks}
use Rattle.fm_rules.specs.declared.program.Program.{Program}
use Rattle.fm_rules.specs.declared.typing.Referent.TheVariants as referent
use Rattle.fm_rules.specs.Expressions.{arguments_judged, reference_judged}
use Rattle.fm_rules.specs.Flags.{e43}
use Rattle.fm_rules.specs.Links.{links_of}
use Rattle.fm_rules.specs.TypeStatements as rules
use Rattle.fm_rules.specs.TypeStatements.{callee_at, callee_in, simple_flags, typed_flags}
use Rattle.fm_mean.specs.Names.{ProgramUnit, Point, context, numbered, unit_at, unit_named, kind_of, main_number, variable_of, point_at, point_with, line_of}
use Rattle.fm_mean.specs.declared.place.Actual.{Actual}
use Rattle.fm_mean.specs.declared.place.Span.{Span}
use Rattle.fm_mean.specs.Places.{word_at, port_at, emptied_place}
use Rattle.fm_mean.specs.Evaluate.{Scope, Reference, Element, Call, Built, Unknown, reference_of, refs_in, refs_in_all, number_of, numbers_of, actuals_of}
use Rattle.fm_mean.specs.Process.{Start, Frame, framed, Kid, Phase, Running, Joining, Ended, Faulted, Proc}
use Rattle.fm_mean.specs.Calls.{child_of, ended_frames}
use Rattle.fm_mean.specs.Actions as action
use Rattle.fm_mean.specs.Actions.{Event, Fail, Make, Send, Receive, Probe, Begin, Join, End, Action, Rest, Own, Meets, at_entry, gone_on, Receiving, Loop, Counted, While, NoLoop, scalar_place, action_in, elements_of}
use Rattle.fm_mean.specs.Machines.{HasNodes, HasNodesOf, HasMachine, HaveMachines, main_nodes}
use Rattle.fm_mean.specs.Steps as steps
use Rattle.fm_mean.specs.Steps.{received, ask_at, ask_event, ask_for, main_in, main_by, nodes_of, proc_of, first_proc, first, language, step}
use Rattle.fm_mean.proofs.JudgedPrograms.{flags_here}
use Rattle.fm_mean.proofs.JudgedReferences.{reference_calls}
use Rattle.fm_mean.proofs.JudgedValues.{scope_by, scopes_there}
use Rattle.fm_mean.proofs.Laws.{first_owned}
use Rattle.fm_mean.proofs.Lawful.{lawful}
use Rattle.fm_mean.proofs.ProgramMeanings.{meanings}
use Rattle.fm_mean.proofs.Sorts.{parts}
use Rattle.fm_mean.proofs.Unflagged.{IsUnflagged, right_unflagged}
use Rattle.fm_mean.proofs.UnitExtents.{AreNodes, unit_nodes, may_ask, other_without}

never : true ≡ false → ⊥
never e = absurd (cc)

the_unit : (a b : ProgramUnit) → Some a ≡ Some b → a ≡ b
the_unit a b e = cc

-- ---- seats

-- on the first of nodes that are among so many
record IsSeat (most : ℕ) (s : Seat) : Type 0 where
  first : s.1 ≡ s.0.first
  some : 1 ≤ s.0.count
  few : s.0.first + s.0.count ≤ most

the_seat : (a b : Seat) → ◌≡◌ {A = Result Seat Fault} (Ok a) (Ok b) → a ≡ b
the_seat a b e = cc

the_pair : (a b : List Actual × Seat) → ◌≡◌ {A = Result (List Actual × Seat) Fault} (Ok a) (Ok b) → a ≡ b
the_pair a b e = cc

the_place : (a b : ℕ) → Some a ≡ Some b → a ≡ b
the_place a b e = cc

both_true : (a b : Bool) → (a && b) ≡ true → (a ≡ true) × (b ≡ true)
both_true true b e = (refl, e)
both_true false b e = absurd (cc e)

natural_abs : (z : ℤ) → pos 0 ≤ℤ z → natural z ≡ unsigned_abs z
natural_abs (pos n) h = refl
natural_abs (negsuc n) h = absurd (omega (arith, ints, h))

le_true : (x y : ℤ) → int_le x y ≡ true → x ≤ℤ y
le_true x y e = grind (arith, ints)

offset_low : (e : ℕ) (k : ℤ) → (int_le (pos 1) k && int_le k (pos e)) ≡ true → natural (k -ℤ pos 1) + 1 ≤ e
offset_low e k h =
    let p = both_true (int_le (pos 1) k) (int_le k (pos e)) h in
    let down = le_true (pos 1) k p.0 in
    let up = le_true k (pos e) p.1 in
    let far : unsigned_abs (k -ℤ pos 1) + 1 ≤ e = omega (arith, ints, down, up) in
    omega (arith, far, natural_abs (k -ℤ pos 1) (omega (arith, ints, down)))

-- subscripts within a shape lead to one of its nodes
pub place_low : (es : List ℕ) (ks : List ℤ) (j : ℕ) → place_in es ks ≡ Some j → j < product es
place_low [] [] j at = omega (arith, the_place 0 j at)
place_low [] (k ∷ ks) j at = absurd (cc at)
place_low (e ∷ es) [] j at = absurd (cc at)
place_low (e ∷ es) (k ∷ ks) j at = go (int_le (pos 1) k && int_le k (pos e)) refl (place_in es ks) refl at (λ i h. place_low es ks i h)
  where
    go : (b : Bool) → (int_le (pos 1) k && int_le k (pos e)) ≡ b → (o : Option ℕ) → place_in es ks ≡ o → cond b (option_map (λ n. natural (k -ℤ pos 1) + e * n) o) None ≡ Some j → ((i : ℕ) → place_in es ks ≡ Some i → i < product es) → j < e * product es
    go false is o there at rest = absurd (cc at)
    go true is None there at rest = absurd (cc at)
    go true is (Some i) there at rest =
        let low = rest i there in
        let row : e * suc i ≤ e * product es = mul-le-mul_left e (omega (arith, low)) in
        omega (arith, row, mul-suc e i, offset_low e k is, the_place (natural (k -ℤ pos 1) + e * i) j at)

shape_count : (es : List ℕ) (m : Machine) → HasNodes m es → product (shape_of es m) ≡ m.count
shape_count [] m h = omega arith
shape_count (e ∷ es) m h = sym h

module _ (most : ℕ) (m : Machine) (k : ℕ) (here : IsSeat most (m, k)) where
  located_seat : (es : List ℕ) (xs : List ℤ) (t : Seat) → HasNodes m es → located es m xs ≡ Ok t → IsSeat most t
  located_seat es xs t nodes e = go (place_in (shape_of es m) xs) refl (is_numbered m) e
    where
      at_one : (j : ℕ) → place_in (shape_of es m) xs ≡ Some j → (b : Bool) → at_node (option_map (λ n. m.first + n) (cond b (Some j) None)) ≡ Ok t → IsSeat most t
      at_one j at false e = absurd (cc e)
      at_one j at true e =
          let low = place_low (shape_of es m) xs j at in
          subst (IsSeat most) (the_seat (record { first = m.first + j; count = 1 }, m.first + j) t e) (record { first = refl; some = omega arith; few = omega (arith, low, shape_count es m nodes, here.few) })

      go : (o : Option ℕ) → place_in (shape_of es m) xs ≡ o → (b : Bool) → at_node (cond b (option_map (λ n. m.first + n) (one_of m.count o)) None) ≡ Ok t → IsSeat most t
      go o at false e = absurd (cc e)
      go None at true e = absurd (cc e)
      go (Some j) at true e = at_one j at (nat_lt j m.count) e

  parted_seat : (lo hi : ℤ) (t : Seat) → parted m lo hi ≡ Ok t → IsSeat most t
  parted_seat lo hi t e = numbered (is_numbered m) e
    where
      part : Machine
      part = record { first = m.first + natural (lo -ℤ pos 1); count = suc (natural (hi -ℤ lo)) }

      go : (b : Bool) → (int_le (pos 1) lo && (int_le lo hi && int_le hi (pos m.count))) ≡ b → at_first (cond b (Some (record { first = m.first + natural (lo -ℤ pos 1); count = suc (natural (hi -ℤ lo)) })) None) ≡ Ok t → IsSeat most t
      go false is e = absurd (cc e)
      go true is e =
          let p = both_true (int_le (pos 1) lo) (int_le lo hi && int_le hi (pos m.count)) is in
          let q = both_true (int_le lo hi) (int_le hi (pos m.count)) p.1 in
          let one = le_true (pos 1) lo p.0 in
          let up = le_true lo hi q.0 in
          let last = le_true hi (pos m.count) q.1 in
          let a = natural_abs (lo -ℤ pos 1) (omega (arith, ints, one)) in
          let b = natural_abs (hi -ℤ lo) (omega (arith, ints, up)) in
          let far : unsigned_abs (lo -ℤ pos 1) + suc (unsigned_abs (hi -ℤ lo)) ≤ m.count = omega (arith, ints, one, up, last) in
          let small : (m.first + natural (lo -ℤ pos 1)) + suc (natural (hi -ℤ lo)) ≤ most = omega (arith, far, a, b, here.few) in
          subst (IsSeat most) (the_seat (record { first = m.first + natural (lo -ℤ pos 1); count = suc (natural (hi -ℤ lo)) }, m.first + natural (lo -ℤ pos 1)) t e)
          (record { first = refl; some = omega arith; few = small })

      numbered : (b : Bool) → at_first (cond (b && (int_le (pos 1) lo && (int_le lo hi && int_le hi (pos m.count)))) (Some part) None) ≡ Ok t → IsSeat most t
      numbered false e = absurd (cc e)
      numbered true e = go (int_le (pos 1) lo && (int_le lo hi && int_le hi (pos m.count))) refl e

  seat_put : (s : Scope) (w : Option Where) (n : ℕ) (t : Seat) → HasNodes m s.unit.names.extents → action.seat_at s m (m, k) w n ≡ Ok t → IsSeat most t
  seat_put s None n t nodes e = subst (IsSeat most) (the_seat (m, k) t e) here
  seat_put s (Some (put_at.Location ks)) n t nodes e =
      let a = parts (numbers_of s (trees_from ks) n) _ t e in
      located_seat s.unit.names.extents a.0 t nodes a.2
  seat_put s (Some (put_at.Submachine lo hi)) n t nodes e =
      let a = parts (number_of s lo n) _ t e in
      let b = parts (number_of s hi (n + refs_in s lo)) _ t a.2 in
      parted_seat a.0 b.0 t b.2

fitted_put : (most : ℕ) (es : List ℕ) (s t : Seat) → 1 ≤ product es → IsSeat most s → fitted es s ≡ Ok t → IsSeat most t × HasNodes t.0 es
fitted_put most [] s t some h e = (subst (IsSeat most) (the_seat s t e) h, tt)
fitted_put most (d ∷ es) s t some h e = go (nat_lt s.0.count (product (d ∷ es))) refl e
  where
    no_more : (n m : ℕ) → nat_lt n m ≡ false → m ≤ n
    no_more n m is = grind (arith, nat_tests)

    go : (b : Bool) → nat_lt s.0.count (product (d ∷ es)) ≡ b → cond {A = Result Seat Fault} b (Err BadMachine) (Ok (record { first = s.0.first; count = product (d ∷ es) }, s.1)) ≡ Ok t → IsSeat most t × HasNodes t.0 (d ∷ es)
    go true is e' = absurd (cc e')
    go false is e' =
        let room = no_more s.0.count (product (d ∷ es)) is in
        subst (λ (t : Seat). IsSeat most t × HasNodes t.0 (d ∷ es)) (the_seat (record { first = s.0.first; count = product (d ∷ es) }, s.1) t e')
        (record { first = h.first; some = some; few = omega (arith, room, h.few) }, refl)

-- ---- what holds of a process, with starts that will be

abbrev StartPut : Program → Start → Type 0
StartPut p s = IsSeat (main_nodes p) (s.machine, s.node) × HasNodesOf p s.machine s.unit

abbrev FramePut : Program → Machine → Frame → Type 0
FramePut p m f = HasNodesOf p m f.unit × AllIn (StartPut p) f.starts

abbrev IsPut : Program → Proc → Type 0
IsPut p x = IsSeat (main_nodes p) (x.execution.machine, x.execution.node) × AllIn (FramePut p x.execution.machine) x.execution.frames

-- channels have no types here
abbrev NoTypes : Type 0
NoTypes = ChanName → Prim.Unit {0}

abbrev PutAsk : Program → Proc → Ask Proc → Type 0
PutAsk p x a = IsTypedAsk (language p) (λ (types : NoTypes) (x : Proc). IsPut p x) (λ (types : NoTypes) c m. Prim.Unit {0}) x a

abbrev PutOf : Program → Proc → Action → Type 0
PutOf p x a = PutAsk p x (ask_for p x a)

-- ---- units

-- what holds of the unit of this number holds of each
nodes_alone : (p : Program) (m : Machine) (n : ℕ) (w : ProgramUnit) → unit_at p n ≡ Some w → HasNodes m w.names.extents → HasNodesOf p m n
nodes_alone p m n w at h u is = subst (λ (u : ProgramUnit). HasNodes m u.names.extents) (the_unit w u (sym at ∙ is)) h

-- a SUBROUTINE or FUNCTION asks for none
nodes_without : (p : Program) (n : ℕ) (w : ProgramUnit) → unit_at p n ≡ Some w → may_ask (kind_of w) ≡ false → (m : Machine) → HasNodesOf p m n
nodes_without p n w at other m = nodes_alone p m n w at (subst (HasNodes m) (sym (other_without p n w at other)) tt)

the_named : (a b : ℕ × ProgramUnit) → Some a ≡ Some b → a ≡ b
the_named a b e = cc

pub named_unit : (p : Program) (o : Option ℕ) (v : ℕ × ProgramUnit) → numbered p o ≡ Some v → unit_at p v.0 ≡ Some v.1
named_unit p None v e = absurd (cc e)
named_unit p (Some k) v e = go (unit_at p k) refl e
  where
    go : (o : Option ProgramUnit) → unit_at p k ≡ o → option_map {U = ℕ × ProgramUnit} (λ u. (k, u)) o ≡ Some v → unit_at p v.0 ≡ Some v.1
    go None is e = absurd (cc e)
    go (Some w) is e = subst (λ (v : ℕ × ProgramUnit). unit_at p v.0 ≡ Some v.1) (the_named (k, w) v e) is

module _ (p : Program) (kd : CallKind) (sc : symbols.Scope) (ts : Trees) where
  abbrev judged : Option ℕ → Type 0
  judged o = IsUnflagged (reference_judged (context p) (callee_at (context p) kd o) (arguments_judged (context p) sc (callee_at (context p) kd o) 0 ts)).flags

  abbrev judged_in : ℕ → Option symbols.Scope → Type 0
  judged_in k o = IsUnflagged (reference_judged (context p) (callee_in kd k o) (arguments_judged (context p) sc (callee_in kd k o) 0 ts)).flags

  called_kind : (o : Option ℕ) (v : ℕ × ProgramUnit) → numbered p o ≡ Some v → judged o → rules.calls kd (kind_of v.1) ≡ true
  called_kind None v e h = absurd (cc e)
  called_kind (Some k) v e h = by_unit (unit_at p k) e (subst (judged_in k) (scopes_there p.units.units p.names.units k) h)
    where
      by_kind : (w : ProgramUnit) (b : Bool) → rules.calls kd (kind_of w) ≡ b
          → IsUnflagged (reference_judged (context p) (if b then referent.Unit k else referent.Unknown) (arguments_judged (context p) sc (if b then referent.Unit k else referent.Unknown) 0 ts)).flags → rules.calls kd (kind_of w) ≡ true
      by_kind w true is h = is
      by_kind w false is h = absurd (never (right_unflagged (arguments_judged (context p) sc referent.Unknown 0 ts).flags (e43 true) h).e43)

      by_unit : (o : Option ProgramUnit) → option_map {U = ℕ × ProgramUnit} (λ u. (k, u)) o ≡ Some v → judged_in k (scope_by o) → rules.calls kd (kind_of v.1) ≡ true
      by_unit None e h = absurd (cc e)
      by_unit (Some w) e h = subst (λ (v : ℕ × ProgramUnit). rules.calls kd (kind_of v.1) ≡ true) (the_named (k, w) v e) (by_kind w (rules.calls kd (kind_of w)) refl h)

calls_other : (k : UnitKind) → rules.calls call_kind.Call k ≡ true → may_ask k ≡ false
calls_other unit_kind.Program e = absurd (cc e)
calls_other unit_kind.Process e = absurd (cc e)
calls_other unit_kind.Subroutine e = refl
calls_other unit_kind.Function e = absurd (cc e)

function_other : (k : UnitKind) → is_function k ≡ true → may_ask k ≡ false
function_other unit_kind.Program e = absurd (cc e)
function_other unit_kind.Process e = absurd (cc e)
function_other unit_kind.Subroutine e = absurd (cc e)
function_other unit_kind.Function e = refl

-- CALL is of a unit that asks for no nodes
module _ (p : Program) (n : ℕ) (u : ProgramUnit) (is : unit_at p n ≡ Some u) (k : ℕ) (e : Entry) (at : slice_get u.tree.body k ≡ Some e) where
  abbrev flags_at : Stmt → Type 0
  flags_at s = IsUnflagged (typed_flags (context p) (scope_of u.tree u.names) u.names.variables s)

  flags : (s : Stmt) → e.stmt ≡ s → flags_at s
  flags s here = subst flags_at here (flags_here p (meanings p) n u is k e at)

  called : (name : List ℕ) (args : Option (List Tree)) → flags_at (stmt.Simple (simple.Call name args)) → (v : ℕ × ProgramUnit) → unit_named p name ≡ Some v → rules.calls call_kind.Call (kind_of v.1) ≡ true
  unfolding typed_flags simple_flags
  called name None h v named = called_kind p call_kind.Call (scope_of u.tree u.names) (trees_from []) (get (context p).units name) v named h
  called name (Some ts) h v named = called_kind p call_kind.Call (scope_of u.tree u.names) (trees_from ts) (get (context p).units name) v named h

  call_without : (name : List ℕ) (args : Option (List Tree)) → e.stmt ≡ stmt.Simple (simple.Call name args) → (v : ℕ × ProgramUnit) → unit_named p name ≡ Some v → (m : Machine) → HasNodesOf p m v.0
  call_without name args here v named =
      nodes_without p v.0 v.1 (named_unit p (get (context p).units name) v named) (calls_other (kind_of v.1) (called name args (flags (stmt.Simple (simple.Call name args)) here) v named))

the_point : (a b : Point) → Some a ≡ Some b → a ≡ b
the_point a b e = cc

pub entry_there : (o : Option Entry) (l : Option EntryLinks) (e : Point) → point_with o l ≡ Some e → o ≡ Some e.entry
entry_there None l e is = absurd (cc is)
entry_there (Some d) None e is = absurd (cc is)
entry_there (Some d) (Some l) e is = ap (λ (x : Point). Some x.entry) (the_point (record { entry = d; links = l }) e is)

-- ---- lists

starts_last : (p : Program) (ss : List Start) (s : Start) → AllIn (StartPut p) ss → StartPut p s → AllIn (StartPut p) (ss ++ s ∷ [])
starts_last p [] s all h = (h, tt)
starts_last p (t ∷ ss) s all h = (all.0, starts_last p ss s all.1 h)

children_put : (p : Program) (ss : List Start) → AllIn (StartPut p) ss → AllIn (IsPut p) (map child_of ss)
children_put p [] all = tt
children_put p (s ∷ ss) all = ((all.0.0, ((all.0.1, tt), tt)), children_put p ss all.1)

ended_put : (p : Program) (m : Machine) (fs : List Frame) → AllIn (FramePut p m) fs → AllIn (FramePut p m) (ended_frames p fs).0
ended_put p m [] all = tt
ended_put p m (f ∷ []) all = ((all.0.0, tt), tt)
ended_put p m (f ∷ g ∷ fs) all = ended_put p m (g ∷ fs) all.1

module _ (p : Program) (x : Proc) where
  met : (e : Event) (fs : List Frame) → x.execution.frames ≡ fs → PutAsk p x (ask_event p x e fs) → PutOf p x (Meets e)
  met e fs at h = subst (λ gs. PutAsk p x (ask_event p x e gs)) (sym at) h

  ends : (f : Frame) (below : List Frame) → x.execution.frames ≡ f ∷ below → PutOf p x (Meets End)
  ends f below at = met End (f ∷ below) at (record { type_made = tt; sends = λ types fine. tt; goes_on = λ types fine c r made came all. ((fine.0, ended_put p x.execution.machine x.execution.frames fine.1), tt) })

  module _ (f : Frame) (below : List Frame) (at : x.execution.frames ≡ f ∷ below) where
    seated : IsPut p x → AllIn (FramePut p x.execution.machine) (f ∷ below)
    seated fine = subst (AllIn (FramePut p x.execution.machine)) at fine.1

    lone : (fs : List Frame) (lines : List (List ℕ)) (drops : List PortValue) (cost : ℕ) → (IsPut p x → AllIn (FramePut p x.execution.machine) fs) → PutOf p x (Own (framed x.execution fs) lines drops cost)
    lone fs lines drops cost h = record { type_made = tt; sends = λ types fine. tt; goes_on = λ types fine c r made came all. ((fine.0, h fine), tt) }

    meets : (e : Event) → PutAsk p x (ask_at p x below f e) → PutOf p x (Meets e)
    meets e h = met e (f ∷ below) at h

    fails : (line : ℕ) (fault : Fault) → PutOf p x (action.fails line fault)
    fails line fault = meets (Fail line fault) (record { type_made = tt; sends = λ types fine. tt; goes_on = λ types fine c r made came all. (fine, tt) })

    goes : (n : ℕ) → PutOf p x (action.goes_to x.execution below f n)
    goes n = lone _ [] [] 1 seated

    jumps : (n : Option ℕ) → PutOf p x (action.jumps x.execution below f n)
    jumps None = tt
    jumps (Some n) = goes n

    assigns : (e : Point) (s : Result Span Fault) (v : Result Value Fault) → PutOf p x (action.assigns x.execution e f below s v)
    assigns e (Err fault) v = fails (line_of e) fault
    assigns e (Ok s) (Err fault) = fails (line_of e) fault
    assigns e (Ok s) (Ok v) = lone _ [] [] 1 seated

    prints : (e : Point) (v : Result (List Printed) Fault) → PutOf p x (action.prints x.execution e f below v)
    prints e (Err fault) = fails (line_of e) fault
    prints e (Ok items) = lone _ _ [] _ seated

    tests : (e : Point) (v : Result Value Fault) → PutOf p x (action.tests x.execution e f below v)
    tests e (Err fault) = fails (line_of e) fault
    tests e (Ok v) = goes _

    begins : (b : Bool) (e : Point) (fs : List Frame) → (IsPut p x → AllIn (FramePut p x.execution.machine) fs) → PutOf p x (cond b (action.fails (line_of e) ZeroDivide) (Own (framed x.execution fs) [] [] 1))
    begins true e fs h = fails (line_of e) ZeroDivide
    begins false e fs h = lone fs [] [] 1 h

    loops : (e : Point) (s : Span) (m : Result (ℤ × ℤ × ℤ) Fault) → PutOf p x (action.loops x.execution e f below s m)
    loops e s (Err fault) = fails (line_of e) fault
    loops e s (Ok m) = begins (int_eq m.2 (pos 0)) e _ seated

    adds : (e : Point) (opener body : ℕ) (s : Span) (count : ℕ) (by : ℤ) (v : Result ℤ Fault) → PutOf p x (action.adds x.execution e f below opener body s count by v)
    adds e opener body s count by (Err fault) = fails (line_of e) fault
    adds e opener body s count by (Ok n) = lone _ [] [] 1 seated

    trips_end : (e : Point) (opener body : ℕ) (s : Span) (l : Option (ℕ × ℤ)) → PutOf p x (action.loop_trips x.execution e f below opener body s l)
    trips_end e opener body s None = goes e.entry.after
    trips_end e opener body s (Some l) = adds e opener body s l.0 l.1 (sum (word_at f.values s) l.1)

    ends_loop : (u : ProgramUnit) (e : Point) (opener body : ℕ) (l : Loop) → PutOf p x (action.ends_loop x.execution u e f below opener body l)
    ends_loop u e opener body (Counted name) = trips_end e opener body (scalar_place (variable_of u name)) (finite.get f.loops opener)
    ends_loop u e opener body While = goes opener
    ends_loop u e opener body NoLoop = tt

    end_by : (u : ProgramUnit) (e : Point) (opener : ℕ) (o : Option Entry) → PutOf p x (action.end_by x.execution u e f below opener o)
    end_by u e opener None = tt
    end_by u e opener (Some o) = ends_loop u e opener o.after (action.loop_of o.stmt)

    end_of : (u : ProgramUnit) (e : Point) (o : Option ℕ) → PutOf p x (action.end_of x.execution u e f below o)
    end_of u e None = tt
    end_of u e (Some o) = end_by u e o (slice_get u.tree.body o)

    refers : (line : ℕ) (g : Reference) (args : Result (List Actual) Fault) → ((n : ℕ) (w : ProgramUnit) → g ≡ Call n w → (m : Machine) → HasNodesOf p m n) → PutOf p x (action.refers x.execution line f below g args)
    refers line (Element i v) args h = tt
    refers line (Built g) args h = tt
    refers line Unknown args h = tt
    refers line (Call n u) (Ok args) h = lone _ [] _ _ (λ fine. ((h n u refl x.execution.machine, tt), seated fine))
    refers line (Call n u) (Err fault) h = fails line fault

    calls : (e : Point) (u : Option (ℕ × ProgramUnit)) (args : Result (List Actual) Fault) → ((v : ℕ × ProgramUnit) → u ≡ Some v → (m : Machine) → HasNodesOf p m v.0) → PutOf p x (action.calls x.execution e f below u args)
    calls e None args h = tt
    calls e (Some u) (Err fault) h = fails (line_of e) fault
    calls e (Some u) (Ok args) h = lone _ [] _ _ (λ fine. ((h u refl x.execution.machine, tt), seated fine))

    sent_items : (e : Point) (c : ChanName) (w : ℕ) (items : Result (List Actual) Fault) → PutOf p x (action.sent_items e c w items)
    sent_items e c w (Err fault) = fails (line_of e) fault
    sent_items e c w (Ok items) = meets (Send c w items e.entry.after) (record { type_made = tt; sends = λ types fine. tt; goes_on = λ types fine d r made came all. ((fine.0, seated fine), tt) })

    sent : (e : Point) (fields : PortFields) (items : List Actual) (o : Option PortValue) → PutOf p x (action.sent e fields o items)
    sent e t items None = fails (line_of e) NullPort
    sent e t items (Some (Reader c)) = fails (line_of e) NullPort
    sent e t items (Some (Writer c w)) = sent_items e c w (action.cut_items [] t items)

    sends : (e : Point) (fields : PortFields) (q : Result Span Fault) (items : Result (List Actual) Fault) → PutOf p x (action.sends e fields f q items)
    sends e t (Err fault) items = fails (line_of e) fault
    sends e t (Ok q) (Err fault) = fails (line_of e) fault
    sends e t (Ok q) (Ok items) = sent e t items (port_at f.values q)

    closed : (e : Point) (vs : List Item) (o : Option PortValue) → PutOf p x (action.closed x.execution e f below vs o)
    closed e vs None = fails (line_of e) NullPort
    closed e vs (Some v) = lone _ [] _ 1 seated

    closes : (e : Point) (q : Result Span Fault) → PutOf p x (action.closes x.execution e f below q)
    closes e (Err fault) = fails (line_of e) fault
    closes e (Ok q) = closed e (emptied_place f.values q).0 (emptied_place f.values q).1

    moves : (e : Point) (r : Result (Span × Span) Fault) → PutOf p x (action.moves x.execution e f below r)
    moves e (Err fault) = fails (line_of e) fault
    moves e (Ok r) = lone _ [] _ 1 seated

    make : (places : List Span) (writers cost next : ℕ) → PutAsk p x (ask_at p x below f (Make places writers cost next))
    make places writers cost next = record { type_made = tt; sends = λ types fine. tt; goes_on = λ types fine d r made came all. ((fine.0, seated fine), tt) }

    makes : (e : Point) (r : Result (Span × Span) Fault) → PutOf p x (action.makes e r)
    makes e (Err fault) = fails (line_of e) fault
    makes e (Ok r) = meets (Make (r.0 ∷ r.1 ∷ []) 1 1 e.entry.after) (make (r.0 ∷ r.1 ∷ []) 1 1 e.entry.after)

    merges : (e : Point) (r : Result (Span × List Span) Fault) → PutOf p x (action.merges e r)
    merges e (Err fault) = fails (line_of e) fault
    merges e (Ok r) =
        let n = length (elements_of r.1) in
        meets (Make (r.0 ∷ elements_of r.1) n (1 + n) e.entry.after) (make (r.0 ∷ elements_of r.1) n (1 + n) e.entry.after)

    probes_at : (e : Point) (empty : Span) (o : Option PortValue) → PutOf p x (action.probes_at e empty o)
    probes_at e empty None = fails (line_of e) NullPort
    probes_at e empty (Some (Writer c w)) = fails (line_of e) NullPort
    probes_at e empty (Some (Reader c)) =
        meets (Probe c empty e.entry.after) (record { type_made = tt; sends = λ types fine. tt; goes_on = λ types fine d r made came all. ((fine.0, seated fine), tt) })

    probes : (e : Point) (r : Result (Span × Span) Fault) → PutOf p x (action.probes e f r)
    probes e (Err fault) = fails (line_of e) fault
    probes e (Ok r) = probes_at e r.1 (port_at f.values r.0)

    taken : (line next : ℕ) (items : List Span) (iostat : Option Span) (to : Option ℕ) (m : Option Message) → IsPut p x
        → IsPut p (received x line below f next items iostat to m).self × AllIn (IsPut p) (received x line below f next items iostat to m).starts
    taken line next items iostat to (Some m) fine = ((fine.0, seated fine), tt)
    taken line next items None None None fine = (fine, tt)
    taken line next items None (Some n) None fine = ((fine.0, seated fine), tt)
    taken line next items (Some s) to None fine = ((fine.0, seated fine), tt)

    came_with : (line next : ℕ) (items : List Span) (iostat : Option Span) (to : Option ℕ) (exceeds : Bool) (m : Option Message) → IsPut p x
        → IsPut p (steps.met x line below f next items iostat to exceeds m).self × AllIn (IsPut p) (steps.met x line below f next items iostat to exceeds m).starts
    came_with line next items iostat to true None fine = (fine, tt)
    came_with line next items iostat to true (Some m) fine = taken line next items iostat to (Some m) fine
    came_with line next items iostat to false m fine = taken line next items iostat to m fine

    receives_at : (e : Point) (r : Receiving) (o : Option PortValue) → PutOf p x (action.receives_at e r o)
    receives_at e r None = fails (line_of e) NullPort
    receives_at e r (Some (Writer c w)) = fails (line_of e) NullPort
    receives_at e r (Some (Reader c)) =
        meets (Receive c (line_of e) r.2 r.1 e.links.jump e.entry.after) (record { type_made = tt; sends = λ types fine. tt; goes_on = λ types fine d y made came all. came_with (line_of e) e.entry.after r.2 r.1 e.links.jump y.exceeds y.message fine })

    receives : (e : Point) (r : Result Receiving Fault) → PutOf p x (action.receives e f r)
    receives e (Err fault) = fails (line_of e) fault
    receives e (Ok r) = receives_at e r (port_at f.values r.0)

    starts_one : (e : Point) (n : ℕ) (u : ProgramUnit) (r : Result (List Actual × Seat) Fault) → (IsPut p x → (y : List Actual × Seat) → r ≡ Ok y → IsSeat (main_nodes p) y.1 × HasNodesOf p y.1.0 n) → PutOf p x (action.starts_one x.execution e f below n u r)
    starts_one e n u (Err fault) h = fails (line_of e) fault
    starts_one e n u (Ok r) h = lone _ [] _ _ (λ fine. (((seated fine).0.0, starts_last p f.starts _ (seated fine).0.1 (h fine r refl)), (seated fine).1))

    process_calls : (u : ProgramUnit) → unit_at p f.unit ≡ Some u → (e : Point) (o : Option (ℕ × ProgramUnit)) (args : List Tree) (w : Option Where) → ((v : ℕ × ProgramUnit) → o ≡ Some v → unit_at p v.0 ≡ Some v.1)
        → PutOf p x (action.process_calls x.execution (action.scope_of p u f) e f below o args w)
    process_calls u is e None args w there = tt
    process_calls u is e (Some v) args w there = starts_one e v.0 v.1 _ (λ fine y came.
        let s = action.scope_of p u f in
        let here : Seat = (x.execution.machine, x.execution.node) in
        let a = parts (actuals_of s (trees_from args) 0) _ y came in
        let b = parts (action.seat_at s x.execution.machine here w (refs_in_all s (trees_from args))) _ y a.2 in
        let d = parts (fitted v.1.names.extents b.0) _ y b.2 in
        let same : (a.0, d.0) ≡ y = the_pair (a.0, d.0) y (d.2) in
        let unit = there v refl in
        let seat = seat_put (main_nodes p) x.execution.machine x.execution.node fine.0 s w (refs_in_all s (trees_from args)) b.0 ((seated fine).0.0 u is) b.1 in
        let put = fitted_put (main_nodes p) v.1.names.extents b.0 d.0 (unit_nodes p v.0 v.1 unit).0 seat d.1 in
        subst (λ (y : List Actual × Seat). IsSeat (main_nodes p) y.1 × HasNodesOf p y.1.0 v.0) same (put.0, nodes_alone p d.0.0 v.0 v.1 unit put.1))

    begin : PutOf p x (Meets Begin)
    begin = meets Begin (record { type_made = tt; sends = λ types fine. tt; goes_on = λ types fine c r made came all. ((fine.0, (((seated fine).0.0, tt), (seated fine).1)), children_put p f.starts (seated fine).0.1) })

    join : (block : ℕ) (kids : List Kid) (next : ℕ) → PutOf p x (Meets (Join block kids next))
    join block kids next = meets (Join block kids next) (record { type_made = tt; sends = λ types fine. tt; goes_on = λ types fine c r made came all. ((fine.0, seated fine), tt) })

  gives_back : (f : Frame) (below : List Frame) → x.execution.frames ≡ f ∷ below → PutOf p x (action.gives_back x.execution f below)
  gives_back f [] at = ends f [] at
  gives_back f (g ∷ below) at = lone f (g ∷ below) at _ [] _ _ (λ fine. (seated f (g ∷ below) at fine).1)

  results_in : (u : ProgramUnit) (f : Frame) (below : List Frame) → x.execution.frames ≡ f ∷ below → PutOf p x (action.results_in x.execution u f below)
  results_in u f [] at = ends f [] at
  results_in u f (g ∷ below) at = lone f (g ∷ below) at _ [] _ _ (λ fine. (seated f (g ∷ below) at fine).1)

  returns : (u : ProgramUnit) (f : Frame) (below : List Frame) → x.execution.frames ≡ f ∷ below → (k : UnitKind) → PutOf p x (action.returns x.execution u f below k)
  returns u f below at unit_kind.Program = ends f below at
  returns u f below at unit_kind.Process = ends f below at
  returns u f below at unit_kind.Subroutine = gives_back f below at
  returns u f below at unit_kind.Function = results_in u f below at

  module _ (f : Frame) (below : List Frame) (at : x.execution.frames ≡ f ∷ below) (u : ProgramUnit) (is_unit : unit_at p f.unit ≡ Some u) (e : Point) (there : slice_get u.tree.body f.entry ≡ Some e.entry) where
    references : (t : Tree) → PutOf p x (action.reference_step x.execution (line_of e) (action.scope_of p u f) f below t)
    references (Ref name args) =
        refers f below at (line_of e) (reference_of (action.scope_of p u f) name) _
        (λ n w is. let c = reference_calls p (action.scope_of p u f) name refl n w is in nodes_without p n w c.1 (function_other (kind_of w) c.2))
    references (Number k) = tt
    references (Truth b) = tt
    references (Named name) = tt
    references (Paren t) = tt
    references (Signed op t) = tt
    references (Not t) = tt
    references (Binary op a b) = tt

    simple_put : (k : Simple) → e.entry.stmt ≡ stmt.Simple k → PutOf p x (action.simple_action p x.execution u e f below (action.scope_of p u f) k)
    simple_put (simple.Assignment v t) here = assigns f below at e _ _
    simple_put (simple.Goto l) here = jumps f below at e.links.jump
    simple_put simple.Continue here = goes f below at e.entry.after
    simple_put simple.Return here = returns u f below at (kind_of u)
    simple_put simple.Stop here = ends f below at
    simple_put (simple.Call name args) here = calls f below at e (unit_named p name) _ (call_without p f.unit u is_unit f.entry e.entry there name args here)
    simple_put (simple.Print items) here = prints f below at e _
    simple_put (simple.Write unit items) here = prints f below at e _
    simple_put (simple.Channel in_first i o) here = makes f below at e _
    simple_put (simple.Merger i os) here = merges f below at e _
    simple_put (simple.Send named q items) here = sends f below at e (action.fields_at u q) _ _
    simple_put (simple.Receive named q extras items) here = receives f below at e _
    simple_put (simple.EndChannel named q) here = closes f below at e _
    simple_put (simple.MovePort from to) here = moves f below at e _
    simple_put (simple.Probe named q empty) here = probes f below at e _

    statement_put : (k : Stmt) → e.entry.stmt ≡ k → PutOf p x (action.statement_action p x.execution u e f below (action.scope_of p u f) k)
    statement_put (stmt.Simple k) here = simple_put k here
    statement_put (stmt.LogicalIf t k) here = tests f below at e _
    statement_put (stmt.BlockIf t) here = tests f below at e _
    statement_put (stmt.ElseIf t) here = tests f below at e _
    statement_put stmt.Else here = goes f below at e.entry.after
    statement_put stmt.EndIf here = goes f below at e.entry.after
    statement_put (stmt.Do h) here = loops f below at e (scalar_place (variable_of u h.variable)) (action.loop_bounds (action.scope_of p u f) h)
    statement_put (stmt.ProcessDo h) here = loops f below at e (scalar_place (variable_of u h.variable)) (action.loop_bounds (action.scope_of p u f) h)
    statement_put (stmt.DoWhile t) here = tests f below at e _
    statement_put stmt.EndDo here = end_of f below at u e e.entry.mate
    statement_put stmt.EndProcessDo here = end_of f below at u e e.entry.mate
    statement_put stmt.LoopEnd here = end_of f below at u e e.entry.mate
    statement_put stmt.End here = returns u f below at (kind_of u)
    statement_put stmt.Processes here = goes f below at e.entry.after
    statement_put stmt.EndProcesses here = begin f below at
    statement_put (stmt.ProcessCall name part) here = process_calls f below at u is_unit e (unit_named p name) _ _ (named_unit p (get (context p).units name))
    statement_put (stmt.Program name) here = tt
    statement_put (stmt.Process name formals) here = tt
    statement_put (stmt.Subroutine name formals) here = tt
    statement_put (stmt.Function name formals) here = tt
    statement_put (stmt.IntegerFunction name formals) here = tt
    statement_put (stmt.LogicalFunction name formals) here = tt
    statement_put stmt.ImplicitNone here = tt
    statement_put (stmt.Integer ds) here = tt
    statement_put (stmt.Logical ds) here = tt
    statement_put (stmt.Dimension ds) here = tt
    statement_put (stmt.Parameter ds) here = tt
    statement_put (stmt.Inport t ds) here = tt
    statement_put (stmt.Outport t ds) here = tt
    statement_put (stmt.Intent w names) here = tt
    statement_put (stmt.Processors es) here = tt

    by_put : (t : Option Tree) → PutOf p x (action.action_by p x.execution u e f below t)
    by_put (Some t) = references t
    by_put None = statement_put e.entry.stmt refl

  point_put : (f : Frame) (below : List Frame) → x.execution.frames ≡ f ∷ below → (u : ProgramUnit) → unit_at p f.unit ≡ Some u → (e : Option Point) → point_at u f.entry ≡ e → PutOf p x (action.point_action p x.execution u f below e)
  point_put f below at u is_unit None is = tt
  point_put f below at u is_unit (Some e) is =
      by_put f below at u is_unit e (entry_there (slice_get u.tree.body f.entry) (slice_get (links_of u.tree.body) f.entry) e is) (action.next_reference e.entry (length f.results))

  at_put : (f : Frame) (below : List Frame) → x.execution.frames ≡ f ∷ below → (u : Option ProgramUnit) → unit_at p f.unit ≡ u → PutOf p x (action.action_at p x.execution f below u)
  at_put f below at None is_unit = tt
  at_put f below at (Some u) is_unit = point_put f below at u is_unit (point_at u f.entry) refl

  running_put : (fs : List Frame) → x.execution.frames ≡ fs → PutOf p x (action.running p x.execution fs)
  running_put [] at = tt
  running_put (f ∷ below) at = at_put f below at (unit_at p f.unit) refl

  joining_put : (block : ℕ) (kids : List Kid) (fs : List Frame) → x.execution.frames ≡ fs → PutOf p x (action.joining p block kids fs)
  joining_put block kids [] at = tt
  joining_put block kids (f ∷ below) at = join f below at block kids _

  phase_put : (phase : Phase) → PutOf p x (action_in p x.execution phase)
  phase_put Running = running_put x.execution.frames refl
  phase_put (Joining block kids) = joining_put block kids x.execution.frames refl
  phase_put Ended = tt
  phase_put (Faulted line fault) = tt

put_language : (p : Program) → IsTypedLanguage (language p) (λ (types : NoTypes) (x : Proc). IsPut p x) (λ (types : NoTypes) c m. Prim.Unit {0})
put_language p = record { goes = λ x. phase_put p x x.phase; empties = λ types x fine. (fine.0, tt); agrees = λ types others x same fine. fine; message_agrees = λ types others c m at same fits. tt }

-- ---- the first state

nodes_here : (es : List ℕ) → AreNodes es → (1 ≤ nodes_of es) × (nodes_of es ≤ 65536) × HasNodes (record { first = 0; count = nodes_of es }) es
nodes_here [] h = (omega arith, omega arith, tt)
nodes_here (e ∷ es) h = (h.0, h.1, refl)

module _ (p : Program) where
  main_put : (n : ℕ) (u : Option ProgramUnit) → unit_at p n ≡ u → main_nodes p ≡ (main_in n u).machine.count → IsPut p (proc_of (main_in n u))
  main_put n None is nodes = (record { first = refl; some = omega arith; few = omega (arith, nodes) }, tt)
  main_put n (Some u) is nodes =
      let h = nodes_here u.names.extents (unit_nodes p n u is) in
      (record { first = refl; some = h.0; few = omega (arith, nodes) }, ((nodes_alone p (record { first = 0; count = nodes_of u.names.extents }) n u is h.2, tt), tt))

  proc_put : (o : Option ℕ) → main_nodes p ≡ (main_by p o).machine.count → IsPut p (proc_of (main_by p o))
  proc_put None nodes = (record { first = refl; some = omega arith; few = omega (arith, nodes) }, tt)
  proc_put (Some n) nodes = main_put n (unit_at p n) refl nodes

  unit_few : (n : ℕ) (u : Option ProgramUnit) → unit_at p n ≡ u → (main_in n u).machine.count ≤ 65536
  unit_few n None is = omega arith
  unit_few n (Some u) is = (nodes_here u.names.extents (unit_nodes p n u is)).1

  main_few : (o : Option ℕ) → (main_by p o).machine.count ≤ 65536
  main_few None = omega arith
  main_few (Some n) = unit_few n (unit_at p n) refl

  first_put : IsTyped (language p) (λ (types : NoTypes) (x : Proc). IsPut p x) (λ (types : NoTypes) c m. Prim.Unit {0}) (first p)
  first_put = (
    (λ c. tt),
    record {
      each = λ q x is. elim (decide path_order q []) [
        | yes e ↦ let same : first_proc p ≡ x = cc (sym (insert_here path_order finite.empty [] (first_proc p)) ∙ ap (get (first p).procs) (sym e) ∙ is) in subst (IsPut p) same (proc_put (main_number p) refl)
        | no n ↦ absurd (cc (sym (insert_there path_order finite.empty [] (first_proc p) q n ∙ get-empty path_cmp q) ∙ is))
      ];
      queues = λ c ch is. absurd (cc (sym (get-empty {X = Chan} channel_cmp c) ∙ is));
    },
  )

  all_asked : (m : Machine) (fs : List Frame) → AllIn (FramePut p m) fs → AllIn (λ (f : Frame). HasNodesOf p m f.unit) fs
  all_asked m [] all = tt
  all_asked m (f ∷ fs) all = (all.0.0, all_asked m fs all.1)

  has_machine : (x : Proc) → IsPut p x → HasMachine p x
  has_machine x h =
      let seat = h.0 in
      record { from = omega (arith, seat.first); to = omega (arith, seat.first, seat.some); within = seat.few; numbered = omega (arith, seat.few, main_few (main_number p)); asked = all_asked x.execution.machine x.execution.frames h.1 }

  -- along every schedule
  pub machines_along : Throughout (step p) (HaveMachines p) (first p)
  machines_along cs legal q x is =
      has_machine x (((types_throughout (language p) (λ (types : NoTypes) (x : Proc). IsPut p x) (λ (types : NoTypes) c m. Prim.Unit {0}) (put_language p) (lawful p) (first p) (first_owned p) first_put) cs legal).1.each q x is)
