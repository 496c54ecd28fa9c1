-- Counted loops.
use Rattle.std.proofs.Common.{◌≡◌, ℕ, zero, suc, pred, ◌+◌, ◌<◌, ◌≤◌, ℤ, pos, Bool, true, false, cond, ◌&&◌, Option, Some, None, List, [], ◌∷◌, ◌++◌, length, set, take, drop, refl, sym, ap, subst, ◌∙◌, arith, append_assoc, ⊎_elim, Result, Ok, Err}
use Rattle.std.specs.Prelude.{slice_get, slice_set, nat_lt, nat_eq}
use Rattle.std.specs.Option.{option_map}
use Rattle.std.specs.Ordering.{nat_cmp, int_eq}
use Rattle.std.specs.FinMap as finite
use Rattle.std.specs.FinMap.{nat_cmp-IsAntisymmetric}
use Rattle.std.proofs.lemmas.Cmp.{nat_cmp_total}
use Rattle.std.proofs.lemmas.Bool.{cases_lt}
use Rattle.std.proofs.lemmas.Bool.Decides.{nat_tests}
use Rattle.std.proofs.lemmas.List.{length-set}
use Rattle.std.proofs.lemmas.Option.{slice_get_within}
use Rattle.fm_finmap.specs.Keys.{IsKeyOrder}
use Rattle.fm_finmap.proofs.Inserts.{insert_here, insert_there}
use Rattle.fm_base.specs.declared.fault.Fault.{Fault}
use Rattle.fm_base.specs.declared.fault.Fault.TheVariants.{ZeroDivide}
use Rattle.fm_values.specs.Values.{sum}
use Rattle.fm_values.specs.Trips.{trips, behind_first}
use Rattle.fm_tree.specs.Tree.{Tree}
use Rattle.fm_tree.specs.declared.program_unit.Entry.{Entry}
use Rattle.fm_tree.specs.declared.statement.LoopHead.{LoopHead}
use Rattle.fm_tree.specs.PortReading as reading
use Rattle.fm_tree.specs.declared.port_type.Kind.{Kind}
use Rattle.fm_tree.specs.declared.port_type.Kind.TheVariants as kind
use Rattle.fm_symbols.specs.declared.names.Variable.{Variable}
use Rattle.fm_rules.specs.declared.program.Program.{Program}
use Rattle.fm_mean.specs.Names.{ProgramUnit, Point, unit_at, variable_of, line_of}
use Rattle.fm_mean.specs.Places.{words_in, first_word, word_at, written, written_from}
use Rattle.fm_mean.specs.Process as mean
use Rattle.fm_mean.specs.Process.{Execution, Loops}
use Rattle.fm_mean.specs.Evaluate.{Scope, whole, value_of, number_of, refs_in}
use Rattle.fm_mean.specs.Fits.{ItemFits}
use Rattle.fm_mean.specs.Actions.{fails, goes_to, scalar_place, step_number, loop_bounds, loops, adds, loop_trips}
use Rattle.fm_mean.proofs.Sizes.{variables_laid_out}
use Rattle.fm_code.specs.declared.body.Frame.{Frame}
use Rattle.fm_code.specs.declared.body.Trips.{Trips}
use Rattle.fm_code.specs.declared.instr.Instr.{Instr}
use Rattle.fm_code.specs.declared.instr.Instr.TheVariants as instr
use Rattle.fm_code.specs.declared.instr.Build.TheVariants as build
use Rattle.fm_code.specs.declared.instr.End.TheVariants as end
use Rattle.fm_code.specs.declared.scratch.Scratch.{Scratch}
use Rattle.fm_code.specs.Acts.{StatementEnd, Act, On, Over, Goes, Fails, gives, found, then_work, work, nothing, counted, led, fewer}
use Rattle.fm_code.specs.Acts as acts
use Rattle.fm_gen_relation.specs.Standing.{Slots, item_by, values_in, scope_in, IsFrame, AreDone}
use Rattle.fm_gen_operands.specs.Code.{expression_code}
use Rattle.fm_mean.specs.Referring.{names_in}
use Rattle.fm_gen.specs.Statements.{Addresses, variable_meant, first_in, step_code, bounds_code, loop_code, do_code}
use Rattle.fm_gen_relation.specs.Frames.{opens_counted, loop_number}
use Rattle.fm_gen_relation.specs.Sound.{is_word}
use Rattle.fm_gen_operands.specs.Keeps.{then}
use Rattle.fm_gen.specs.Steps.{Site, Agree}
use Rattle.fm_gen_relation.specs.Calls.{OptionDone, BoundsDone}
use Rattle.fm_gen_relation.specs.Frames.{left_of, trips_read, IsLoop, LoopsStand, Stands}
use Rattle.fm_gen_relation.proofs.FrameWords.{item_read, item_fits, element_read}
use Rattle.fm_gen_relation.proofs.Writes.{writes}
use Rattle.fm_gen_operands.proofs.Follows.{then_chain, refs_same, keeps}
use Rattle.fm_gen.proofs.StoreLaws.{same_frame, same_code, agree_then, there}

-- Numbers of loops.

same_entry : (a b : Entry) → Some a ≡ Some b → a ≡ b
same_entry a b e = cc

number_rises : (body : List Entry) (k j : ℕ) (e : Entry) → slice_get body k ≡ Some e → opens_counted e ≡ true → k < j → loop_number body k < loop_number body j
number_rises [] k j e at c less = absurd (cc)
number_rises (x ∷ body) k zero e at c less = absurd (omega (arith, less))
number_rises (x ∷ body) zero (suc j) e at c less =
    let counts : opens_counted x ≡ true = ap opens_counted (same_entry x e at) ∙ c in
    subst (λ n. 0 < n) (sym (ap (λ b. cond b (suc (loop_number body j)) (loop_number body j)) counts)) (omega arith)
number_rises (x ∷ body) (suc k) (suc j) e at c less =
    go (opens_counted x) (number_rises body k j e at c (omega (arith, less)))
  where
    go : (b : Bool) → loop_number body k < loop_number body j → cond b (suc (loop_number body k)) (loop_number body k) < cond b (suc (loop_number body j)) (loop_number body j)
    go true h = omega (arith, h)
    go false h = h

numbers_differ : (body : List Entry) (k j : ℕ) → IsLoop body k → IsLoop body j → (k ≡ j → ⊥) → loop_number body k ≡ loop_number body j → ⊥
numbers_differ body k j a b ne same =
    ⊎_elim
    (λ (l : k < j). absurd (omega (arith, number_rises body k j a.entry a.at a.counted l, same)))
    (λ (l : j ≤ k). absurd (omega (arith, number_rises body j k b.entry b.at b.counted (before k j l ne), same)))
    (cases_lt k j)
  where
    before : (k j : ℕ) → j ≤ k → (k ≡ j → ⊥) → j < k
    before k j l ne = ⊎_elim (λ (m : j < k). m) (λ (m : k ≤ j). absurd (ne (omega (arith, l, m)))) (cases_lt j k)

-- Trips that are set.

set_here : {X : Type 0} (xs : List X) (i : ℕ) (y : X) → i < length xs → slice_get (set xs i y) i ≡ Some y
set_here [] i y h = absurd (omega (arith, h))
set_here (x ∷ xs) zero y h = refl
set_here (x ∷ xs) (suc i) y h = set_here xs i y (omega (arith, h))

set_there : {X : Type 0} (xs : List X) (i j : ℕ) (y : X) → (i ≡ j → ⊥) → slice_get (set xs i y) j ≡ slice_get xs j
set_there [] i j y h = refl
set_there (x ∷ xs) zero zero y h = absurd (h refl)
set_there (x ∷ xs) zero (suc j) y h = refl
set_there (x ∷ xs) (suc i) zero y h = refl
set_there (x ∷ xs) (suc i) (suc j) y h = set_there xs i j y (λ e. h (ap suc e))

numbers : IsKeyOrder nat_cmp
numbers = record { total = nat_cmp_total; exact = nat_cmp-IsAntisymmetric }

-- a loop has its trips
has_trips : (body : List Entry) (ls : Loops) (ts : List (Option Trips)) (k : ℕ) → LoopsStand body ls ts → IsLoop body k
    → (t : Option Trips) × (slice_get ts (loop_number body k) ≡ Some t) × (trips_read t ≡ finite.get ls k)
has_trips body ls ts k h l = go (slice_get ts (loop_number body k)) refl (h k l)
  where
    the_trips : (a b : Option (ℕ × ℤ)) → Some a ≡ Some b → a ≡ b
    the_trips a b e = cc

    go : (o : Option (Option Trips)) → slice_get ts (loop_number body k) ≡ o → option_map trips_read o ≡ Some (finite.get ls k) → (t : Option Trips) × (slice_get ts (loop_number body k) ≡ Some t) × (trips_read t ≡ finite.get ls k)
    go None e f = absurd (cc)
    go (Some t) e f = (t, e, the_trips (trips_read t) (finite.get ls k) f)

trips_set : (body : List Entry) (ls : Loops) (ts : List (Option Trips)) (k : ℕ) → LoopsStand body ls ts → IsLoop body k → (t : Trips)
    → LoopsStand body (finite.insert ls k (left_of t.behind, t.by)) (slice_set ts (loop_number body k) (Some t))
trips_set body ls ts k h l t j g = go (nat_eq j k) refl
  where
    within : loop_number body k < length ts
    within = slice_get_within ts (loop_number body k) (has_trips body ls ts k h l).0 (has_trips body ls ts k h l).1

    go : (b : Bool) → nat_eq j k ≡ b → option_map trips_read (slice_get (slice_set ts (loop_number body k) (Some t)) (loop_number body j)) ≡ Some (finite.get (finite.insert ls k (left_of t.behind, t.by)) j)
    go true e =
        let same : j ≡ k = grind (arith, nat_tests) in
        ap (λ i. option_map trips_read (slice_get (slice_set ts (loop_number body k) (Some t)) (loop_number body i))) same
        ∙ ap (option_map trips_read) (set_here ts (loop_number body k) (Some t) within)
        ∙ ap Some (sym (ap (finite.get (finite.insert ls k (left_of t.behind, t.by))) same ∙ insert_here numbers ls k (left_of t.behind, t.by)))
    go false e =
        let other : j ≡ k → ⊥ = λ same. unlike same e in
        ap (option_map trips_read) (set_there ts (loop_number body k) (loop_number body j) (Some t) (λ same. numbers_differ body k j l g (λ x. other (sym x)) same))
        ∙ h j g
        ∙ ap Some (sym (insert_there numbers ls k (left_of t.behind, t.by) j other))
      where
        unlike : j ≡ k → nat_eq j k ≡ false → ⊥
        unlike same e = grind (arith, nat_tests)

-- The first word of a variable.

first_twice : (n : ℕ) (xs : List ℤ) → 0 < n → first_word (take n (take n xs)) ≡ first_word (take 1 (take n xs))
first_twice zero xs h = absurd (omega (arith, h))
first_twice (suc n) [] h = refl
first_twice (suc n) (x ∷ xs) h = refl

-- Loops.

module _ (p : Program) (number : ℕ) (u : ProgramUnit) (here : unit_at p number ≡ Some u) (slots : Slots) (m : Frame) (frame : IsFrame u slots m) where
  abbrev scope : Scope
  scope = scope_in p u slots m

  number_follows : (t : Tree) (n : ℕ) → AreDone scope t n → (is : List Instr) (s : List ℤ) (b : Scratch)
      → work (expression_code p u t n ++ is) s b m ≡ then (number_of scope t n) (λ x. work is (x ∷ s) b m)
  number_follows t n done is s b = keeps p number u t n here slots m frame done is s b ∙ then_chain (value_of scope t n) _ _ _ (λ x. refl)

  step_follows : (o : Option Tree) (n : ℕ) → OptionDone scope o n → (is : List Instr) (s : List ℤ) (b : Scratch)
      → work (step_code p u o n ++ is) s b m ≡ then (step_number scope o n) (λ x. work is (x ∷ s) b m)
  step_follows None n done is s b = refl
  step_follows (Some t) n done is s b = number_follows t n done is s b

  bounds_follow : (h : LoopHead) → BoundsDone scope h → (is : List Instr) (b : Scratch)
      → work (bounds_code p u h ++ is) [] b m ≡ then (loop_bounds scope h) (λ r. work is (r.2 ∷ r.1 ∷ r.0 ∷ []) b m)
  bounds_follow h done is b =
      let n = names_in p u in
      let a = refs_in n h.from in
      let c = refs_in n h.to in
      let from : a ≡ refs_in scope h.from = sym (refs_same p u slots m h.from) in
      let to : c ≡ refs_in scope h.to = sym (refs_same p u slots m h.to) in
      ap (λ l. work l [] b m) (append_assoc (expression_code p u h.from 0) (expression_code p u h.to a ++ step_code p u h.step (a + c)) is)
      ∙ number_follows h.from 0 done.0 ((expression_code p u h.to a ++ step_code p u h.step (a + c)) ++ is) [] b
      ∙ then_chain (number_of scope h.from 0) _ _ _ (λ x.
      ap (λ l. work l (x ∷ []) b m) (append_assoc (expression_code p u h.to a) (step_code p u h.step (a + c)) is)
      ∙ (λ i. work (expression_code p u h.to (from i) ++ (step_code p u h.step (from i + to i) ++ is)) (x ∷ []) b m)
      ∙ number_follows h.to (refs_in scope h.from) done.1 (step_code p u h.step (refs_in scope h.from + refs_in scope h.to) ++ is) (x ∷ []) b
      ∙ then_chain (number_of scope h.to (refs_in scope h.from)) _ _ _ (λ y.
      step_follows h.step (refs_in scope h.from + refs_in scope h.to) done.2 is (y ∷ x ∷ []) b
      ∙ then_chain (step_number scope h.step (refs_in scope h.from + refs_in scope h.to)) _ _ _ (λ z. refl)))

  module _ (w : Execution) (e : Point) (f : mean.Frame) (below : List mean.Frame) (address : Addresses) (next_behind joined : ℕ) (stands : Stands u slots f m) where
    abbrev site : Site
    site = record { program = p; unit = u; slots = slots; address = address; behind = next_behind; join = joined; runs = w; point = e; frame = f; below = below; code = m }

    abbrev body : List Entry
    body = u.tree.body

    led_by : (n : ℕ) (inside outside : ℕ) → led (address inside) (address outside) (behind_first n) ≡ address (cond (nat_lt 0 n) inside outside)
    led_by zero inside outside = refl
    led_by (suc n) inside outside = let some : nat_lt 0 (suc n) ≡ true = grind (arith, nat_tests) in sym (ap (λ c. address (cond c inside outside)) some)

    left_first : (n : ℕ) → left_of (behind_first n) ≡ n
    left_first zero = refl
    left_first (suc n) = refl

    -- the trips that are left are kept, and the variable gets a value
    counts : (k inside outside : ℕ) → IsLoop body k → (i : ℕ) (v : Variable) → slice_get u.names.variables i ≡ Some v → is_word v.kind ≡ true → 0 < v.words → (left : Option ℕ) (by x : ℤ) (n : ℕ)
        → left ≡ behind_first n → (go : List ℤ → Scratch → StatementEnd)
        → Agree site (then_work (counted (record { number = loop_number body k; word = v.first }) (address inside) (address outside) (record { behind = left; by = by }) x m) go)
        (goes_to w below (record f { values = written f.values (whole i v) (x ∷ []); loops = finite.insert f.loops k (n, by) }) (cond (nat_lt 0 n) inside outside))
    counts k inside outside l i v at q some left by x n is go =
        let has = has_trips body f.loops m.loops k stands.loops l in
        let number_within : loop_number body k < length m.loops = slice_get_within m.loops (loop_number body k) has.0 has.1 in
        let word_within : v.first < length m.words = omega (arith, there p number u here slots m frame i 0 v at q some) in
        let first_test : nat_lt (loop_number body k) (length m.loops) ≡ true = grind (arith, nat_tests) in
        let second_test : nat_lt v.first (length m.words) ≡ true = grind (arith, nat_tests) in
        let at_first : v.first + 0 ≡ v.first = omega arith in
        let t : Trips = record { behind = left; by = by } in
        subst (λ r. Agree site r (goes_to w below (record f { values = written f.values (whole i v) (x ∷ []); loops = finite.insert f.loops k (n, by) }) (cond (nat_lt 0 n) inside outside)))
        (sym (λ j. then_work (cond (first_test j && second_test j) (Over (Goes (led (address inside) (address outside) left) (record m { words = slice_set m.words v.first x; loops = slice_set m.loops (loop_number body k) (Some t) }))) (Over acts.Stuck)) go))
        (record {
          frame = record f { values = written f.values (whole i v) (x ∷ []); loops = finite.insert f.loops k (n, by) };
          entry = cond (nat_lt 0 n) inside outside;
          does = refl;
          leads = ap (led (address inside) (address outside)) is ∙ led_by n inside outside;
          stands = record {
            values = (λ j. written_from (stands.values j) i 0 (x ∷ [])) ∙ sym (ap (λ a. values_in slots u.names.variables (slice_set m.words a x)) (sym at_first) ∙ writes slots 0 u.names.variables m.words i 0 x v (variables_laid_out p number u here) at q some);
            sized = length-set m.words v.first x ∙ stands.sized;
            results = stands.results;
            loops = subst (λ c. LoopsStand body (finite.insert f.loops k (c, by)) (slice_set m.loops (loop_number body k) (Some t))) (ap left_of is ∙ left_first n) (trips_set body f.loops m.loops k stands.loops l t);
          };
          leaves = record { unit = refl; starts = refl; backs = refl };
          leaves_code = record { unit = refl; count = length-set m.words v.first x; starts = refl; backs = refl };
        })

    -- a loop begins
    pub loop_follows : (h : LoopHead) → BoundsDone scope h → IsLoop body f.entry → (i : ℕ) (v : Variable) → slice_get u.names.variables i ≡ Some v → is_word v.kind ≡ true → 0 < v.words
        → variable_of u h.variable ≡ Some (i, v)
        → Agree site (work (do_code p u h (loop_number body f.entry) (address e.entry.after) (address e.links.other)) [] nothing m) (loops w e f below (scalar_place (variable_of u h.variable)) (loop_bounds scope h))
    loop_follows h done l i v at q some named =
        subst (λ o. Agree site (work (bounds_code p u h ++ (instr.Build (build.Loop (record { number = loop_number body f.entry; word = first_in (variable_meant u o) })) ∷ instr.End (end.Enter (address e.entry.after) (address e.links.other)) ∷ [])) [] nothing m)
        (loops w e f below (scalar_place o) (loop_bounds scope h))) (sym named) begun
      where
        enter : List Instr
        enter = instr.Build (build.Loop (record { number = loop_number body f.entry; word = v.first })) ∷ instr.End (end.Enter (address e.entry.after) (address e.links.other)) ∷ []

        entered : (r : ℤ × ℤ × ℤ) → Agree site (work enter (r.2 ∷ r.1 ∷ r.0 ∷ []) nothing m) (loops w e f below (whole i v) (Ok r))
        entered r = begins (int_eq r.2 (pos 0))
          where
            begins : (c : Bool)
                → Agree site (then_work (gives (cond c (Err ZeroDivide) (Ok (behind_first (trips r.0 r.1 r.2)))) (λ n. counted (record { number = loop_number body f.entry; word = v.first }) (address e.entry.after) (address e.links.other) (record { behind = n; by = r.2 }) r.0 m)) (λ s b. work [] s b m))
                (cond c (fails (line_of e) ZeroDivide) (goes_to w below (record f { values = written f.values (whole i v) (r.0 ∷ []); loops = finite.insert f.loops f.entry (trips r.0 r.1 r.2, r.2) }) (cond (nat_lt 0 (trips r.0 r.1 r.2)) e.entry.after e.links.other)))
            begins true = refl
            begins false = counts f.entry e.entry.after e.links.other l i v at q some (behind_first (trips r.0 r.1 r.2)) r.2 r.0 (trips r.0 r.1 r.2) refl (λ s b. work [] s b m)

        begun : Agree site (work (bounds_code p u h ++ enter) [] nothing m) (loops w e f below (whole i v) (loop_bounds scope h))
        begun =
            subst (λ t. Agree site t (loops w e f below (whole i v) (loop_bounds scope h))) (sym (bounds_follow h done enter nothing))
            (agree_then site (loop_bounds scope h) (λ r. work enter (r.2 ∷ r.1 ∷ r.0 ∷ []) nothing m) (λ q. loops w e f below (whole i v) q) (λ fault. refl) (λ r same. entered r))

    fewer_first : (b : Option ℕ) → fewer b ≡ behind_first (pred (left_of b))
    fewer_first None = refl
    fewer_first (Some zero) = refl
    fewer_first (Some (suc n)) = refl

    -- the first word of a variable
    pub first_there : (i : ℕ) (v : Variable) → slice_get u.names.variables i ≡ Some v → is_word v.kind ≡ true → 0 < v.words → slice_get m.words v.first ≡ Some (word_at f.values (whole i v))
    first_there i v at q some =
        go v.kind q (item_fits frame.types slots m.words u.names.variables i v frame.fits at)
        ∙ ap Some (sym ((λ j. word_at (stands.values j) (whole i v)) ∙ ap (λ x. first_word (take v.words (words_in x))) (item_read slots m.words u.names.variables i v at)))
      where
        reads : length (take v.words (drop v.first m.words)) ≡ v.words → slice_get m.words v.first ≡ Some (first_word (take v.words (take v.words (drop v.first m.words))))
        reads full =
            let at_first : v.first + 0 ≡ v.first = omega arith in
            subst (λ k. slice_get m.words k ≡ Some (first_word (take 1 (take v.words (drop v.first m.words))))) at_first (element_read m.words v.first v.words 0 full some)
            ∙ ap Some (sym (first_twice v.words (drop v.first m.words) some))

        go : (q : Kind) → is_word q ≡ true → ItemFits frame.types (reading.kind_of q) v.words (item_by slots q (take v.words (drop v.first m.words)))
            → slice_get m.words v.first ≡ Some (first_word (take v.words (words_in (item_by slots q (take v.words (drop v.first m.words))))))
        go kind.Integer e h = reads h
        go kind.Logical e h = reads h.0
        go (kind.In t) e h = absurd (cc)
        go (kind.Out t) e h = absurd (cc)

    -- a trip of a loop ends
    pub trip_follows : (opener inside : ℕ) → IsLoop body opener → (name : List ℕ) → (i : ℕ) (v : Variable) → slice_get u.names.variables i ≡ Some v → is_word v.kind ≡ true → 0 < v.words
        → variable_of u name ≡ Some (i, v)
        → Agree site (work (loop_code u (loop_number body opener) name ∷ instr.End (end.Again (address inside) (address e.entry.after)) ∷ []) [] nothing m) (loop_trips w e f below opener inside (scalar_place (variable_of u name)) (finite.get f.loops opener))
    trip_follows opener inside l name i v at q some named =
        subst (λ o. Agree site (work (instr.Build (build.Loop (record { number = loop_number body opener; word = first_in (variable_meant u o) })) ∷ instr.End (end.Again (address inside) (address e.entry.after)) ∷ []) [] nothing m)
        (loop_trips w e f below opener inside (scalar_place o) (finite.get f.loops opener))) (sym named)
        (subst (λ o. Agree site (then_work (found o (λ t. acts.ends_trip (record { number = loop_number body opener; word = v.first }) (address inside) (address e.entry.after) t m)) (λ s b. work [] s b m))
        (loop_trips w e f below opener inside (whole i v) (finite.get f.loops opener))) (sym has.1)
        (subst (λ g. Agree site (then_work (acts.ends_trip (record { number = loop_number body opener; word = v.first }) (address inside) (address e.entry.after) has.0 m) (λ s b. work [] s b m))
        (loop_trips w e f below opener inside (whole i v) g)) has.2 (trip_ended has.0)))
      where
        has : (t : Option Trips) × (slice_get m.loops (loop_number body opener) ≡ Some t) × (trips_read t ≡ finite.get f.loops opener)
        has = has_trips body f.loops m.loops opener stands.loops l

        added : (t : Trips) (r : Result ℤ Fault)
            → Agree site (then_work (gives r (λ n. counted (record { number = loop_number body opener; word = v.first }) (address inside) (address e.entry.after) (record { behind = fewer t.behind; by = t.by }) n m)) (λ s b. work [] s b m))
            (adds w e f below opener inside (whole i v) (left_of t.behind) t.by r)
        added t (Err fault) = refl
        added t (Ok n) = counts opener inside e.entry.after l i v at q some (fewer t.behind) t.by n (pred (left_of t.behind)) (fewer_first t.behind) (λ s b. work [] s b m)

        trip_ended : (t : Option Trips)
            → Agree site (then_work (acts.ends_trip (record { number = loop_number body opener; word = v.first }) (address inside) (address e.entry.after) t m) (λ s b. work [] s b m))
            (loop_trips w e f below opener inside (whole i v) (trips_read t))
        trip_ended None = record { frame = f; entry = e.entry.after; does = refl; leads = refl; stands = stands; leaves = same_frame f; leaves_code = same_code m }
        trip_ended (Some t) =
            subst (λ o. Agree site (then_work (found o (λ x. gives (sum x t.by) (λ n. counted (record { number = loop_number body opener; word = v.first }) (address inside) (address e.entry.after) (record { behind = fewer t.behind; by = t.by }) n m))) (λ s b. work [] s b m))
            (loop_trips w e f below opener inside (whole i v) (trips_read (Some t)))) (sym (first_there i v at q some)) (added t (sum (word_at f.values (whole i v)) t.by))
