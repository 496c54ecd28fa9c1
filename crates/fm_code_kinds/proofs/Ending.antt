-- An instruction that ends its statement, where what it takes is on the list, isn't stuck.
use Rattle.std.proofs.Common.{◌≡◌, ℕ, zero, suc, ◌+◌, ◌≤◌, ◌<◌, ℤ, pos, Bool, true, false, cond, ◌&&◌, ◌==◌, Option, Some, None, List, [], ◌∷◌, length, slice_get, reverse, Result, Ok, Err, refl, sym, subst, arith}
use Rattle.std.specs.Prelude.{nat_lt}
use Rattle.std.specs.Ordering.{int_eq}
use Rattle.std.proofs.lemmas.List.{reverse-reverse}
use Rattle.std.proofs.lemmas.Bool.{and_parts, and_from, lt-ltb}
use Rattle.fm_base.specs.declared.fault.Fault.{Fault}
use Rattle.fm_base.specs.declared.fault.Fault.TheVariants.{NullPort}
use Rattle.fm_values.specs.Values.{sum, is_truth}
use Rattle.fm_values.specs.Trips.{trips_behind}
use Rattle.fm_code.specs.declared.ask.Operand.{Operand}
use Rattle.fm_code.specs.declared.ask.Ask.TheVariants as ask
use Rattle.fm_code.specs.declared.body.Frame.{Frame}
use Rattle.fm_code.specs.declared.body.Trips.{Trips}
use Rattle.fm_code.specs.declared.code.Span.{Span}
use Rattle.fm_code.specs.declared.instr.End.{End}
use Rattle.fm_code.specs.declared.instr.End.TheVariants as end
use Rattle.fm_code.specs.declared.instr.Meet.{Meet}
use Rattle.fm_code.specs.declared.instr.Meet.TheVariants as meet
use Rattle.fm_code.specs.declared.instr.Loop.{Loop}
use Rattle.fm_code.specs.declared.scratch.Scratch.{Scratch}
use Rattle.fm_code.specs.Acts.{Act, On, Over, Stuck, Goes, Fails, gives, found, at_word, by_port, asks, number_in, numbered, stored, counted, enters, ends_trip, fewer, led, ends, meets, receives, closes}
use Rattle.fm_code.specs.Acts as acts
use Rattle.fm_code_kinds.specs.declared.sorts.Sort.{Sort}
use Rattle.fm_code_kinds.specs.declared.sorts.Heading.{Heading}
use Rattle.fm_code_kinds.specs.declared.sorts.Cell.{Cell}
use Rattle.fm_code_kinds.specs.declared.sorts.Shape.{Shape}
use Rattle.fm_code_kinds.specs.declared.sorts.Shapes.{Shapes}
use Rattle.fm_code_kinds.specs.Shapes.{single, sort_at, are_words, words_of, is_function, is_process, is_subroutine}
use Rattle.fm_code_kinds.specs.declared.kinds.Kind.{Kind}
use Rattle.fm_code_kinds.specs.declared.kinds.Kind.TheVariants as kinds
use Rattle.fm_code_kinds.specs.Effects as effects
use Rattle.fm_code_kinds.specs.Effects.{Effect, heading_of, cells_of, fit_formals, results_in, only_results, without_words, Taken, operands_on, over_where, ending, ends_word, at_loop, at_port, at_two, sorted, calls_fit, ended, met}
use Rattle.fm_code_kinds.specs.Fitting.{IsAmong, Stands, IsLoop, Fits, AllFit, Fitted, EndsFine}
use Rattle.fm_code_kinds.proofs.Places.{AreInside, words_inside, sorted_inside, word_there, loop_there}
use Rattle.fm_code_kinds.proofs.Operands.{taken_fit, reversed_fit, under_operands}
use Rattle.fm_code_kinds.proofs.Building.{there}

-- an effect is over where it isn't ill and doesn't go on
abbrev pub IsOver : Effect → Type 0
IsOver (effects.On ks) = ⊥
IsOver (effects.Over to n) = Unit {0}
IsOver effects.Ill = ⊥

tested : (b : Bool) (to : List ℕ) → IsOver (over_where b to) → b ≡ true
tested true to o = refl
tested false to o = absurd o

chosen : (b : Bool) (e : Effect) → IsOver (cond b e effects.Ill) → (b ≡ true) × IsOver e
chosen true e o = (refl, o)
chosen false e o = absurd o

-- the list begins with a place, of a port
pub record HasPort (cells : List Cell) (ks : List Kind) : Type 0 where
  pub span : Span
  pub rest : List Kind
  pub sort : Sort
  pub is : ks ≡ kinds.Word (Some span) ∷ rest
  pub at : sort_at cells span ≡ Some sort

sorted_over : (o : Option Sort) (f : Sort → Effect) → IsOver (sorted o f) → (t : Sort) × (o ≡ Some t) × IsOver (f t)
sorted_over None f o = absurd o
sorted_over (Some t) f o = (t, refl, o)

port_over : (cells : List Cell) (ks : List Kind) (f : Sort → Effect) → IsOver (at_port cells ks f) → HasPort cells ks
port_over cells [] f o = absurd o
port_over cells (kinds.Returned ∷ ks) f o = absurd o
port_over cells (kinds.Word None ∷ ks) f o = absurd o
port_over cells (kinds.Word (Some s) ∷ ks) f o = let t = sorted_over (sort_at cells s) (λ t. cond (only_results ks) (f t) effects.Ill) o in record { span = s; rest = ks; sort = t.0; is = refl; at = t.1 }
port_over cells (kinds.Operand p ∷ ks) f o = absurd o
port_over cells (kinds.LoopOf l ∷ ks) f o = absurd o

pub record HasTwo (cells : List Cell) (ks : List Kind) : Type 0 where
  pub span : Span
  pub rest : List Kind
  pub sort : Sort
  pub is : ks ≡ kinds.Word (Some span) ∷ rest
  pub at : sort_at cells span ≡ Some sort
  pub deeper : HasPort cells rest

two_over : (cells : List Cell) (ks : List Kind) (f : Sort → Sort → Effect) → IsOver (at_two cells ks f) → HasTwo cells ks
two_over cells [] f o = absurd o
two_over cells (kinds.Returned ∷ ks) f o = absurd o
two_over cells (kinds.Word None ∷ ks) f o = absurd o
two_over cells (kinds.Word (Some s) ∷ ks) f o =
    let t = sorted_over (sort_at cells s) (λ t. at_port cells ks (λ r. f r t)) o in
    record { span = s; rest = ks; sort = t.0; is = refl; at = t.1; deeper = port_over cells ks (λ r. f r t.0) t.2 }
two_over cells (kinds.Operand p ∷ ks) f o = absurd o
two_over cells (kinds.LoopOf l ∷ ks) f o = absurd o

module _ (ss : Shapes) (u : Shape) (loops : ℕ) (inside : AreInside (words_of u.cells) u.cells) (m : Frame) (at : ℕ) where
  abbrev Fit : List Kind → List ℤ → Scratch → Type 0
  Fit ks s b = Fits u.cells loops ks s b m

  gives_ends : {X : Type 0} (r : Result X Fault) (f : X → Act) → ((v : X) → EndsFine ss u (f v)) → EndsFine ss u (gives r f)
  gives_ends (Ok v) f h = h v
  gives_ends (Err fault) f h = tt

  found_ends : {X : Type 0} (o : Option X) (v : X) (f : X → Act) → o ≡ Some v → EndsFine ss u (f v) → EndsFine ss u (found o f)
  found_ends o v f e h = rw e h

  -- ---- words of the frame

  at_word_ends : (s : Span) (x : ℤ) (f : ℕ → Act) (ks : List Kind) (t : List ℤ) (b : Scratch) → Fit ks t b → s.first + s.count ≤ words_of u.cells → IsAmong s x → ((k : ℕ) → k < length m.words → EndsFine ss u (f k)) → EndsFine ss u (at_word m x f)
  at_word_ends s x f ks t b fits end a h =
      let w = there m s x (omega (arith, end, fits.frame.words)) a in
      rw w.1 (h w.0 w.4)

  by_port_ends : (k : ℕ) (f : ℤ → Act) → k < length m.words → ((v : ℤ) → EndsFine ss u (f v)) → EndsFine ss u (by_port m k f)
  by_port_ends k f low h =
      let w = word_there m.words k low in
      found_ends (slice_get m.words k) w.0 (λ v. cond (int_eq v (pos 0)) (Over (Fails NullPort)) (f v)) w.1 (go (int_eq w.0 (pos 0)) (f w.0) (h w.0))
    where
      go : (b : Bool) (a : Act) → EndsFine ss u a → EndsFine ss u (cond b (Over (Fails NullPort)) a)
      go true a h = tt
      go false a h = h

  stored_ends : (to k : ℕ) (v : ℤ) → k < length m.words → EndsFine ss u (stored to k v m)
  stored_ends to k v low = rw (lt-ltb k (length m.words) low) tt

  -- ---- one word on top

  word_top : (ks : List Kind) (s : List ℤ) (b : Scratch) (to : List ℕ) → Fit ks s b → IsOver (ends_word ks to) → (x : ℤ) × (rest : List ℤ) × (s ≡ x ∷ rest)
  word_top [] s b to fits o = absurd o
  word_top (kinds.Returned ∷ ks) s b to fits o = absurd o
  word_top (kinds.Operand p ∷ ks) s b to fits o = absurd o
  word_top (kinds.LoopOf l ∷ ks) s b to fits o = absurd o
  word_top (kinds.Word r ∷ ks) [] b to fits o = absurd fits.stands
  word_top (kinds.Word r ∷ ks) (x ∷ s) b to fits o = (x, s, refl)

  -- ---- loops

  counted_ends : (l : Loop) (body behind : ℕ) (t : Trips) (v : ℤ) → l.number < length m.loops → l.word < length m.words → EndsFine ss u (counted l body behind t v m)
  counted_ends l body behind t v n w = rw (and_from (nat_lt l.number (length m.loops)) (nat_lt l.word (length m.words)) (lt-ltb _ _ n) (lt-ltb _ _ w)) tt

  many : (n : ℕ) (to : List ℕ) (ks : List Kind) (s : List ℤ) (os : List Operand) → Stands ks s os → IsOver (ending to (without_words n ks)) → n ≤ length s
  many zero to ks s os is o = omega arith
  many (suc n) to [] s os is o = absurd o
  many (suc n) to (kinds.Returned ∷ ks) s os is o = absurd o
  many (suc n) to (kinds.Operand p ∷ ks) s os is o = absurd o
  many (suc n) to (kinds.LoopOf l ∷ ks) s os is o = absurd o
  many (suc n) to (kinds.Word r ∷ ks) [] os is o = absurd is
  many (suc n) to (kinds.Word r ∷ ks) (x ∷ s) os is o = omega (arith, many n to ks s os is.1 o)

  pub record HasLoop (ks : List Kind) (n : ℕ) (b : Scratch) (s : List ℤ) : Type 0 where
    pub loop : Loop
    pub is : IsLoop u.cells loops loop b.counts
    pub enough : n ≤ length s

  loop_over : (ks : List Kind) (n : ℕ) (to : List ℕ) (s : List ℤ) (b : Scratch) → Fit ks s b → IsOver (at_loop ks n to) → HasLoop ks n b s
  loop_over [] n to s b fits o = absurd o
  loop_over (kinds.Returned ∷ ks) n to s b fits o = absurd o
  loop_over (kinds.Word r ∷ ks) n to s b fits o = absurd o
  loop_over (kinds.Operand p ∷ ks) n to s b fits o = absurd o
  loop_over (kinds.LoopOf l ∷ ks) n to s b fits o = record { loop = l; is = fits.counts; enough = many n to ks s (reverse b.operands) fits.stands o }

  again_ends : (l : Loop) (body behind : ℕ) (o : Option Trips) → l.number < length m.loops → l.word < length m.words → EndsFine ss u (ends_trip l body behind o m)
  again_ends l body behind None n w = tt
  again_ends l body behind (Some t) n w =
      let x = word_there m.words l.word w in
      found_ends (slice_get m.words l.word) x.0 (λ x. gives (sum x t.by) (λ v. counted l body behind (record { behind = fewer t.behind; by = t.by }) v m)) x.1
      (gives_ends (sum x.0 t.by) (λ v. counted l body behind (record { behind = fewer t.behind; by = t.by }) v m) (λ v. counted_ends l body behind (record { behind = fewer t.behind; by = t.by }) v n w))

  -- ---- calls

  call_fits : (n : ℕ) (h : Heading → Bool) (ks : List Kind) (s : List ℤ) (b : Scratch) → Fit ks s b → calls_fit ss u n h (operands_on ks) ≡ true → Fitted ss u n b.operands
  call_fits n h ks s b fits e = go (slice_get ss.units n) refl e
    where
      go : (o : Option Shape) → slice_get ss.units n ≡ o → (heading_of o h && (only_results (operands_on ks).rest && fit_formals u.cells (cells_of o) 1 (reverse (operands_on ks).operands))) ≡ true → Fitted ss u n b.operands
      go None is e = absurd cc
      go (Some c) is e =
          let p = and_parts (h c.heading) (only_results (operands_on ks).rest && fit_formals u.cells c.cells 1 (reverse (operands_on ks).operands)) e in
          let q = and_parts (only_results (operands_on ks).rest) (fit_formals u.cells c.cells 1 (reverse (operands_on ks).operands)) p.1 in
          let all = taken_fit ks s (reverse b.operands) fits.stands q.0 in
          record {
            callee = c;
            there = is;
            passed = reverse (operands_on ks).operands;
            fit = q.1;
            all = subst (λ (os : List Operand). AllFit (reverse (operands_on ks).operands) os) (reverse-reverse b.operands) (reversed_fit (operands_on ks).operands (reverse b.operands) all);
          }

  -- ---- ends

  abbrev EndMoves : End → List Kind → List ℤ → Scratch → Type 0
  EndMoves i ks s b = Fit ks s b → IsOver (ended ss u at i ks) → EndsFine ss u (ends i s b m)

  with_top : (f : ℤ → List ℤ → Act) (s : List ℤ) → ((x : ℤ) × (rest : List ℤ) × (s ≡ x ∷ rest)) → ((x : ℤ) (rest : List ℤ) → EndsFine ss u (f x rest)) → EndsFine ss u (acts.with_one s f)
  with_top f s t h = rw t.2 (h t.0 t.1)

  store_moves : (k to : ℕ) (ks : List Kind) (s : List ℤ) (b : Scratch) → EndMoves (end.Store k to) ks s b
  store_moves k to ks s b fits o =
      let c = chosen (are_words u.cells (single k)) (ends_word ks (to ∷ [])) o in
      let low = words_inside (words_of u.cells) u.cells inside (single k) c.0 in
      with_top (λ v s. stored to k v m) s (word_top ks s b (to ∷ []) fits c.1) (λ v rest. stored_ends to k v (omega (arith, low, fits.frame.words)))

  store_at_moves : (to : ℕ) (ks : List Kind) (s : List ℤ) (b : Scratch) → EndMoves (end.StoreAt to) ks s b
  store_at_moves to [] s b fits o = absurd o
  store_at_moves to (kinds.Returned ∷ ks) s b fits o = absurd o
  store_at_moves to (kinds.Operand p ∷ ks) s b fits o = absurd o
  store_at_moves to (kinds.LoopOf l ∷ ks) s b fits o = absurd o
  store_at_moves to (kinds.Word r ∷ []) s b fits o = absurd o
  store_at_moves to (kinds.Word r ∷ kinds.Returned ∷ ks) s b fits o = absurd o
  store_at_moves to (kinds.Word r ∷ kinds.Operand p ∷ ks) s b fits o = absurd o
  store_at_moves to (kinds.Word r ∷ kinds.LoopOf l ∷ ks) s b fits o = absurd o
  store_at_moves to (kinds.Word r ∷ kinds.Word None ∷ ks) s b fits o = absurd o
  store_at_moves to (kinds.Word r ∷ kinds.Word (Some t) ∷ ks) [] b fits o = absurd fits.stands
  store_at_moves to (kinds.Word r ∷ kinds.Word (Some t) ∷ ks) (v ∷ []) b fits o = absurd fits.stands.1
  store_at_moves to (kinds.Word r ∷ kinds.Word (Some t) ∷ ks) (v ∷ x ∷ s) b fits o = go (are_words u.cells t) refl o
    where
      go : (w : Bool) → are_words u.cells t ≡ w → IsOver (ending (to ∷ []) (cond w (Some ks) None)) → EndsFine ss u (at_word m x (λ k. stored to k v m))
      go false is o = absurd o
      go true is o = at_word_ends t x (λ k. stored to k v m) (kinds.Word r ∷ kinds.Word (Some t) ∷ ks) (v ∷ x ∷ s) b fits (words_inside (words_of u.cells) u.cells inside t is) fits.stands.1.0 (λ k low. stored_ends to k v low)

  three : (f : ℤ → ℤ → ℤ → List ℤ → Act) (s : List ℤ) → 3 ≤ length s → ((x y z : ℤ) (rest : List ℤ) → EndsFine ss u (f x y z rest)) → EndsFine ss u (acts.with_three s f)
  three f [] e h = absurd (omega (arith, e))
  three f (z ∷ []) e h = absurd (omega (arith, e))
  three f (z ∷ y ∷ []) e h = absurd (omega (arith, e))
  three f (z ∷ y ∷ x ∷ s) e h = h x y z s

  enter_moves : (body behind : ℕ) (ks : List Kind) (s : List ℤ) (b : Scratch) → EndMoves (end.Enter body behind) ks s b
  enter_moves body behind ks s b fits o =
      let l = loop_over ks 3 (body ∷ behind ∷ []) s b fits o in
      three (λ from to by s. found b.counts (λ l. enters l body behind from to by m)) s l.enough
      (λ from to by rest. found_ends b.counts l.loop (λ l. enters l body behind from to by m) l.is.is
      (gives_ends (trips_behind from to by) (λ n. counted l.loop body behind (record { behind = n; by = by }) from m)
      (λ n. counted_ends l.loop body behind (record { behind = n; by = by }) from (omega (arith, l.is.number, fits.frame.counts)) (omega (arith, l.is.word, fits.frame.words)))))

  again_moves : (body behind : ℕ) (ks : List Kind) (s : List ℤ) (b : Scratch) → EndMoves (end.Again body behind) ks s b
  again_moves body behind ks s b fits o =
      let l = loop_over ks 0 (body ∷ behind ∷ []) s b fits o in
      let number : l.loop.number < length m.loops = omega (arith, l.is.number, fits.frame.counts) in
      let t = loop_there m.loops l.loop.number number in
      found_ends b.counts l.loop (λ l. found (slice_get m.loops l.number) (λ t. ends_trip l body behind t m)) l.is.is
      (found_ends (slice_get m.loops l.loop.number) t.0 (λ t. ends_trip l.loop body behind t m) t.1 (again_ends l.loop body behind t.0 number (omega (arith, l.is.word, fits.frame.words))))

  return_value_moves : (k : ℕ) (ks : List Kind) (s : List ℤ) (b : Scratch) → EndMoves (end.ReturnValue k) ks s b
  return_value_moves k ks s b fits o =
      let a = and_parts (is_function u.heading) (are_words u.cells (single k) && only_results ks) (tested (is_function u.heading && (are_words u.cells (single k) && only_results ks)) [] o) in
      let c = and_parts (are_words u.cells (single k)) (only_results ks) a.1 in
      let low = words_inside (words_of u.cells) u.cells inside (single k) c.0 in
      let w = word_there m.words k (omega (arith, low, fits.frame.words)) in
      found_ends (slice_get m.words k) w.0 (λ v. Over (acts.ReturnsValue v)) w.1 tt

  pub ends_move : (i : End) (ks : List Kind) (s : List ℤ) (b : Scratch) → EndMoves i ks s b
  ends_move (end.Goto to) ks s b fits o = tt
  ends_move (end.Test holding failing) ks s b fits o = with_top (λ x s. Over (Goes (cond (is_truth x) holding failing) m)) s (word_top ks s b (holding ∷ failing ∷ []) fits o) (λ x rest. tt)
  ends_move (end.Store k to) ks s b fits o = store_moves k to ks s b fits o
  ends_move (end.StoreAt to) ks s b fits o = store_at_moves to ks s b fits o
  ends_move (end.Enter body behind) ks s b fits o = enter_moves body behind ks s b fits o
  ends_move (end.Again body behind) ks s b fits o = again_moves body behind ks s b fits o
  ends_move (end.Print to) ks s b fits o = tt
  ends_move (end.Call n to) ks s b fits o = call_fits n is_subroutine ks s b fits (tested (calls_fit ss u n is_subroutine (operands_on ks)) (to ∷ []) o)
  ends_move (end.Refer n to) ks s b fits o =
      call_fits n is_function ks s b fits (and_parts (calls_fit ss u n is_function (operands_on ks)) (to == suc at) (chosen (calls_fit ss u n is_function (operands_on ks) && (to == suc at)) (effects.Over (to ∷ []) (suc (results_in ks))) o).0).0
  ends_move end.Return ks s b fits o = tt
  ends_move (end.ReturnValue k) ks s b fits o = return_value_moves k ks s b fits o
  ends_move (end.Start n to) ks s b fits o = call_fits n is_process ks s b fits (tested (calls_fit ss u n is_process (operands_on ks)) (to ∷ []) o)

  -- ---- ports

  abbrev MeetMoves : Meet → List Kind → List ℤ → Scratch → Type 0
  MeetMoves i ks s b = Fit ks s b → IsOver (met ss u at i ks) → EndsFine ss u (meets i s b m)

  -- a port on top of this list, which stands on the stack
  port_moves : (rest : List Kind) (s : List ℤ) (os : List Operand) → length m.words ≡ words_of u.cells → Stands rest s os → HasPort u.cells rest → (f : ℕ → List ℤ → Act) → ((k : ℕ) (t : List ℤ) → k < length m.words → EndsFine ss u (f k t))
      → EndsFine ss u (acts.with_one s (λ x t. at_word m x (λ k. f k t)))
  port_moves [] s os words is h f g = absurd (cc (sym h.is))
  port_moves (k ∷ rest) [] os words is h f g = absurd (subst (λ (ks : List Kind). Stands ks [] os) h.is is)
  port_moves (k ∷ rest) (x ∷ s) os words is h f g =
      let stands : Stands (kinds.Word (Some h.span) ∷ h.rest) (x ∷ s) os = subst (λ (ks : List Kind). Stands ks (x ∷ s) os) h.is is in
      let end = sorted_inside (words_of u.cells) u.cells inside h.span h.sort h.at in
      let w = there m h.span x (omega (arith, end, words)) stands.0 in
      rw w.1 (g w.0 s w.4)

  two_moves : (ks : List Kind) (s : List ℤ) (os : List Operand) → length m.words ≡ words_of u.cells → Stands ks s os → HasTwo u.cells ks → (f : ℤ → ℤ → Act) → ((x y : ℤ) (i j : Span) → i.first + i.count ≤ length m.words → j.first + j.count ≤ length m.words → IsAmong i x → IsAmong j y → EndsFine ss u (f x y))
      → EndsFine ss u (acts.with_two s (λ x y t. f x y))
  two_moves ks [] os words is h f g = absurd (subst (λ (ks : List Kind). Stands ks [] os) h.is is)
  two_moves ks (y ∷ []) os words is h f g =
      let outer : Stands (kinds.Word (Some h.span) ∷ h.rest) (y ∷ []) os = subst (λ (ks : List Kind). Stands ks (y ∷ []) os) h.is is in
      absurd (subst (λ (ks : List Kind). Stands ks [] os) h.deeper.is outer.1)
  two_moves ks (y ∷ x ∷ s) os words is h f g =
      let outer : Stands (kinds.Word (Some h.span) ∷ h.rest) (y ∷ x ∷ s) os = subst (λ (ks : List Kind). Stands ks (y ∷ x ∷ s) os) h.is is in
      let inner : Stands (kinds.Word (Some h.deeper.span) ∷ h.deeper.rest) (x ∷ s) os = subst (λ (ks : List Kind). Stands ks (x ∷ s) os) h.deeper.is outer.1 in
      let e1 = sorted_inside (words_of u.cells) u.cells inside h.span h.sort h.at in
      let e2 = sorted_inside (words_of u.cells) u.cells inside h.deeper.span h.deeper.sort h.deeper.at in
      g x y h.deeper.span h.span (omega (arith, e2, words)) (omega (arith, e1, words)) inner.0 outer.0

  at_ends : (x : ℤ) (i : Span) (f : ℕ → Act) → i.first + i.count ≤ length m.words → IsAmong i x → ((k : ℕ) → k < length m.words → EndsFine ss u (f k)) → EndsFine ss u (at_word m x f)
  at_ends x i f end a h = let w = there m i x end a in rw w.1 (h w.0 w.4)

  pub meets_move : (i : Meet) (ks : List Kind) (s : List ℤ) (b : Scratch) → MeetMoves i ks s b
  meets_move meet.Stop ks s b fits o = tt
  meets_move (meet.Send next) ks s b fits o =
      let r = under_operands ks s (reverse b.operands) fits.stands in
      port_moves (operands_on ks).rest s r.0 fits.frame.words r.1 (port_over u.cells (operands_on ks).rest _ o) (λ k t. by_port m k (λ slot. asks (ask.Send slot b.operands next)))
      (λ k t low. by_port_ends k (λ slot. asks (ask.Send slot b.operands next)) low (λ v. tt))
  meets_move (meet.Receive next) ks s b fits o =
      let r = under_operands ks s (reverse b.operands) fits.stands in
      port_moves (operands_on ks).rest s r.0 fits.frame.words r.1 (port_over u.cells (operands_on ks).rest _ o) (λ k t. by_port m k (λ slot. asks (ask.Receive slot b.operands b.status None next)))
      (λ k t low. by_port_ends k (λ slot. asks (ask.Receive slot b.operands b.status None next)) low (λ v. tt))
  meets_move (meet.ReceiveOr at_end next) ks s b fits o =
      let r = under_operands ks s (reverse b.operands) fits.stands in
      port_moves (operands_on ks).rest s r.0 fits.frame.words r.1 (port_over u.cells (operands_on ks).rest _ o) (λ k t. by_port m k (λ slot. asks (ask.Receive slot b.operands b.status (Some at_end) next)))
      (λ k t low. by_port_ends k (λ slot. asks (ask.Receive slot b.operands b.status (Some at_end) next)) low (λ v. tt))
  meets_move (meet.Channel next) ks s b fits o =
      two_moves ks s (reverse b.operands) fits.frame.words fits.stands (two_over u.cells ks _ o) (λ x y. at_word m x (λ i. at_word m y (λ o. asks (ask.Channel i o next))))
      (λ x y i j e1 e2 a1 a2. at_ends x i (λ i. at_word m y (λ o. asks (ask.Channel i o next))) e1 a1 (λ k low. at_ends y j (λ o. asks (ask.Channel k o next)) e2 a2 (λ n l. tt)))
  meets_move (meet.ChannelFrom next) ks s b fits o =
      two_moves ks s (reverse b.operands) fits.frame.words fits.stands (two_over u.cells ks _ o) (λ x y. at_word m x (λ o. at_word m y (λ i. asks (ask.Channel i o next))))
      (λ x y i j e1 e2 a1 a2. at_ends x i (λ o. at_word m y (λ i. asks (ask.Channel i o next))) e1 a1 (λ k low. at_ends y j (λ i. asks (ask.Channel i k next)) e2 a2 (λ n l. tt)))
  meets_move (meet.Merger next) ks s b fits o =
      let r = under_operands ks s (reverse b.operands) fits.stands in
      port_moves (operands_on ks).rest s r.0 fits.frame.words r.1 (port_over u.cells (operands_on ks).rest _ o) (λ i t. asks (ask.Merger i b.operands next)) (λ k t low. tt)
  meets_move (meet.EndChannel next) ks s b fits o =
      port_moves ks s (reverse b.operands) fits.frame.words fits.stands (port_over u.cells ks _ o) (λ k t. closes m next k) (λ k t low. by_port_ends k (λ slot. Over (acts.Closes k next)) low (λ v. tt))
  meets_move (meet.MovePort next) ks s b fits o =
      two_moves ks s (reverse b.operands) fits.frame.words fits.stands (two_over u.cells ks _ o) (λ x y. at_word m x (λ from. at_word m y (λ into. Over (acts.Moves from into next))))
      (λ x y i j e1 e2 a1 a2. at_ends x i (λ from. at_word m y (λ into. Over (acts.Moves from into next))) e1 a1 (λ k low. at_ends y j (λ into. Over (acts.Moves k into next)) e2 a2 (λ n l. tt)))
  meets_move (meet.Probe next) ks s b fits o =
      two_moves ks s (reverse b.operands) fits.frame.words fits.stands (two_over u.cells ks _ o) (λ x y. at_word m y (λ k. acts.at_port m x (λ slot. asks (ask.Probe slot k next))))
      (λ x y i j e1 e2 a1 a2. at_ends y j (λ k. acts.at_port m x (λ slot. asks (ask.Probe slot k next))) e2 a2
      (λ k low. at_ends x i (λ n. by_port m n (λ slot. asks (ask.Probe slot k next))) e1 a1 (λ n l. by_port_ends n (λ slot. asks (ask.Probe slot k next)) l (λ v. tt))))
  meets_move (meet.Begin next) ks s b fits o = tt
  meets_move (meet.Join next) ks s b fits o = tt
