-- Where a statement of code with its kinds ends.
use Rattle.std.proofs.Common.{◌≡◌, ℕ, zero, suc, ◌+◌, ◌≤◌, ◌<◌, ℤ, pos, Bool, true, false, cond, ◌&&◌, ◌==◌, Option, Some, None, List, [], ◌∷◌, ◌++◌, length, set, get_or, slice_get, reverse, Result, Ok, Err, refl, sym, ap, subst, ◌∙◌, arith}
use Rattle.std.specs.Prelude.{nat_lt}
use Rattle.std.specs.List.{AllByRecursion}
use Rattle.std.specs.Ordering.{int_eq}
use Rattle.std.proofs.lemmas.List.{append-nil, reverse-reverse, length-set}
use Rattle.std.proofs.lemmas.Bool.{and_parts, and_from, lt-ltb}
use Rattle.fm_base.specs.declared.fault.Fault.{Fault}
use Rattle.fm_base.specs.declared.fault.Fault.TheVariants.{NullPort}
use Rattle.fm_values.specs.Values.{sum, is_truth}
use Rattle.fm_values.specs.Trips.{trips_behind}
use Rattle.fm_code.specs.declared.ask.Operand.{Operand}
use Rattle.fm_code.specs.declared.ask.Operand.TheVariants as operand
use Rattle.fm_code.specs.declared.ask.Ask.TheVariants as ask
use Rattle.fm_code.specs.declared.body.Frame.{Frame}
use Rattle.fm_code.specs.declared.body.Trips.{Trips}
use Rattle.fm_code.specs.declared.code.Span.{Span}
use Rattle.fm_code.specs.declared.instr.End.{End}
use Rattle.fm_code.specs.declared.instr.End.TheVariants as end
use Rattle.fm_code.specs.declared.instr.Meet.{Meet}
use Rattle.fm_code.specs.declared.instr.Meet.TheVariants as meet
use Rattle.fm_code.specs.declared.instr.Instr.{Instr}
use Rattle.fm_code.specs.declared.instr.Loop.{Loop}
use Rattle.fm_code.specs.declared.scratch.Scratch.{Scratch}
use Rattle.fm_code.specs.Acts.{Act, StatementEnd, Goes, Fails, gives, found, at_word, by_port, asks, stored, counted, enters, ends_trip, fewer, led, evaluates, builds, ends, meets, act, then_work, work, nothing, statement, closes}
use Rattle.fm_code.specs.Acts as acts
use Rattle.fm_code_kinds.specs.declared.sorts.Sort.{Sort}
use Rattle.fm_code_kinds.specs.declared.sorts.Sort.TheVariants.{Integer, Logical, In, Out}
use Rattle.fm_code_kinds.specs.declared.sorts.Heading.{Heading}
use Rattle.fm_code_kinds.specs.declared.sorts.Heading.TheVariants as heading
use Rattle.fm_code_kinds.specs.declared.sorts.Cell.{Cell}
use Rattle.fm_code_kinds.specs.declared.sorts.Field.{Field}
use Rattle.fm_code_kinds.specs.declared.sorts.Shape.{Shape}
use Rattle.fm_code_kinds.specs.declared.sorts.Shapes.{Shapes}
use Rattle.fm_code_kinds.specs.Shapes.{are_ports, are_words, fields_of, has_sort, is_function, is_port, is_process, is_subroutine, is_word, same_sort, single, sort_at, words_of}
use Rattle.fm_code_kinds.specs.declared.kinds.Kind.{Kind}
use Rattle.fm_code_kinds.specs.declared.kinds.Kind.TheVariants as kinds
use Rattle.fm_code_kinds.specs.declared.kinds.Passed.{Passed}
use Rattle.fm_code_kinds.specs.declared.kinds.Passed.TheVariants as pass
use Rattle.fm_code_kinds.specs.Effects as effects
use Rattle.fm_code_kinds.specs.Effects.{Effect, heading_of, cells_of, fit_formals, results_in, only_results, with_word, with_place, given_where, without_words, Taken, operands_on, over_where, ending, ends_word, at_loop, at_port, at_two, sorted, if_in, if_out, calls_fit, ended, met, evaluated, built, goes_on, effect, fit_fields, fits_sent, fits_received, fits_room, is_target, takes_words, is_outport, all_outports, is_port_sort, is_sized, sized}
use Rattle.fm_code_kinds.specs.Fitting.{IsAmong, IsOneOf, OperandFits, Stands, IsLoop, Fits, AllFit, Fitted}
use Rattle.fm_code_kinds.specs.Kinded.{Coded, Lists, AreAt, IsFine}
use Rattle.fm_code_kinds.proofs.Places.{AreInside, words_inside, sorted_inside, word_there, loop_there}
use Rattle.fm_code_kinds.proofs.Building.{there}
use Rattle.fm_code_kinds.proofs.Operands.{results_end, taken_fit, reversed_fit, split_at}
use Rattle.fm_code_preserves.specs.Rooms.{IsPorts, IsRoom, IsSendable, IsTarget, is_port_word}
use Rattle.fm_code_preserves.specs.Endings.{IsPortWord, IsPlainWord, IsSlotWord, HasValues, StatusFits, Begins, EndsFine}
use Rattle.fm_code_preserves.specs.Weights.{heavy, masked}
use Rattle.fm_code_preserves.proofs.Masks.{masked_set}
use Rattle.fm_code_preserves.proofs.Sorted.{room_words, plain_room, port_sort, word_sort}
use Rattle.fm_code_preserves.proofs.Along.{ArePlain}

-- ---- effects that aren't ill

module _ (code : List Instr) (lists : Lists) (at : ℕ) where
  abbrev pub Fine : Effect → Type 0
  Fine e = IsFine code lists at e

  where_fine : (b : Bool) (to : List ℕ) → Fine (over_where b to) → (b ≡ true) × AreAt code lists to []
  where_fine true to f = (refl, f.0)
  where_fine false to f = absurd f

  cond_fine : (b : Bool) (e : Effect) → Fine (cond b e effects.Ill) → (b ≡ true) × Fine e
  cond_fine true e f = (refl, f)
  cond_fine false e f = absurd f

  ending_fine : (to : List ℕ) (o : Option (List Kind)) → Fine (ending to o) → (ks : List Kind) × (o ≡ Some ks) × (only_results ks ≡ true) × AreAt code lists to []
  ending_fine to None f = absurd f
  ending_fine to (Some ks) f = let w = where_fine (only_results ks) to f in (ks, refl, w.0, w.1)

  -- the list begins with a port's place, and nothing but results is below
  pub record PortTop (cells : List Cell) (ks : List Kind) (f : Sort → Effect) : Type 0 where
    pub span : Span
    pub rest : List Kind
    pub sort : Sort
    pub is : ks ≡ kinds.Word (Some span) ∷ rest
    pub sorted_at : sort_at cells span ≡ Some sort
    pub only : only_results rest ≡ true
    pub fine : Fine (f sort)

  sorted_fine : (o : Option Sort) (f : Sort → Effect) → Fine (sorted o f) → (t : Sort) × (o ≡ Some t) × Fine (f t)
  sorted_fine None f g = absurd g
  sorted_fine (Some t) f g = (t, refl, g)

  port_fine : (cells : List Cell) (ks : List Kind) (f : Sort → Effect) → Fine (at_port cells ks f) → PortTop cells ks f
  port_fine cells [] f g = absurd g
  port_fine cells (kinds.Returned ∷ ks) f g = absurd g
  port_fine cells (kinds.Word None ∷ ks) f g = absurd g
  port_fine cells (kinds.Operand o ∷ ks) f g = absurd g
  port_fine cells (kinds.LoopOf l ∷ ks) f g = absurd g
  port_fine cells (kinds.Word (Some s) ∷ ks) f g =
      let t = sorted_fine (sort_at cells s) (λ t. cond (only_results ks) (f t) effects.Ill) g in
      let c = cond_fine (only_results ks) (f t.0) t.2 in
      record { span = s; rest = ks; sort = t.0; is = refl; sorted_at = t.1; only = c.0; fine = c.1 }

  pub record TwoTop (cells : List Cell) (ks : List Kind) (f : Sort → Sort → Effect) : Type 0 where
    pub span : Span
    pub rest : List Kind
    pub sort : Sort
    pub is : ks ≡ kinds.Word (Some span) ∷ rest
    pub sorted_at : sort_at cells span ≡ Some sort
    pub deeper : PortTop cells rest (λ r. f r sort)

  two_fine : (cells : List Cell) (ks : List Kind) (f : Sort → Sort → Effect) → Fine (at_two cells ks f) → TwoTop cells ks f
  two_fine cells [] f g = absurd g
  two_fine cells (kinds.Returned ∷ ks) f g = absurd g
  two_fine cells (kinds.Word None ∷ ks) f g = absurd g
  two_fine cells (kinds.Operand o ∷ ks) f g = absurd g
  two_fine cells (kinds.LoopOf l ∷ ks) f g = absurd g
  two_fine cells (kinds.Word (Some s) ∷ ks) f g =
      let t = sorted_fine (sort_at cells s) (λ t. at_port cells ks (λ r. f r t)) g in
      record { span = s; rest = ks; sort = t.0; is = refl; sorted_at = t.1; deeper = port_fine cells ks (λ r. f r t.0) t.2 }

  in_fine : (s : Sort) (f : ℕ → Effect) → Fine (if_in s f) → (is_port s ≡ true) × ((t : ℕ) × Fine (f t))
  in_fine Integer f g = absurd g
  in_fine Logical f g = absurd g
  in_fine (In t) f g = (refl, (t, g))
  in_fine (Out t) f g = absurd g

  out_fine : (s : Sort) (f : ℕ → Effect) → Fine (if_out s f) → (is_port s ≡ true) × ((t : ℕ) × Fine (f t))
  out_fine Integer f g = absurd g
  out_fine Logical f g = absurd g
  out_fine (In t) f g = absurd g
  out_fine (Out t) f g = (refl, (t, g))

same_port : (s : Sort) (t : ℕ) → same_sort s (Out t) ≡ true → is_port s ≡ true
same_port Integer t e = absurd cc
same_port Logical t e = absurd cc
same_port (In u) t e = absurd cc
same_port (Out u) t e = refl

both_ports : (a b : Sort) → same_sort a b ≡ true → is_port_sort (Some a) ≡ true → (is_port a ≡ true) × (is_port b ≡ true)
both_ports Integer b e p = absurd cc
both_ports Logical b e p = absurd cc
both_ports (In t) Integer e p = absurd cc
both_ports (In t) Logical e p = absurd cc
both_ports (In t) (In u) e p = (refl, refl)
both_ports (In t) (Out u) e p = absurd cc
both_ports (Out t) Integer e p = absurd cc
both_ports (Out t) Logical e p = absurd cc
both_ports (Out t) (In u) e p = absurd cc
both_ports (Out t) (Out u) e p = (refl, refl)

word_plain : (s : Sort) → is_word s ≡ true → is_port s ≡ false
word_plain Integer e = refl
word_plain Logical e = refl
word_plain (In t) e = absurd cc
word_plain (Out t) e = absurd cc

-- ---- operands

module _ (cells : List Cell) where
  sized_port : (n k : ℕ) (o : Option Sort) (s : Sort) → is_port s ≡ true → sized n k o s ≡ true → (t : Sort) × (o ≡ Some t) × (is_port t ≡ true)
  sized_port n k None s p e = absurd cc
  sized_port n k (Some t) s p e = (t, refl, same t s (and_parts (n == k) (same_sort t s) e).1 p)
    where
      same : (t s : Sort) → same_sort t s ≡ true → is_port s ≡ true → is_port t ≡ true
      same t Integer e p = absurd cc
      same t Logical e p = absurd cc
      same Integer (In u) e p = absurd cc
      same Logical (In u) e p = absurd cc
      same (In t) (In u) e p = refl
      same (Out t) (In u) e p = absurd cc
      same Integer (Out u) e p = absurd cc
      same Logical (Out u) e p = absurd cc
      same (In t) (Out u) e p = absurd cc
      same (Out t) (Out u) e p = refl

  -- one word of a room is a room
  pub one_room : (s t : Span) (p : Bool) → IsOneOf s t → IsRoom cells s p → IsRoom cells t p
  one_room s t p is r =
      let same : single t.first ≡ t = λ i. record { first = t.first; count = sym is.single i } in
      record { sort = r.sort; at = subst (λ (x : Span). sort_at cells x ≡ Some r.sort) same (word_sort cells s r.sort r.at t.first is.low is.high); port_is = r.port_is }

  pub port_room : (s : Span) (n : ℕ) (q : Sort) (k : ℕ) → is_port q ≡ true → sized k n (sort_at cells s) q ≡ true → IsRoom cells s true
  port_room s n q k p e = let z = sized_port k n (sort_at cells s) q p e in record { sort = z.0; at = z.1; port_is = z.2 }

  -- what fits a room by its kind
  pub fits_sendable : (q : Sort) (n : ℕ) (p : Passed) (o : Operand) → OperandFits p o → fits_room cells q n p ≡ true → IsSendable cells o
  fits_sendable q n pass.Value (operand.Value v) is e = tt
  fits_sendable q n pass.Value (operand.Words s) is e = tt
  fits_sendable q n pass.Value (operand.Ports s) is e = absurd is
  fits_sendable q n (pass.Words t) (operand.Value v) is e = tt
  fits_sendable q n (pass.Words t) (operand.Words s) is e = tt
  fits_sendable q n (pass.Words t) (operand.Ports s) is e = absurd is
  fits_sendable q n (pass.Ports t) (operand.Value v) is e = tt
  fits_sendable q n (pass.Ports t) (operand.Words s) is e = tt
  fits_sendable q n (pass.Ports t) (operand.Ports s) is e =
      let a = and_parts (is_port q) (sized t.count n (sort_at cells t) q) e in
      subst (λ (x : Span). IsRoom cells x true) is (port_room t n q t.count a.0 a.1)
  fits_sendable q n (pass.WordIn t) (operand.Value v) is e = tt
  fits_sendable q n (pass.WordIn t) (operand.Words s) is e = tt
  fits_sendable q n (pass.WordIn t) (operand.Ports s) is e = absurd is
  fits_sendable q n (pass.PortIn t) (operand.Value v) is e = tt
  fits_sendable q n (pass.PortIn t) (operand.Words s) is e = tt
  fits_sendable q n (pass.PortIn t) (operand.Ports s) is e =
      let a = and_parts (is_port q) (sized 1 n (sort_at cells t) q) e in
      one_room t s true is (port_room t n q 1 a.0 a.1)
  fits_sendable q n (pass.Sized k) (operand.Value v) is e = tt
  fits_sendable q n (pass.Sized k) (operand.Words s) is e = tt
  fits_sendable q n (pass.Sized k) (operand.Ports s) is e = absurd is

  -- the same, of what is stored into
  plain_target : (p : Passed) (o : Operand) → OperandFits p o → is_target p ≡ true → takes_words cells p ≡ true → IsTarget cells o
  plain_target pass.Value o is target e = absurd cc
  plain_target (pass.Words t) (operand.Value v) is target e = absurd is
  plain_target (pass.Words t) (operand.Words s) is target e = subst (λ (x : Span). IsRoom cells x false) is (plain_room cells t e)
  plain_target (pass.Words t) (operand.Ports s) is target e = absurd is
  plain_target (pass.Ports t) o is target e = absurd cc
  plain_target (pass.WordIn t) (operand.Value v) is target e = absurd is
  plain_target (pass.WordIn t) (operand.Words s) is target e = one_room t s false is (plain_room cells t e)
  plain_target (pass.WordIn t) (operand.Ports s) is target e = absurd is
  plain_target (pass.PortIn t) o is target e = absurd cc
  plain_target (pass.Sized k) o is target e = absurd cc

  pub fits_target : (q : Sort) (n : ℕ) (p : Passed) (o : Operand) → OperandFits p o → is_target p ≡ true → fits_room cells q n p ≡ true → IsTarget cells o
  fits_target q n pass.Value o is target e = absurd cc
  fits_target q n (pass.Words t) (operand.Value v) is target e = absurd is
  fits_target q n (pass.Words t) (operand.Words s) is target e =
      let a = and_parts (is_word q) ((t.count == n) && are_words cells t) e in
      subst (λ (x : Span). IsRoom cells x false) is (plain_room cells t (and_parts (t.count == n) (are_words cells t) a.1).1)
  fits_target q n (pass.Words t) (operand.Ports s) is target e = absurd is
  fits_target q n (pass.Ports t) (operand.Value v) is target e = absurd is
  fits_target q n (pass.Ports t) (operand.Words s) is target e = absurd is
  fits_target q n (pass.Ports t) (operand.Ports s) is target e =
      let a = and_parts (is_port q) (sized t.count n (sort_at cells t) q) e in
      subst (λ (x : Span). IsRoom cells x true) is (port_room t n q t.count a.0 a.1)
  fits_target q n (pass.WordIn t) (operand.Value v) is target e = absurd is
  fits_target q n (pass.WordIn t) (operand.Words s) is target e =
      let a = and_parts (is_word q) ((n == 1) && are_words cells t) e in
      one_room t s false is (plain_room cells t (and_parts (n == 1) (are_words cells t) a.1).1)
  fits_target q n (pass.WordIn t) (operand.Ports s) is target e = absurd is
  fits_target q n (pass.PortIn t) (operand.Value v) is target e = absurd is
  fits_target q n (pass.PortIn t) (operand.Words s) is target e = absurd is
  fits_target q n (pass.PortIn t) (operand.Ports s) is target e =
      let a = and_parts (is_port q) (sized 1 n (sort_at cells t) q) e in
      one_room t s true is (port_room t n q 1 a.0 a.1)
  fits_target q n (pass.Sized k) o is target e = absurd cc

  -- words that were cut to a size are sent
  sized_sendable : (n : ℕ) (p : Passed) (o : Operand) → OperandFits p o → is_sized n p ≡ true → IsSendable cells o
  sized_sendable n pass.Value o is e = absurd cc
  sized_sendable n (pass.Words t) o is e = absurd cc
  sized_sendable n (pass.Ports t) o is e = absurd cc
  sized_sendable n (pass.WordIn t) o is e = absurd cc
  sized_sendable n (pass.PortIn t) o is e = absurd cc
  sized_sendable n (pass.Sized k) (operand.Value v) is e = tt
  sized_sendable n (pass.Sized k) (operand.Words s) is e = tt
  sized_sendable n (pass.Sized k) (operand.Ports s) is e = absurd is

  sent_fits : (f : Field) (p : Passed) (o : Operand) → OperandFits p o → fits_sent cells f p ≡ true → IsSendable cells o
  sent_fits f p o is e = go (f.size == 0) e
    where
      go : (b : Bool) → cond b (fits_room cells f.sort f.words p) (is_word f.sort && is_sized f.size p) ≡ true → IsSendable cells o
      go true h = fits_sendable f.sort f.words p o is h
      go false h = sized_sendable f.size p o is (and_parts (is_word f.sort) (is_sized f.size p) h).1

  received_fits : (f : Field) (p : Passed) (o : Operand) → OperandFits p o → fits_received cells f p ≡ true → IsTarget cells o
  received_fits f p o is e = go (f.size == 0) a.1
    where
      a : (is_target p ≡ true) × (cond (f.size == 0) (fits_room cells f.sort f.words p) (is_word f.sort && takes_words cells p) ≡ true)
      a = and_parts (is_target p) (cond (f.size == 0) (fits_room cells f.sort f.words p) (is_word f.sort && takes_words cells p)) e

      go : (b : Bool) → cond b (fits_room cells f.sort f.words p) (is_word f.sort && takes_words cells p) ≡ true → IsTarget cells o
      go true h = fits_target f.sort f.words p o is a.0 h
      go false h = plain_target p o is a.0 (and_parts (is_word f.sort) (takes_words cells p) h).1

  pub all_sent : (fs : List Field) (ps : List Passed) (os : List Operand) → AllFit ps os → fit_fields (fits_sent cells) fs ps ≡ true → AllByRecursion (IsSendable cells) os
  all_sent fs [] [] all e = tt
  all_sent fs [] (o ∷ os) all e = absurd all
  all_sent fs (p ∷ ps) [] all e = tt
  all_sent [] (p ∷ ps) (o ∷ os) all e = absurd cc
  all_sent (f ∷ fs) (p ∷ ps) (o ∷ os) all e =
      let a = and_parts (fits_sent cells f p) (fit_fields (fits_sent cells) fs ps) e in
      (sent_fits f p o all.0 a.0, all_sent fs ps os all.1 a.1)

  pub all_received : (fs : List Field) (ps : List Passed) (os : List Operand) → AllFit ps os → fit_fields (fits_received cells) fs ps ≡ true → AllByRecursion (IsTarget cells) os
  all_received fs [] [] all e = tt
  all_received fs [] (o ∷ os) all e = absurd all
  all_received fs (p ∷ ps) [] all e = tt
  all_received [] (p ∷ ps) (o ∷ os) all e = absurd cc
  all_received (f ∷ fs) (p ∷ ps) (o ∷ os) all e =
      let a = and_parts (fits_received cells f p) (fit_fields (fits_received cells) fs ps) e in
      (received_fits f p o all.0 a.0, all_received fs ps os all.1 a.1)

  outport_room : (s : Span) (t : ℕ) → are_ports cells s (Out t) ≡ true → IsRoom cells s true
  outport_room s t e = go (sort_at cells s) refl e
    where
      go : (o : Option Sort) → sort_at cells s ≡ o → has_sort o (Out t) ≡ true → IsRoom cells s true
      go None is e = absurd cc
      go (Some q) is e = record { sort = q; at = is; port_is = same_port q t e }

  out_fits : (t : ℕ) (p : Passed) (o : Operand) → OperandFits p o → is_outport cells t p ≡ true → IsPorts cells o
  out_fits t pass.Value o is e = absurd cc
  out_fits t (pass.Words s) o is e = absurd cc
  out_fits t (pass.Ports r) (operand.Value v) is e = absurd is
  out_fits t (pass.Ports r) (operand.Words s) is e = absurd is
  out_fits t (pass.Ports r) (operand.Ports s) is e = subst (λ (x : Span). IsRoom cells x true) is (outport_room r t e)
  out_fits t (pass.WordIn s) o is e = absurd cc
  out_fits t (pass.PortIn r) (operand.Value v) is e = absurd is
  out_fits t (pass.PortIn r) (operand.Words s) is e = absurd is
  out_fits t (pass.PortIn r) (operand.Ports s) is e = one_room r s true is (outport_room r t e)
  out_fits t (pass.Sized k) o is e = absurd cc

  pub all_out : (t : ℕ) (ps : List Passed) (os : List Operand) → AllFit ps os → all_outports cells t ps ≡ true → AllByRecursion (IsPorts cells) os
  all_out t [] [] all e = tt
  all_out t [] (o ∷ os) all e = absurd all
  all_out t (p ∷ ps) [] all e = tt
  all_out t (p ∷ ps) (o ∷ os) all e =
      let a = and_parts (is_outport cells t p) (all_outports cells t ps) e in
      (out_fits t p o all.0 a.0, all_out t ps os all.1 a.1)

-- ---- ends

function_apart : (h : Heading) → is_subroutine h ≡ true → is_function h ≡ false
function_apart heading.Program e = absurd cc
function_apart heading.Process e = absurd cc
function_apart heading.Subroutine e = refl
function_apart heading.Function e = absurd cc

heading_apart : (o : Option Shape) → heading_of o is_subroutine ≡ true → heading_of o is_function ≡ false
heading_apart None e = absurd cc
heading_apart (Some u) e = function_apart u.heading e

module _ (ss : Shapes) (u : Shape) (inside : AreInside (words_of u.cells) u.cells) (c : Coded) (lists : Lists) (m : Frame) (at : ℕ) where
  abbrev Good : Effect → Type 0
  Good e = IsFine c.code lists at e

  abbrev pub Ends : Act → Type 0
  Ends (acts.On s b) = ⊥
  Ends (acts.Over t) = EndsFine ss u c lists m t

  abbrev Fit : List Kind → List ℤ → Scratch → Type 0
  Fit ks s b = Fits u.cells c.loops ks s b m

  abbrev Words : Type 0
  Words = length m.words ≡ words_of u.cells

  gives_ends : {X : Type 0} (r : Result X Fault) (f : X → Act) → ((v : X) → Ends (f v)) → Ends (gives r f)
  gives_ends (Ok v) f h = h v
  gives_ends (Err fault) f h = tt

  found_ends : {X : Type 0} (o : Option X) (v : X) (f : X → Act) → o ≡ Some v → Ends (f v) → Ends (found o f)
  found_ends o v f e h = rw e h

  at_ends : (s : Span) (x : ℤ) (f : ℕ → Act) → s.first + s.count ≤ length m.words → IsAmong s x → ((k : ℕ) → s.first ≤ k → k < s.first + s.count → k < length m.words → Ends (f k)) → Ends (at_word m x f)
  at_ends s x f end a h = let w = there m s x end a in rw w.1 (h w.0 w.2 w.3 w.4)

  by_port_ends : (k : ℕ) (f : ℤ → Act) → k < length m.words → ((v : ℤ) → slice_get m.words k ≡ Some v → int_eq v (pos 0) ≡ false → Ends (f v)) → Ends (by_port m k f)
  by_port_ends k f low h =
      let w = word_there m.words k low in
      found_ends (slice_get m.words k) w.0 (λ v. cond (int_eq v (pos 0)) (acts.Over (Fails NullPort)) (f v)) w.1 (go (int_eq w.0 (pos 0)) (f w.0) (h w.0 w.1))
    where
      go : (b : Bool) (a : Act) → (b ≡ false → Ends a) → Ends (cond b (acts.Over (Fails NullPort)) a)
      go true a h = tt
      go false a h = h refl

  -- ---- values

  unchanged : HasValues u.cells m m
  unchanged = record { unit = refl; starts = refl; backs = refl; count = refl; loops = refl; weighs = λ g. refl }

  set_weighs : (k : ℕ) (v : ℤ) → k < length m.words → is_port_word u.cells k ≡ false → (g : ℤ → ℕ) → masked (is_port_word u.cells) g 0 (set m.words k v) ≡ masked (is_port_word u.cells) g 0 m.words
  set_weighs k v low plain g =
      let e : 0 + k ≡ k = omega arith in
      let none : is_port_word u.cells (0 + k) ≡ false = ap (is_port_word u.cells) e ∙ plain in
      omega (
        arith,
        masked_set (is_port_word u.cells) g 0 m.words k v low,
        ap (λ (b : Bool). cond b (heavy g v) 0) none,
        ap (λ (b : Bool). cond b (heavy g (get_or m.words k (pos 0))) 0) none,
      )

  stored_ends : (to k : ℕ) (v : ℤ) → IsPlainWord u.cells m k → Begins c lists to → Ends (stored to k v m)
  stored_ends to k v p begins =
      rw (lt-ltb k (length m.words) p.inside)
      (record { unit = refl; starts = refl; backs = refl; count = length-set m.words k v; loops = refl; weighs = set_weighs k v p.inside p.plain }, begins)

  led_begins : (body behind : ℕ) (o : Option ℕ) → Begins c lists body → Begins c lists behind → Begins c lists (led body behind o)
  led_begins body behind None a b = b
  led_begins body behind (Some n) a b = a

  counted_ends : (l : Loop) (body behind : ℕ) (t : Trips) (v : ℤ) → l.number < length m.loops → IsPlainWord u.cells m l.word → Begins c lists body → Begins c lists behind → Ends (counted l body behind t v m)
  counted_ends l body behind t v n p a b =
      rw (and_from (nat_lt l.number (length m.loops)) (nat_lt l.word (length m.words)) (lt-ltb _ _ n) (lt-ltb _ _ p.inside))
      (record { unit = refl; starts = refl; backs = refl; count = length-set m.words l.word v; loops = length-set m.loops l.number (Some t); weighs = set_weighs l.word v p.inside p.plain }, led_begins body behind t.behind a b)

  -- ---- one word on top

  pub record WordTop (s : List ℤ) (to : List ℕ) : Type 0 where
    pub word : ℤ
    pub rest : List ℤ
    pub is : s ≡ word ∷ rest
    pub begins : AreAt c.code lists to []

  word_top : (ks : List Kind) (s : List ℤ) (os : List Operand) (to : List ℕ) → Stands ks s os → Good (ends_word ks to) → WordTop s to
  word_top [] s os to is f = absurd f
  word_top (kinds.Returned ∷ ks) s os to is f = absurd f
  word_top (kinds.Operand p ∷ ks) s os to is f = absurd f
  word_top (kinds.LoopOf l ∷ ks) s os to is f = absurd f
  word_top (kinds.Word r ∷ ks) [] os to is f = absurd is
  word_top (kinds.Word r ∷ ks) (x ∷ s) os to is f = record { word = x; rest = s; is = refl; begins = (where_fine c.code lists at (only_results ks) to f).1 }

  with_top : (f : ℤ → List ℤ → Act) (s : List ℤ) (to : List ℕ) → WordTop s to → ((x : ℤ) (rest : List ℤ) → Ends (f x rest)) → Ends (acts.with_one s f)
  with_top f s to t h = rw t.is (h t.word t.rest)

  -- ---- loops

  pub record LoopTop (n : ℕ) (b : Scratch) (s : List ℤ) (to : List ℕ) : Type 0 where
    pub loop : Loop
    pub is : IsLoop u.cells c.loops loop b.counts
    pub plain : are_words u.cells (single loop.word) ≡ true
    pub enough : n ≤ length s
    pub begins : AreAt c.code lists to []

  many : (n : ℕ) (to : List ℕ) (ks : List Kind) (s : List ℤ) (os : List Operand) → Stands ks s os → Good (ending to (without_words n ks)) → n ≤ length s
  many zero to ks s os is f = omega arith
  many (suc n) to [] s os is f = absurd f
  many (suc n) to (kinds.Returned ∷ ks) s os is f = absurd f
  many (suc n) to (kinds.Operand p ∷ ks) s os is f = absurd f
  many (suc n) to (kinds.LoopOf l ∷ ks) s os is f = absurd f
  many (suc n) to (kinds.Word r ∷ ks) [] os is f = absurd is
  many (suc n) to (kinds.Word r ∷ ks) (x ∷ s) os is f = omega (arith, many n to ks s os is.1 f)

  loop_top : (ks : List Kind) (n : ℕ) (to : List ℕ) (s : List ℤ) (b : Scratch) → Fit ks s b → ArePlain u.cells ks → Good (at_loop ks n to) → LoopTop n b s to
  loop_top [] n to s b fits plain f = absurd f
  loop_top (kinds.Returned ∷ ks) n to s b fits plain f = absurd f
  loop_top (kinds.Word r ∷ ks) n to s b fits plain f = absurd f
  loop_top (kinds.Operand p ∷ ks) n to s b fits plain f = absurd f
  loop_top (kinds.LoopOf l ∷ ks) n to s b fits plain f = record {
    loop = l;
    is = fits.counts;
    plain = plain.0;
    enough = many n to ks s (reverse b.operands) fits.stands f;
    begins = (ending_fine c.code lists at to (without_words n ks) f).3;
  }

  plain_word : (k : ℕ) → Words → are_words u.cells (single k) ≡ true → IsPlainWord u.cells m k
  plain_word k count e =
      let end = words_inside (words_of u.cells) u.cells inside (single k) e in
      record { inside = omega (arith, end, count); plain = room_words u.cells (single k) false (plain_room u.cells (single k) e) k (omega arith) (omega arith) }

  again_ends : (l : Loop) (body behind : ℕ) (o : Option Trips) → l.number < length m.loops → IsPlainWord u.cells m l.word → Begins c lists body → Begins c lists behind → Ends (ends_trip l body behind o m)
  again_ends l body behind None n p a b = (unchanged, b)
  again_ends l body behind (Some t) n p a b =
      let x = word_there m.words l.word p.inside in
      found_ends (slice_get m.words l.word) x.0 (λ x. gives (sum x t.by) (λ v. counted l body behind (record { behind = fewer t.behind; by = t.by }) v m)) x.1
      (gives_ends (sum x.0 t.by) (λ v. counted l body behind (record { behind = fewer t.behind; by = t.by }) v m)
      (λ v. counted_ends l body behind (record { behind = fewer t.behind; by = t.by }) v n p a b))

  three : (f : ℤ → ℤ → ℤ → List ℤ → Act) (s : List ℤ) → 3 ≤ length s → ((x y z : ℤ) (rest : List ℤ) → Ends (f x y z rest)) → Ends (acts.with_three s f)
  three f [] e h = absurd (omega (arith, e))
  three f (z ∷ []) e h = absurd (omega (arith, e))
  three f (z ∷ y ∷ []) e h = absurd (omega (arith, e))
  three f (z ∷ y ∷ x ∷ s) e h = h x y z s

  -- ---- calls

  pub record Called (n : ℕ) (h : Heading → Bool) (b : Scratch) : Type 0 where
    pub fitted : Fitted ss u n b.operands
    pub heading : heading_of (slice_get ss.units n) h ≡ true

  called : (n : ℕ) (h : Heading → Bool) (ks : List Kind) (s : List ℤ) (b : Scratch) → Fit ks s b → calls_fit ss u n h (operands_on ks) ≡ true → Called n h b
  called n h ks s b fits e = go (slice_get ss.units n) refl e
    where
      go : (o : Option Shape) → slice_get ss.units n ≡ o → (heading_of o h && (only_results (operands_on ks).rest && fit_formals u.cells (cells_of o) 1 (reverse (operands_on ks).operands))) ≡ true → Called n h b
      go None is e = absurd cc
      go (Some v) is e =
          let p = and_parts (h v.heading) (only_results (operands_on ks).rest && fit_formals u.cells v.cells 1 (reverse (operands_on ks).operands)) e in
          let q = and_parts (only_results (operands_on ks).rest) (fit_formals u.cells v.cells 1 (reverse (operands_on ks).operands)) p.1 in
          let all = taken_fit ks s (reverse b.operands) fits.stands q.0 in
          record {
            fitted = record {
              callee = v;
              there = is;
              passed = reverse (operands_on ks).operands;
              fit = q.1;
              all = subst (λ (os : List Operand). AllFit (reverse (operands_on ks).operands) os) (reverse-reverse b.operands) (reversed_fit (operands_on ks).operands (reverse b.operands) all);
            };
            heading = ap (λ (o : Option Shape). heading_of o h) is ∙ p.0;
          }

  -- ---- each end

  abbrev EndLeads : End → List Kind → List ℤ → Scratch → Type 0
  EndLeads i ks s b = Fit ks s b → ArePlain u.cells ks → Good (ended ss u at i ks) → Ends (ends i s b m)

  test_begins : (a b : ℕ) (t : Bool) → AreAt c.code lists (a ∷ b ∷ []) [] → Begins c lists (cond t a b)
  test_begins a b true h = h.0
  test_begins a b false h = h.1.0

  store_at_leads : (to : ℕ) (ks : List Kind) (s : List ℤ) (b : Scratch) → EndLeads (end.StoreAt to) ks s b
  store_at_leads to [] s b fits plain f = absurd f
  store_at_leads to (kinds.Returned ∷ ks) s b fits plain f = absurd f
  store_at_leads to (kinds.Operand p ∷ ks) s b fits plain f = absurd f
  store_at_leads to (kinds.LoopOf l ∷ ks) s b fits plain f = absurd f
  store_at_leads to (kinds.Word r ∷ []) s b fits plain f = absurd f
  store_at_leads to (kinds.Word r ∷ kinds.Returned ∷ ks) s b fits plain f = absurd f
  store_at_leads to (kinds.Word r ∷ kinds.Operand p ∷ ks) s b fits plain f = absurd f
  store_at_leads to (kinds.Word r ∷ kinds.LoopOf l ∷ ks) s b fits plain f = absurd f
  store_at_leads to (kinds.Word r ∷ kinds.Word None ∷ ks) s b fits plain f = absurd f
  store_at_leads to (kinds.Word r ∷ kinds.Word (Some t) ∷ ks) [] b fits plain f = absurd fits.stands
  store_at_leads to (kinds.Word r ∷ kinds.Word (Some t) ∷ ks) (v ∷ []) b fits plain f = absurd fits.stands.1
  store_at_leads to (kinds.Word r ∷ kinds.Word (Some t) ∷ ks) (v ∷ x ∷ s) b fits plain f = go (are_words u.cells t) refl f
    where
      go : (w : Bool) → are_words u.cells t ≡ w → Good (ending (to ∷ []) (cond w (Some ks) None)) → Ends (at_word m x (λ k. stored to k v m))
      go false is g = absurd g
      go true is g =
          let begins = (where_fine c.code lists at (only_results ks) (to ∷ []) g).1 in
          let end = words_inside (words_of u.cells) u.cells inside t is in
          at_ends t x (λ k. stored to k v m) (omega (arith, end, fits.frame.words)) fits.stands.1.0
          (λ k low high there. stored_ends to k v (record { inside = there; plain = room_words u.cells t false (plain_room u.cells t is) k low high }) begins.0)

  enter_leads : (body behind : ℕ) (ks : List Kind) (s : List ℤ) (b : Scratch) → EndLeads (end.Enter body behind) ks s b
  enter_leads body behind ks s b fits plain f =
      let l = loop_top ks 3 (body ∷ behind ∷ []) s b fits plain f in
      three (λ from to by s. found b.counts (λ l. enters l body behind from to by m)) s l.enough
      (λ from to by rest. found_ends b.counts l.loop (λ l. enters l body behind from to by m) l.is.is
      (gives_ends (trips_behind from to by) (λ n. counted l.loop body behind (record { behind = n; by = by }) from m)
      (λ n. counted_ends l.loop body behind (record { behind = n; by = by }) from (omega (arith, l.is.number, fits.frame.counts)) (plain_word l.loop.word fits.frame.words l.plain) l.begins.0 l.begins.1.0)))

  again_leads : (body behind : ℕ) (ks : List Kind) (s : List ℤ) (b : Scratch) → EndLeads (end.Again body behind) ks s b
  again_leads body behind ks s b fits plain f =
      let l = loop_top ks 0 (body ∷ behind ∷ []) s b fits plain f in
      let number : l.loop.number < length m.loops = omega (arith, l.is.number, fits.frame.counts) in
      let t = loop_there m.loops l.loop.number number in
      found_ends b.counts l.loop (λ l. found (slice_get m.loops l.number) (λ t. ends_trip l body behind t m)) l.is.is
      (found_ends (slice_get m.loops l.loop.number) t.0 (λ t. ends_trip l.loop body behind t m) t.1
      (again_ends l.loop body behind t.0 number (plain_word l.loop.word fits.frame.words l.plain) l.begins.0 l.begins.1.0))

  pub ends_lead : (i : End) (ks : List Kind) (s : List ℤ) (b : Scratch) → EndLeads i ks s b
  ends_lead (end.Goto to) ks s b fits plain f = (unchanged, (where_fine c.code lists at (only_results ks) (to ∷ []) f).1.0)
  ends_lead (end.Test holding failing) ks s b fits plain f =
      let t = word_top ks s (reverse b.operands) (holding ∷ failing ∷ []) fits.stands f in
      with_top (λ x s. acts.Over (Goes (cond (is_truth x) holding failing) m)) s (holding ∷ failing ∷ []) t (λ x rest. (unchanged, test_begins holding failing (is_truth x) t.begins))
  ends_lead (end.Store k to) ks s b fits plain f =
      let g = cond_fine c.code lists at (are_words u.cells (single k)) (ends_word ks (to ∷ [])) f in
      let t = word_top ks s (reverse b.operands) (to ∷ []) fits.stands g.1 in
      with_top (λ v s. stored to k v m) s (to ∷ []) t (λ v rest. stored_ends to k v (plain_word k fits.frame.words g.0) t.begins.0)
  ends_lead (end.StoreAt to) ks s b fits plain f = store_at_leads to ks s b fits plain f
  ends_lead (end.Enter body behind) ks s b fits plain f = enter_leads body behind ks s b fits plain f
  ends_lead (end.Again body behind) ks s b fits plain f = again_leads body behind ks s b fits plain f
  ends_lead (end.Print to) ks s b fits plain f = (where_fine c.code lists at (only_results ks) (to ∷ []) f).1.0
  ends_lead (end.Call n to) ks s b fits plain f =
      let w = where_fine c.code lists at (calls_fit ss u n is_subroutine (operands_on ks)) (to ∷ []) f in
      let k = called n is_subroutine ks s b fits w.0 in
      (k.fitted, heading_apart (slice_get ss.units n) k.heading, w.1.0)
  ends_lead (end.Refer n to) ks s b fits plain f =
      let w = cond_fine c.code lists at (calls_fit ss u n is_function (operands_on ks) && (to == suc at)) (effects.Over (to ∷ []) (suc (results_in ks))) f in
      let k = called n is_function ks s b fits (and_parts (calls_fit ss u n is_function (operands_on ks)) (to == suc at) w.0).0 in
      (k.fitted, k.heading, record { done = results_in ks; enough = fits.frame.done; at = w.1.0.0 })
  ends_lead end.Return ks s b fits plain f = function_apart u.heading (and_parts (is_subroutine u.heading) (only_results ks) (where_fine c.code lists at (is_subroutine u.heading && only_results ks) [] f).0).0
  ends_lead (end.ReturnValue k) ks s b fits plain f =
      let a = and_parts (is_function u.heading) (are_words u.cells (single k) && only_results ks) (where_fine c.code lists at (is_function u.heading && (are_words u.cells (single k) && only_results ks)) [] f).0 in
      let p = plain_word k fits.frame.words (and_parts (are_words u.cells (single k)) (only_results ks) a.1).0 in
      let w = word_there m.words k p.inside in
      found_ends (slice_get m.words k) w.0 (λ v. acts.Over (acts.ReturnsValue v)) w.1 a.0
  ends_lead (end.Start n to) ks s b fits plain f =
      let w = where_fine c.code lists at (calls_fit ss u n is_process (operands_on ks)) (to ∷ []) f in
      ((called n is_process ks s b fits w.0).fitted, w.1.0)

  -- ---- each that meets others

  abbrev MeetLeads : Meet → List Kind → List ℤ → Scratch → Type 0
  MeetLeads i ks s b = Fit ks s b → StatusFits u.cells m b.status → Good (met ss u at i ks) → Ends (meets i s b m)

  room_of : (s : Span) (t : Sort) → sort_at u.cells s ≡ Some t → is_port t ≡ true → IsRoom u.cells s true
  room_of s t e p = record { sort = t; at = e; port_is = p }

  slot_word : (k : ℕ) (v : ℤ) → IsPortWord u.cells m k → slice_get m.words k ≡ Some v → int_eq v (pos 0) ≡ false → IsSlotWord u.cells m v
  slot_word k v w e live = record { number = k; word = w; is = e; live = live }

  -- a port on top of this list, which stands on the stack
  port_leads : (rest : List Kind) (s : List ℤ) (os : List Operand) → Words → Stands rest s os → (g : Sort → Effect) (h : PortTop c.code lists at u.cells rest g) → is_port h.sort ≡ true → (f : ℕ → Act) → ((k : ℕ) → IsPortWord u.cells m k → Ends (f k))
      → Ends (acts.with_one s (λ x t. at_word m x f))
  port_leads [] s os words is g h p f go = absurd (cc (sym h.is))
  port_leads (k ∷ rest) [] os words is g h p f go = absurd (subst (λ (ks : List Kind). Stands ks [] os) h.is is)
  port_leads (k ∷ rest) (x ∷ s) os words is g h p f go =
      let stands : Stands (kinds.Word (Some h.span) ∷ h.rest) (x ∷ s) os = subst (λ (ks : List Kind). Stands ks (x ∷ s) os) h.is is in
      let end = sorted_inside (words_of u.cells) u.cells inside h.span h.sort h.sorted_at in
      at_ends h.span x f (omega (arith, end, words)) stands.0
      (λ k low high there. go k (record { inside = there; port = room_words u.cells h.span true (room_of h.span h.sort h.sorted_at p) k low high }))

  -- a word of a place: it has the kind of its variable
  pub record PlaceWord (s : Sort) (k : ℕ) : Type 0 where
    pub low : k < length m.words
    pub kind : is_port_word u.cells k ≡ is_port s

  two_lead : (ks : List Kind) (s : List ℤ) (os : List Operand) → Words → Stands ks s os → (g : Sort → Sort → Effect) (h : TwoTop c.code lists at u.cells ks g) → (f : ℤ → ℤ → Act)
      → ((x y : ℤ) → ((e : ℕ → Act) → ((k : ℕ) → PlaceWord h.deeper.sort k → Ends (e k)) → Ends (at_word m x e)) → ((e : ℕ → Act) → ((k : ℕ) → PlaceWord h.sort k → Ends (e k)) → Ends (at_word m y e)) → Ends (f x y))
      → Ends (acts.with_two s (λ x y t. f x y))
  two_lead ks [] os words is g h f go = absurd (subst (λ (ks : List Kind). Stands ks [] os) h.is is)
  two_lead ks (y ∷ []) os words is g h f go =
      let outer : Stands (kinds.Word (Some h.span) ∷ h.rest) (y ∷ []) os = subst (λ (ks : List Kind). Stands ks (y ∷ []) os) h.is is in
      absurd (subst (λ (ks : List Kind). Stands ks [] os) h.deeper.is outer.1)
  two_lead ks (y ∷ x ∷ s) os words is g h f go =
      let outer : Stands (kinds.Word (Some h.span) ∷ h.rest) (y ∷ x ∷ s) os = subst (λ (ks : List Kind). Stands ks (y ∷ x ∷ s) os) h.is is in
      let inner : Stands (kinds.Word (Some h.deeper.span) ∷ h.deeper.rest) (x ∷ s) os = subst (λ (ks : List Kind). Stands ks (x ∷ s) os) h.deeper.is outer.1 in
      let e1 = sorted_inside (words_of u.cells) u.cells inside h.span h.sort h.sorted_at in
      let e2 = sorted_inside (words_of u.cells) u.cells inside h.deeper.span h.deeper.sort h.deeper.sorted_at in
      go x y
      (λ e then. at_ends h.deeper.span x e (omega (arith, e2, words)) inner.0 (λ k low high there. then k (record { low = there; kind = ap is_port_sort (word_sort u.cells h.deeper.span h.deeper.sort h.deeper.sorted_at k low high) ∙ port_sort h.deeper.sort })))
      (λ e then. at_ends h.span y e (omega (arith, e1, words)) outer.0 (λ k low high there. then k (record { low = there; kind = ap is_port_sort (word_sort u.cells h.span h.sort h.sorted_at k low high) ∙ port_sort h.sort })))

  place_port : (s : Sort) (k : ℕ) → is_port s ≡ true → PlaceWord s k → IsPortWord u.cells m k
  place_port s k p w = record { inside = w.low; port = w.kind ∙ p }

  place_plain : (s : Sort) (k : ℕ) → is_port s ≡ false → PlaceWord s k → IsPlainWord u.cells m k
  place_plain s k p w = record { inside = w.low; plain = w.kind ∙ p }

  -- the operands on top, and what is below them
  below : (ks : List Kind) (s : List ℤ) (b : Scratch) → Fit ks s b → (g : Sort → Effect) (h : PortTop c.code lists at u.cells (operands_on ks).rest g)
      → (rs : List Operand) × Stands (operands_on ks).rest s rs × AllFit (reverse (operands_on ks).operands) b.operands
  below ks s b fits g h =
      let t = split_at ks s (reverse b.operands) fits.stands in
      let none : t.back ≡ [] = alone (operands_on ks).rest s t.back t.below h.is h.only in
      let whole : reverse b.operands ≡ t.front = t.is ∙ ap (λ (os : List Operand). t.front ++ os) none ∙ append-nil t.front in
      let front : AllFit (operands_on ks).operands (reverse b.operands) = subst (AllFit (operands_on ks).operands) (sym whole) t.all in
      (t.back, t.below, subst (λ (os : List Operand). AllFit (reverse (operands_on ks).operands) os) (reverse-reverse b.operands) (reversed_fit (operands_on ks).operands (reverse b.operands) front))
    where
      alone : (rest : List Kind) (s : List ℤ) (os : List Operand) → Stands rest s os → rest ≡ kinds.Word (Some h.span) ∷ h.rest → only_results h.rest ≡ true → os ≡ []
      alone rest [] os is e only = absurd (subst (λ (ks : List Kind). Stands ks [] os) e is)
      alone rest (x ∷ s) os is e only =
          let stands : Stands (kinds.Word (Some h.span) ∷ h.rest) (x ∷ s) os = subst (λ (ks : List Kind). Stands ks (x ∷ s) os) e is in
          results_end h.rest s os only stands.1

  send_leads : (next : ℕ) (ks : List Kind) (s : List ℤ) (b : Scratch) → MeetLeads (meet.Send next) ks s b
  send_leads next ks s b fits status f =
      let t = operands_on ks in
      let fields : ℕ → Effect = λ type. over_where (fit_fields (fits_sent u.cells) (fields_of ss type) (reverse t.operands)) (next ∷ []) in
      let h = port_fine c.code lists at u.cells t.rest (λ s. if_out s fields) f in
      let o = out_fine c.code lists at h.sort fields h.fine in
      let w = where_fine c.code lists at (fit_fields (fits_sent u.cells) (fields_of ss o.1.0) (reverse t.operands)) (next ∷ []) o.1.1 in
      let r = below ks s b fits (λ s. if_out s fields) h in
      let sent = all_sent u.cells (fields_of ss o.1.0) (reverse t.operands) b.operands r.2 w.0 in
      port_leads t.rest s r.0 fits.frame.words r.1 (λ s. if_out s fields) h o.0 (λ k. by_port m k (λ slot. asks (ask.Send slot b.operands next)))
      (λ k p. by_port_ends k (λ slot. asks (ask.Send slot b.operands next)) p.inside (λ v is live. (slot_word k v p is live, sent, w.1.0)))

  receive_leads : (next : ℕ) (ks : List Kind) (s : List ℤ) (b : Scratch) → MeetLeads (meet.Receive next) ks s b
  receive_leads next ks s b fits status f =
      let t = operands_on ks in
      let fields : ℕ → Effect = λ type. over_where (fit_fields (fits_received u.cells) (fields_of ss type) (reverse t.operands)) (next ∷ []) in
      let h = port_fine c.code lists at u.cells t.rest (λ s. if_in s fields) f in
      let o = in_fine c.code lists at h.sort fields h.fine in
      let w = where_fine c.code lists at (fit_fields (fits_received u.cells) (fields_of ss o.1.0) (reverse t.operands)) (next ∷ []) o.1.1 in
      let r = below ks s b fits (λ s. if_in s fields) h in
      let received = all_received u.cells (fields_of ss o.1.0) (reverse t.operands) b.operands r.2 w.0 in
      port_leads t.rest s r.0 fits.frame.words r.1 (λ s. if_in s fields) h o.0 (λ k. by_port m k (λ slot. asks (ask.Receive slot b.operands b.status None next)))
      (λ k p. by_port_ends k (λ slot. asks (ask.Receive slot b.operands b.status None next)) p.inside (λ v is live. (slot_word k v p is live, received, status, tt, w.1.0)))

  receive_or_leads : (at_end next : ℕ) (ks : List Kind) (s : List ℤ) (b : Scratch) → MeetLeads (meet.ReceiveOr at_end next) ks s b
  receive_or_leads at_end next ks s b fits status f =
      let t = operands_on ks in
      let fields : ℕ → Effect = λ type. over_where (fit_fields (fits_received u.cells) (fields_of ss type) (reverse t.operands)) (at_end ∷ next ∷ []) in
      let h = port_fine c.code lists at u.cells t.rest (λ s. if_in s fields) f in
      let o = in_fine c.code lists at h.sort fields h.fine in
      let w = where_fine c.code lists at (fit_fields (fits_received u.cells) (fields_of ss o.1.0) (reverse t.operands)) (at_end ∷ next ∷ []) o.1.1 in
      let r = below ks s b fits (λ s. if_in s fields) h in
      let received = all_received u.cells (fields_of ss o.1.0) (reverse t.operands) b.operands r.2 w.0 in
      port_leads t.rest s r.0 fits.frame.words r.1 (λ s. if_in s fields) h o.0 (λ k. by_port m k (λ slot. asks (ask.Receive slot b.operands b.status (Some at_end) next)))
      (λ k p. by_port_ends k (λ slot. asks (ask.Receive slot b.operands b.status (Some at_end) next)) p.inside (λ v is live. (slot_word k v p is live, received, status, w.1.0, w.1.1.0)))

  merger_leads : (next : ℕ) (ks : List Kind) (s : List ℤ) (b : Scratch) → MeetLeads (meet.Merger next) ks s b
  merger_leads next ks s b fits status f =
      let t = operands_on ks in
      let outs : ℕ → Effect = λ type. over_where (all_outports u.cells type (reverse t.operands)) (next ∷ []) in
      let h = port_fine c.code lists at u.cells t.rest (λ s. if_in s outs) f in
      let o = in_fine c.code lists at h.sort outs h.fine in
      let w = where_fine c.code lists at (all_outports u.cells o.1.0 (reverse t.operands)) (next ∷ []) o.1.1 in
      let r = below ks s b fits (λ s. if_in s outs) h in
      port_leads t.rest s r.0 fits.frame.words r.1 (λ s. if_in s outs) h o.0 (λ i. asks (ask.Merger i b.operands next))
      (λ k p. (p, all_out u.cells o.1.0 (reverse t.operands) b.operands r.2 w.0, w.1.0))

  channel_leads : (next : ℕ) (ks : List Kind) (s : List ℤ) (b : Scratch) → MeetLeads (meet.Channel next) ks s b
  channel_leads next ks s b fits status f =
      let g : Sort → Sort → Effect = λ i o. if_in i (λ type. over_where (same_sort o (Out type)) (next ∷ [])) in
      let h = two_fine c.code lists at u.cells ks g f in
      let i = in_fine c.code lists at h.deeper.sort (λ type. over_where (same_sort h.sort (Out type)) (next ∷ [])) h.deeper.fine in
      let w = where_fine c.code lists at (same_sort h.sort (Out i.1.0)) (next ∷ []) i.1.1 in
      two_lead ks s (reverse b.operands) fits.frame.words fits.stands g h (λ x y. at_word m x (λ i. at_word m y (λ o. asks (ask.Channel i o next))))
      (λ x y first second. first (λ i. at_word m y (λ o. asks (ask.Channel i o next)))
      (λ k p. second (λ o. asks (ask.Channel k o next)) (λ n q. (place_port h.deeper.sort k i.0 p, place_port h.sort n (same_port h.sort i.1.0 w.0) q, w.1.0))))

  channel_from_leads : (next : ℕ) (ks : List Kind) (s : List ℤ) (b : Scratch) → MeetLeads (meet.ChannelFrom next) ks s b
  channel_from_leads next ks s b fits status f =
      let g : Sort → Sort → Effect = λ o i. if_in i (λ type. over_where (same_sort o (Out type)) (next ∷ [])) in
      let h = two_fine c.code lists at u.cells ks g f in
      let i = in_fine c.code lists at h.sort (λ type. over_where (same_sort h.deeper.sort (Out type)) (next ∷ [])) h.deeper.fine in
      let w = where_fine c.code lists at (same_sort h.deeper.sort (Out i.1.0)) (next ∷ []) i.1.1 in
      two_lead ks s (reverse b.operands) fits.frame.words fits.stands g h (λ x y. at_word m x (λ o. at_word m y (λ i. asks (ask.Channel i o next))))
      (λ x y first second. first (λ o. at_word m y (λ i. asks (ask.Channel i o next)))
      (λ k p. second (λ i. asks (ask.Channel i k next)) (λ n q. (place_port h.sort n i.0 q, place_port h.deeper.sort k (same_port h.deeper.sort i.1.0 w.0) p, w.1.0))))

  move_leads : (next : ℕ) (ks : List Kind) (s : List ℤ) (b : Scratch) → MeetLeads (meet.MovePort next) ks s b
  move_leads next ks s b fits status f =
      let g : Sort → Sort → Effect = λ a b. over_where (same_sort a b && is_port_sort (Some a)) (next ∷ []) in
      let h = two_fine c.code lists at u.cells ks g f in
      let w = where_fine c.code lists at (same_sort h.deeper.sort h.sort && is_port_sort (Some h.deeper.sort)) (next ∷ []) h.deeper.fine in
      let a = and_parts (same_sort h.deeper.sort h.sort) (is_port_sort (Some h.deeper.sort)) w.0 in
      let p = both_ports h.deeper.sort h.sort a.0 a.1 in
      two_lead ks s (reverse b.operands) fits.frame.words fits.stands g h (λ x y. at_word m x (λ from. at_word m y (λ into. acts.Over (acts.Moves from into next))))
      (λ x y first second. first (λ from. at_word m y (λ into. acts.Over (acts.Moves from into next)))
      (λ k q. second (λ into. acts.Over (acts.Moves k into next)) (λ n r. (place_port h.deeper.sort k p.0 q, place_port h.sort n p.1 r, w.1.0))))

  probe_leads : (next : ℕ) (ks : List Kind) (s : List ℤ) (b : Scratch) → MeetLeads (meet.Probe next) ks s b
  probe_leads next ks s b fits status f =
      let g : Sort → Sort → Effect = λ q e. if_in q (λ type. over_where (is_word e) (next ∷ [])) in
      let h = two_fine c.code lists at u.cells ks g f in
      let i = in_fine c.code lists at h.deeper.sort (λ type. over_where (is_word h.sort) (next ∷ [])) h.deeper.fine in
      let w = where_fine c.code lists at (is_word h.sort) (next ∷ []) i.1.1 in
      two_lead ks s (reverse b.operands) fits.frame.words fits.stands g h (λ x y. at_word m y (λ k. acts.at_port m x (λ slot. asks (ask.Probe slot k next))))
      (λ x y first second. second (λ k. acts.at_port m x (λ slot. asks (ask.Probe slot k next)))
      (λ k q. first (λ n. by_port m n (λ slot. asks (ask.Probe slot k next)))
      (λ n p. by_port_ends n (λ slot. asks (ask.Probe slot k next)) p.low
      (λ v is live. (slot_word n v (place_port h.deeper.sort n i.0 p) is live, place_plain h.sort k (word_plain h.sort w.0) q, w.1.0)))))

  end_channel_leads : (next : ℕ) (ks : List Kind) (s : List ℤ) (b : Scratch) → MeetLeads (meet.EndChannel next) ks s b
  end_channel_leads next ks s b fits status f =
      let g : Sort → Effect = λ s. if_out s (λ type. effects.Over (next ∷ []) 0) in
      let h = port_fine c.code lists at u.cells ks g f in
      let o = out_fine c.code lists at h.sort (λ type. effects.Over (next ∷ []) 0) h.fine in
      port_leads ks s (reverse b.operands) fits.frame.words fits.stands g h o.0 (λ k. closes m next k)
      (λ k p. by_port_ends k (λ slot. acts.Over (acts.Closes k next)) p.inside (λ v is live. (p, o.1.1.0.0)))

  pub meets_lead : (i : Meet) (ks : List Kind) (s : List ℤ) (b : Scratch) → MeetLeads i ks s b
  meets_lead meet.Stop ks s b fits status f = tt
  meets_lead (meet.Send next) ks s b fits status f = send_leads next ks s b fits status f
  meets_lead (meet.Receive next) ks s b fits status f = receive_leads next ks s b fits status f
  meets_lead (meet.ReceiveOr at_end next) ks s b fits status f = receive_or_leads at_end next ks s b fits status f
  meets_lead (meet.Channel next) ks s b fits status f = channel_leads next ks s b fits status f
  meets_lead (meet.ChannelFrom next) ks s b fits status f = channel_from_leads next ks s b fits status f
  meets_lead (meet.Merger next) ks s b fits status f = merger_leads next ks s b fits status f
  meets_lead (meet.EndChannel next) ks s b fits status f = end_channel_leads next ks s b fits status f
  meets_lead (meet.MovePort next) ks s b fits status f = move_leads next ks s b fits status f
  meets_lead (meet.Probe next) ks s b fits status f = probe_leads next ks s b fits status f
  meets_lead (meet.Begin next) ks s b fits status f = (where_fine c.code lists at (only_results ks && (next == suc at)) (next ∷ []) f).1.0
  meets_lead (meet.Join next) ks s b fits status f = (where_fine c.code lists at (only_results ks) (next ∷ []) f).1.0
