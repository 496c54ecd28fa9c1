-- The law of opening a frame: what the words of caller and callee stand for when operands were passed to formals.
use Rattle.std.proofs.Common.{◌≡◌, ℕ, zero, suc, ◌+◌, ◌-◌, ◌<◌, ◌≤◌, ◌==◌, ℤ, pos, Bool, true, false, not, ◌&&◌, cond, Option, Some, None, List, [], ◌∷◌, ◌++◌, length, map, take, drop, replicate, slice_get, refl, sym, ap, ◌∙◌, subst, arith, length-drop, append_assoc}
use Rattle.std.specs.Prelude.{nat_le}
use Rattle.std.proofs.lemmas.Bool.{eq-eqb, le-leb}
use Rattle.std.proofs.lemmas.List.{length-take, length-replicate, take-replicate, drop-replicate, append-nil, map-append}
use Rattle.fm_base.specs.declared.port.PortValue.{PortValue}
use Rattle.fm_base.specs.Channels.{Item, Ports}
use Rattle.fm_net.specs.Typed.{AllIn}
use Rattle.fm_tree.specs.declared.port_type.Kind.{Kind}
use Rattle.fm_tree.specs.declared.port_type.Kind.TheVariants as kind
use Rattle.fm_symbols.specs.declared.names.Variable.{Variable}
use Rattle.fm_mean.specs.Names.{ProgramUnit, formal_place, unset, all_unset}
use Rattle.fm_mean.specs.Layout.{AreLaidOut}
use Rattle.fm_mean.specs.Fits.{Types, ValuesFit}
use Rattle.fm_mean.specs.Opening.{AreNull, HaveRoom}
use Rattle.fm_mean.specs.declared.place.Actual.{Actual}
use Rattle.fm_mean.specs.declared.place.Actual.TheVariants.{Given, Taken}
use Rattle.fm_mean.specs.declared.place.Span.{Span}
use Rattle.fm_mean.specs.Places.{items_at, words_in, ports_in, words_of, first_word, written_from, exchange_all, taken_ports, Returned}
use Rattle.fm_mean.specs.Calls.{entered_one, entered_all, is_input, input_in, back_place, back_for, backs_from}
use Rattle.fm_mean.proofs.Opening.{opening_drops_nothing}
use Rattle.fm_mean.proofs.Sizes.{all_append}
use Rattle.fm_code.specs.declared.body.Back.{Back}
use Rattle.fm_code.specs.Acts as acts
use Rattle.fm_code.specs.Passing.{Passed, spliced, nulls, fits, all_fit, pass, pass_all}
use Rattle.fm_gen_relation.specs.Sound.{is_word, formals_among, words_among, IsSoundUnit}
use Rattle.fm_gen_relation.specs.Standing.{Slots, port_by, item_by, item_in, values_in}
use Rattle.fm_gen_relation.specs.Operands.{MeanBack, first_of, holds_words, word_number, code_span, IsPlace, operand_of, IsActual, is_given, actual_words, TakesFrom, code_back, IsBack}
use Rattle.fm_gen_relation.specs.Formals.{formal_of, formals_of, formals_from, formal_if}
use Rattle.fm_gen_relation.specs.Laws.{OpensAlike}
use Rattle.fm_gen_relation.proofs.FrameWords.{item_read}
use Rattle.fm_gen_relation.proofs.Writes.{same_variable}
use Rattle.fm_gen_relation.proofs.Spans.{spliced_length, span_in, writes_span, exchanges_span, gives_span, null_ports, exchanges_words}

-- ---- formals and arguments, one by one

-- this variable is the formal with this number, and takes the argument
record IsMatch (u : ProgramUnit) (n : ℕ) (v : Variable) (a : Actual) : Type 0 where
  there : slice_get u.names.variables (formal_place u n) ≡ Some v
  kind : is_word v.kind ≡ is_given a
  words : v.words ≡ actual_words a

abbrev AreMatched : ProgramUnit → ℕ → List Variable → List Actual → Type 0
AreMatched u n [] [] = Unit {0}
AreMatched u n [] (a ∷ more) = ⊥
AreMatched u n (v ∷ us) [] = ⊥
AreMatched u n (v ∷ us) (a ∷ more) = IsMatch u n v a × AreMatched u (suc n) us more

-- the variables of the formals that take these arguments
abbrev takers : (u : ProgramUnit) (n : ℕ) (args : List Actual) → TakesFrom u n args → List Variable
takers u n [] takes = []
takers u n (a ∷ more) takes = takes.0.variable ∷ takers u (suc n) more takes.1

matched : (u : ProgramUnit) (n : ℕ) (args : List Actual) (takes : TakesFrom u n args) → AreMatched u n (takers u n args takes) args
matched u n [] takes = tt
matched u n (a ∷ more) takes = (record { there = takes.0.there; kind = takes.0.kind; words = takes.0.words }, matched u (suc n) more takes.1)

-- they are what code tells of the formals
formals_are : (u : ProgramUnit) (n k : ℕ) (args : List Actual) (takes : TakesFrom u n args) → k ≡ length args → formals_from u.names.variables n k ≡ map formal_of (takers u n args takes)
formals_are u n zero [] takes e = refl
formals_are u n zero (a ∷ more) takes e = absurd (omega (arith, e))
formals_are u n (suc k) [] takes e = absurd (omega (arith, e))
formals_are u n (suc k) (a ∷ more) takes e =
    (λ i. formal_if (takes.0.there i) ++ formals_from u.names.variables (suc n) k)
    ∙ ap (λ l. formal_of takes.0.variable ∷ l) (formals_are u (suc n) k more takes.1 (omega (arith, e)))

-- ---- variables among the words of a frame

first_is : (vs : List Variable) (i : ℕ) (v : Variable) → slice_get vs i ≡ Some v → first_of vs i ≡ v.first
first_is [] i v e = absurd (cc)
first_is (u ∷ vs) zero v e = ap (λ (x : Variable). x.first) (same_variable u v e)
first_is (u ∷ vs) (suc i) v e = first_is vs i v e

holds_is : (vs : List Variable) (i : ℕ) (v : Variable) → slice_get vs i ≡ Some v → holds_words vs i ≡ is_word v.kind
holds_is [] i v e = absurd (cc)
holds_is (u ∷ vs) zero v e = ap (λ (x : Variable). is_word x.kind) (same_variable u v e)
holds_is (u ∷ vs) (suc i) v e = holds_is vs i v e

laid_within : (n : ℕ) (vs : List Variable) (i : ℕ) (v : Variable) → AreLaidOut n vs → slice_get vs i ≡ Some v → v.first + v.words ≤ n + words_among vs
laid_within n [] i v laid e = absurd (cc)
laid_within n (u ∷ vs) zero v laid e =
    let same : u ≡ v = same_variable u v e in
    omega (arith, laid.0, ap (λ (x : Variable). x.first) same, ap (λ (x : Variable). x.words) same)
laid_within n (u ∷ vs) (suc i) v laid e = omega (arith, laid_within (n + u.words) vs i v laid.1 e)

pub variable_within : (u : ProgramUnit) (i : ℕ) (v : Variable) → IsSoundUnit u → slice_get u.names.variables i ≡ Some v → v.first + v.words ≤ u.names.words
variable_within u i v sound e = omega (arith, sound.counted, laid_within 0 u.names.variables i v sound.laid e)

words_by : (slots : Slots) (q : Kind) (ws : List ℤ) → is_word q ≡ true → words_in (item_by slots q ws) ≡ ws
words_by slots kind.Integer ws e = refl
words_by slots kind.Logical ws e = refl
words_by slots (kind.In t) ws e = absurd (cc)
words_by slots (kind.Out t) ws e = absurd (cc)

-- the words of a place
pub place_read : (slots : Slots) (vs : List Variable) (ws : List ℤ) (s : Span) → IsPlace vs true s → words_of (values_in slots vs ws) s ≡ acts.span_of ws (code_span vs s)
place_read slots vs ws s at =
    let v = at.variable in
    ap (λ x. take s.count (drop s.first (words_in x))) (item_read slots ws vs s.variable v at.there)
    ∙ ap (λ l. take s.count (drop s.first l)) (words_by slots v.kind (take v.words (drop v.first ws)) at.kind)
    ∙ span_in v.first v.words s.first s.count ws at.within
    ∙ ap (λ f. take s.count (drop (f + s.first) ws)) (sym (first_is vs s.variable v at.there))

pub place_within : (u : ProgramUnit) (word : Bool) (s : Span) → IsSoundUnit u → IsPlace u.names.variables word s → word_number u.names.variables s + s.count ≤ u.names.words
place_within u word s sound at = omega (arith, at.within, variable_within u s.variable at.variable sound at.there, first_is u.names.variables s.variable at.variable at.there)

pub span_length : (ws : List ℤ) (f n : ℕ) → f + n ≤ length ws → length (take n (drop f ws)) ≡ n
span_length ws f n le = omega (arith, le, length-take n (drop f ws), length-drop f ws)

-- ---- a new frame is unset

unset_by : (slots : Slots) (q : Kind) (n : ℕ) → unset q n ≡ item_by slots q (nulls n)
unset_by slots kind.Integer n = refl
unset_by slots kind.Logical n = refl
unset_by slots (kind.In t) n = ap Ports (sym (null_ports slots n))
unset_by slots (kind.Out t) n = ap Ports (sym (null_ports slots n))

null_part : (n f k : ℕ) → f + k ≤ n → take k (drop f (nulls n)) ≡ nulls k
null_part n f k le = ap (take k) (drop-replicate f n (pos 0)) ∙ take-replicate k (n - f) (pos 0) (omega (arith, le))

unset_from : (slots : Slots) (n m : ℕ) (vs : List Variable) → AreLaidOut m vs → m + words_among vs ≤ n → all_unset vs ≡ values_in slots vs (nulls n)
unset_from slots n m [] laid le = refl
unset_from slots n m (v ∷ vs) laid le =
    ap (λ x. x ∷ all_unset vs) (unset_by slots v.kind v.words ∙ ap (item_by slots v.kind) (sym (null_part n v.first v.words (omega (arith, le, laid.0)))))
    ∙ ap (λ l. item_in slots (nulls n) v ∷ l) (unset_from slots n (m + v.words) vs laid.1 (omega (arith, le)))

pub unset_stands : (slots : Slots) (u : ProgramUnit) → IsSoundUnit u → all_unset u.names.variables ≡ values_in slots u.names.variables (nulls u.names.words)
unset_stands slots u sound = unset_from slots u.names.words 0 u.names.variables sound.laid (omega (arith, sound.counted))

-- so it has room for ports, and none is let go
unset_there : (vs : List Variable) (i : ℕ) (v : Variable) → slice_get vs i ≡ Some v → items_at (all_unset vs) i ≡ unset v.kind v.words
unset_there [] i v e = absurd (cc)
unset_there (u ∷ vs) zero v e = ap (λ (x : Variable). unset x.kind x.words) (same_variable u v e)
unset_there (u ∷ vs) (suc i) v e = unset_there vs i v e

below : (vs : List Variable) (i : ℕ) (v : Variable) → slice_get vs i ≡ Some v → i < length vs
below [] i v e = absurd (cc)
below (u ∷ vs) zero v e = omega arith
below (u ∷ vs) (suc i) v e = omega (arith, below vs i v e)

null_at : (n k : ℕ) → k < n → slice_get (replicate {A = Option PortValue} n None) k ≡ Some None
null_at zero k h = absurd (omega (arith, h))
null_at (suc n) zero h = refl
null_at (suc n) (suc k) h = null_at n k (omega (arith, h))

unset_null : (q : Kind) (n k : ℕ) → is_word q ≡ false → k < n → slice_get (ports_in (unset q n)) k ≡ Some None
unset_null kind.Integer n k e less = absurd (cc)
unset_null kind.Logical n k e less = absurd (cc)
unset_null (kind.In t) n k e less = null_at n k less
unset_null (kind.Out t) n k e less = null_at n k less

unset_run : (vs : List Variable) (i : ℕ) (v : Variable) → slice_get vs i ≡ Some v → is_word v.kind ≡ false → (k n : ℕ) → k + n ≤ v.words → AreNull (all_unset vs) i k n
unset_run vs i v there e k zero le = tt
unset_run vs i v there e k (suc n) le =
    (ap (λ (y : Item). slice_get (ports_in y) k) (unset_there vs i v there) ∙ unset_null v.kind v.words k e (omega (arith, le)), unset_run vs i v there e (suc k) n (omega (arith, le)))

finds_room : (u : ProgramUnit) (n : ℕ) (us : List Variable) (args : List Actual) → AreMatched u n us args → HaveRoom u n (all_unset u.names.variables) args
finds_room u n us [] match = tt
finds_room u n [] (a ∷ more) match = absurd match
finds_room u n (v ∷ us) (Given ws back ∷ more) match = finds_room u (suc n) us more match.1
finds_room u n (v ∷ us) (Taken s ∷ more) match = (
  below u.names.variables (formal_place u n) v match.0.there,
  unset_run u.names.variables (formal_place u n) v match.0.there match.0.kind 0 s.count (omega (arith, match.0.words)),
  finds_room u (suc n) us more match.1,
)

-- ---- what is given back

same_back : (a b to words : ℕ) (p q : Bool) → a ≡ b → p ≡ q → ◌≡◌ {A = Back} (record { from = a; to = to; words = words; port = p }) (record { from = b; to = to; words = words; port = q })
same_back a b to words p q e h =
    ap (λ (x : ℕ). let c : Back = record { from = x; to = to; words = words; port = p } in c) e
    ∙ ap (λ (x : Bool). let c : Back = record { from = b; to = to; words = words; port = x } in c) h

chosen_back : (vs us : List Variable) (input : Bool) (b : MeanBack) (c : Back) → code_back vs us b ≡ c → cond input [] (c ∷ []) ≡ map (code_back vs us) (cond input [] (b ∷ []))
chosen_back vs us true b c e = refl
chosen_back vs us false b c e = ap (λ x. x ∷ []) (sym e)

given_back : (vs : List Variable) (u : ProgramUnit) (n : ℕ) (v : Variable) (s : Span) (word : Bool) → slice_get u.names.variables (formal_place u n) ≡ Some v → is_word v.kind ≡ word
    → cond v.input [] (record { from = v.first; to = word_number vs s; words = s.count; port = not word } ∷ []) ≡ map (code_back vs u.names.variables) (back_for u n (Some s))
given_back vs u n v s word there e =
    let us = u.names.variables in
    let b : MeanBack = record { formal = formal_place u n; place = s } in
    let c : Back = record { from = v.first; to = word_number vs s; words = s.count; port = not word } in
    chosen_back vs us v.input b c (same_back (first_of us (formal_place u n)) v.first (word_number vs s) s.count (not (holds_words us (formal_place u n))) (not word)
    (first_is us (formal_place u n) v there) (ap not (holds_is us (formal_place u n) v there ∙ e)))
    ∙ ap (λ i. map (code_back vs us) (cond i [] (b ∷ []))) (sym (ap input_in there))

one_back : (vs : List Variable) (u : ProgramUnit) (n : ℕ) (v : Variable) (a : Actual) (p : Passed) → IsMatch u n v a
    → (pass (formal_of v) (operand_of vs a) p).backs ≡ p.backs ++ map (code_back vs u.names.variables) (back_for u n (back_place a))
one_back vs u n v (Given ws None) p m = sym (append-nil p.backs)
one_back vs u n v (Given ws (Some s)) p m = ap (λ l. p.backs ++ l) (given_back vs u n v s true m.there m.kind)
one_back vs u n v (Taken s) p m = ap (λ l. p.backs ++ l) (given_back vs u n v s false m.there m.kind)

all_backs : (vs : List Variable) (u : ProgramUnit) (n : ℕ) (us : List Variable) (args : List Actual) (p : Passed) → AreMatched u n us args
    → (pass_all (map formal_of us) (map (operand_of vs) args) p).backs ≡ p.backs ++ map (code_back vs u.names.variables) (backs_from u n args)
all_backs vs u n [] [] p match = sym (append-nil p.backs)
all_backs vs u n [] (a ∷ more) p match = absurd match
all_backs vs u n (v ∷ us) [] p match = absurd match
all_backs vs u n (v ∷ us) (a ∷ more) p match =
    let back = code_back vs u.names.variables in
    let one = back_for u n (back_place a) in
    let rest = backs_from u (suc n) more in
    all_backs vs u (suc n) us more (pass (formal_of v) (operand_of vs a) p) match.1
    ∙ ap (λ l. l ++ map back rest) (one_back vs u n v a p match.0)
    ∙ append_assoc p.backs (map back one) (map back rest)
    ∙ ap (λ l. p.backs ++ l) (sym (map-append back one rest))

is_back : (vs : List Variable) (u : ProgramUnit) (n : ℕ) (v : Variable) (s : Span) (word : Bool) → slice_get u.names.variables (formal_place u n) ≡ Some v → is_word v.kind ≡ word → v.words ≡ s.count → IsPlace vs word s
    → AllIn (IsBack vs u.names.variables) (back_for u n (Some s))
is_back vs u n v s word there e words at = go (is_input u n)
  where
    go : (i : Bool) → AllIn (IsBack vs u.names.variables) (cond i [] (record { formal = formal_place u n; place = s } ∷ []))
    go true = tt
    go false = (record { formal = v; at = there; place = subst (λ b. IsPlace vs b s) (sym e) at; words = sym words }, tt)

-- ---- small parts

both : (a b : Bool) → a ≡ true → b ≡ true → (a && b) ≡ true
both a b e h = ap (λ x. x && b) e ∙ h

all_three : (a b c : Bool) → a ≡ true → b ≡ true → c ≡ true → (a && b && c) ≡ true
all_three a b c e h g = both (a && b) c (both a b e h) g

one_word : (xs : List ℤ) → length xs ≡ 1 → xs ≡ first_word xs ∷ []
one_word [] e = absurd (omega (arith, e))
one_word (x ∷ []) e = refl
one_word (x ∷ y ∷ xs) e = absurd (omega (arith, e))

-- arguments are as they were, where the words of all variables are
actuals_kept : (vs : List Variable) (xs ys : List Item) → ((j : ℕ) → words_in (items_at ys j) ≡ words_in (items_at xs j)) → (args : List Actual) → AllIn (IsActual vs xs) args → AllIn (IsActual vs ys) args
actuals_kept vs xs ys same [] are = tt
actuals_kept vs xs ys same (Given ws None ∷ more) are = (are.0, actuals_kept vs xs ys same more are.1)
actuals_kept vs xs ys same (Given ws (Some s) ∷ more) are = ((are.0.0, are.0.1 ∙ ap (λ l. take s.count (drop s.first l)) (sym (same s.variable))), actuals_kept vs xs ys same more are.1)
actuals_kept vs xs ys same (Taken s ∷ more) are = (are.0, actuals_kept vs xs ys same more are.1)

-- ---- both frames, argument by argument

module _ (slots : Slots) (mine callee : ProgramUnit) (sound_mine : IsSoundUnit mine) (sound_callee : IsSoundUnit callee) where
  words_are : (ws xs : List ℤ) (s : Span) → IsActual mine.names.variables (values_in slots mine.names.variables ws) (Given xs (Some s)) → xs ≡ acts.span_of ws (code_span mine.names.variables s)
  words_are ws xs s is = is.1 ∙ place_read slots mine.names.variables ws s is.0

  words_count : (ws xs : List ℤ) (s : Span) → length ws ≡ mine.names.words → IsActual mine.names.variables (values_in slots mine.names.variables ws) (Given xs (Some s)) → length xs ≡ s.count
  words_count ws xs s count is =
      let at = word_number mine.names.variables s in
      let within = place_within mine true s sound_mine is.0 in
      ap length (words_are ws xs s is) ∙ span_length ws at s.count (omega (arith, within, count))

  -- what goes back fits
  whole_one : (ws : List ℤ) (n : ℕ) (v : Variable) (a : Actual) → length ws ≡ mine.names.words → IsMatch callee n v a → IsActual mine.names.variables (values_in slots mine.names.variables ws) a
      → AllIn (IsBack mine.names.variables callee.names.variables) (back_for callee n (back_place a))
  whole_one ws n v (Given xs None) count m is = tt
  whole_one ws n v (Given xs (Some s)) count m is = is_back mine.names.variables callee n v s true m.there m.kind (m.words ∙ words_count ws xs s count is) is.0
  whole_one ws n v (Taken s) count m is = is_back mine.names.variables callee n v s false m.there m.kind m.words is

  all_whole : (ws : List ℤ) (n : ℕ) (us : List Variable) (args : List Actual) → length ws ≡ mine.names.words → AreMatched callee n us args
      → AllIn (IsActual mine.names.variables (values_in slots mine.names.variables ws)) args → AllIn (IsBack mine.names.variables callee.names.variables) (backs_from callee n args)
  all_whole ws n us [] count match are = tt
  all_whole ws n [] (a ∷ more) count match are = absurd match
  all_whole ws n (v ∷ us) (a ∷ more) count match are =
      all_append (IsBack mine.names.variables callee.names.variables) (back_for callee n (back_place a)) (backs_from callee (suc n) more)
      (whole_one ws n v a count match.0 are.0) (all_whole ws (suc n) us more count match.1 are.1)

  -- the operands fit
  fits_one : (ws : List ℤ) (n : ℕ) (v : Variable) (a : Actual) → length ws ≡ mine.names.words → IsMatch callee n v a → IsActual mine.names.variables (values_in slots mine.names.variables ws) a
      → fits (length ws) callee.names.words (formal_of v) (operand_of mine.names.variables a) ≡ true
  fits_one ws n v (Given xs None) count m is =
      all_three (not (not (is_word v.kind))) (v.words == 1) (nat_le (v.first + v.words) callee.names.words)
      (ap (λ b. not (not b)) m.kind) (eq-eqb v.words 1 (m.words ∙ is)) (le-leb (v.first + v.words) callee.names.words (variable_within callee (formal_place callee n) v sound_callee m.there))
  fits_one ws n v (Given xs (Some s)) count m is =
      let at = word_number mine.names.variables s in
      let within = place_within mine true s sound_mine is.0 in
      all_three (not (not (is_word v.kind)) && s.count == v.words) (nat_le (at + s.count) (length ws)) (nat_le (v.first + v.words) callee.names.words)
      (both (not (not (is_word v.kind))) (s.count == v.words) (ap (λ b. not (not b)) m.kind) (eq-eqb s.count v.words (sym (m.words ∙ words_count ws xs s count is))))
      (le-leb (at + s.count) (length ws) (omega (arith, within, count)))
      (le-leb (v.first + v.words) callee.names.words (variable_within callee (formal_place callee n) v sound_callee m.there))
  fits_one ws n v (Taken s) count m is =
      let at = word_number mine.names.variables s in
      let within = place_within mine false s sound_mine is in
      all_three (not (is_word v.kind) && s.count == v.words) (nat_le (at + s.count) (length ws)) (nat_le (v.first + v.words) callee.names.words)
      (both (not (is_word v.kind)) (s.count == v.words) (ap not m.kind) (eq-eqb s.count v.words (sym m.words)))
      (le-leb (at + s.count) (length ws) (omega (arith, within, count)))
      (le-leb (v.first + v.words) callee.names.words (variable_within callee (formal_place callee n) v sound_callee m.there))

  all_fitting : (ws : List ℤ) (n : ℕ) (us : List Variable) (args : List Actual) → length ws ≡ mine.names.words → AreMatched callee n us args
      → AllIn (IsActual mine.names.variables (values_in slots mine.names.variables ws)) args
      → all_fit (length ws) callee.names.words (map formal_of us) (map (operand_of mine.names.variables) args) ≡ true
  all_fitting ws n [] [] count match are = refl
  all_fitting ws n [] (a ∷ more) count match are = absurd match
  all_fitting ws n (v ∷ us) [] count match are = absurd match
  all_fitting ws n (v ∷ us) (a ∷ more) count match are =
      both (fits (length ws) callee.names.words (formal_of v) (operand_of mine.names.variables a)) (all_fit (length ws) callee.names.words (map formal_of us) (map (operand_of mine.names.variables) more))
      (fits_one ws n v a count match.0 are.0) (all_fitting ws (suc n) us more count match.1 are.1)

  -- what both frames of code stand for
  record Stands (r : Returned) (p : Passed) : Type 0 where
    mine_count : length p.mine ≡ mine.names.words
    theirs_count : length p.theirs ≡ callee.names.words
    mine_stand : r.mine ≡ values_in slots mine.names.variables p.mine
    theirs_stand : r.theirs ≡ values_in slots callee.names.variables p.theirs

  -- words come to a formal
  words_enter : (n : ℕ) (v : Variable) (a : Actual) (xs : List ℤ) (ts : List Item) (ws : List ℤ) → IsMatch callee n v a → is_word v.kind ≡ true → v.words ≡ length xs → length ws ≡ callee.names.words
      → ts ≡ values_in slots callee.names.variables ws → written_from ts (formal_place callee n) 0 xs ≡ values_in slots callee.names.variables (spliced ws v.first xs)
  words_enter n v a xs ts ws m word words count stand =
      let i = formal_place callee n in
      let within = variable_within callee i v sound_callee m.there in
      let first : v.first + 0 ≡ v.first = omega arith in
      ap (λ ys. written_from ys i 0 xs) stand
      ∙ writes_span slots callee.names.variables i v sound_callee.laid m.there ws 0 xs word (omega (arith, words)) (omega (arith, within, count))
      ∙ ap (λ f. values_in slots callee.names.variables (spliced ws f xs)) first

  formal_length : (n : ℕ) (v : Variable) (a : Actual) (xs ws : List ℤ) → IsMatch callee n v a → v.words ≡ length xs → length ws ≡ callee.names.words → length (spliced ws v.first xs) ≡ callee.names.words
  formal_length n v a xs ws m words count =
      let within = variable_within callee (formal_place callee n) v sound_callee m.there in
      spliced_length ws v.first xs (omega (arith, within, words, count)) ∙ count

  -- ports leave a place, and come to a formal
  ports_leave : (s : Span) (xs : List Item) (ws : List ℤ) → IsPlace mine.names.variables false s → length ws ≡ mine.names.words → xs ≡ values_in slots mine.names.variables ws
      → (taken_ports xs s).0 ≡ values_in slots mine.names.variables (spliced ws (word_number mine.names.variables s) (nulls s.count))
  ports_leave s xs ws at count stand =
      let vs = mine.names.variables in
      let v = at.variable in
      let within = variable_within mine s.variable v sound_mine at.there in
      ap (λ ys. (taken_ports ys s).0) stand
      ∙ ap (λ ps. (exchange_all (values_in slots vs ws) s.variable s.first ps).0) (sym (null_ports slots s.count))
      ∙ exchanges_span slots vs s.variable v sound_mine.laid at.there ws s.first (nulls s.count) at.kind (omega (arith, at.within, length-replicate s.count (pos 0))) (omega (arith, within, count))
      ∙ ap (λ f. values_in slots vs (spliced ws (f + s.first) (nulls s.count))) (sym (first_is vs s.variable v at.there))

  ports_taken : (s : Span) (xs : List Item) (ws : List ℤ) → IsPlace mine.names.variables false s → length ws ≡ mine.names.words → xs ≡ values_in slots mine.names.variables ws
      → (taken_ports xs s).1 ≡ map (port_by slots) (acts.span_of ws (code_span mine.names.variables s))
  ports_taken s xs ws at count stand =
      let vs = mine.names.variables in
      let v = at.variable in
      let within = variable_within mine s.variable v sound_mine at.there in
      ap (λ ys. (taken_ports ys s).1) stand
      ∙ ap (λ ps. (exchange_all (values_in slots vs ws) s.variable s.first ps).1) (sym (null_ports slots s.count))
      ∙ gives_span slots vs s.variable v sound_mine.laid at.there ws s.first (nulls s.count) at.kind (omega (arith, at.within, length-replicate s.count (pos 0))) (omega (arith, within, count))
      ∙ ap (λ n. map (port_by slots) (take n (drop (v.first + s.first) ws))) (length-replicate s.count (pos 0))
      ∙ ap (λ f. map (port_by slots) (take s.count (drop (f + s.first) ws))) (sym (first_is vs s.variable v at.there))

  ports_enter : (n : ℕ) (v : Variable) (a : Actual) (zs : List ℤ) (ps : List (Option PortValue)) (ts : List Item) (ws : List ℤ) → IsMatch callee n v a → is_word v.kind ≡ false → v.words ≡ length zs
      → length ws ≡ callee.names.words → ts ≡ values_in slots callee.names.variables ws → ps ≡ map (port_by slots) zs
      → (exchange_all ts (formal_place callee n) 0 ps).0 ≡ values_in slots callee.names.variables (spliced ws v.first zs)
  ports_enter n v a zs ps ts ws m word words count stand are =
      let i = formal_place callee n in
      let within = variable_within callee i v sound_callee m.there in
      let first : v.first + 0 ≡ v.first = omega arith in
      ap (λ qs. (exchange_all ts i 0 qs).0) are
      ∙ ap (λ ys. (exchange_all ys i 0 (map (port_by slots) zs)).0) stand
      ∙ exchanges_span slots callee.names.variables i v sound_callee.laid m.there ws 0 zs word (omega (arith, words)) (omega (arith, within, count))
      ∙ ap (λ f. values_in slots callee.names.variables (spliced ws f zs)) first

  step : (n : ℕ) (v : Variable) (a : Actual) (r : Returned) (p : Passed) → IsMatch callee n v a → IsActual mine.names.variables r.mine a → Stands r p
      → Stands (entered_one callee n a r) (pass (formal_of v) (operand_of mine.names.variables a) p)
  step n v (Given xs None) r p m is s =
      let one = one_word xs is in
      record {
        mine_count = s.mine_count;
        theirs_count = formal_length n v (Given xs None) (first_word xs ∷ []) p.theirs m (m.words ∙ is) s.theirs_count;
        mine_stand = s.mine_stand;
        theirs_stand = words_enter n v (Given xs None) xs r.theirs p.theirs m m.kind m.words s.theirs_count s.theirs_stand
            ∙ ap (λ l. values_in slots callee.names.variables (spliced p.theirs v.first l)) one;
      }
  step n v (Given xs (Some x)) r p m is s =
      let same : xs ≡ acts.span_of p.mine (code_span mine.names.variables x) = is.1 ∙ ap (λ ys. words_of ys x) s.mine_stand ∙ place_read slots mine.names.variables p.mine x is.0 in
      record {
        mine_count = s.mine_count;
        theirs_count = formal_length n v (Given xs (Some x)) (acts.span_of p.mine (code_span mine.names.variables x)) p.theirs m (m.words ∙ ap length same) s.theirs_count;
        mine_stand = s.mine_stand;
        theirs_stand = words_enter n v (Given xs (Some x)) xs r.theirs p.theirs m m.kind m.words s.theirs_count s.theirs_stand
            ∙ ap (λ l. values_in slots callee.names.variables (spliced p.theirs v.first l)) same;
      }
  step n v (Taken x) r p m is s =
      let at = word_number mine.names.variables x in
      let within : at + x.count ≤ mine.names.words = place_within mine false x sound_mine is in
      let zs = acts.span_of p.mine (code_span mine.names.variables x) in
      let words : v.words ≡ length zs = m.words ∙ sym (span_length p.mine at x.count (omega (arith, within, s.mine_count))) in
      record {
        mine_count = spliced_length p.mine at (nulls x.count) (omega (arith, within, s.mine_count, length-replicate x.count (pos 0))) ∙ s.mine_count;
        theirs_count = formal_length n v (Taken x) zs p.theirs m words s.theirs_count;
        mine_stand = ports_leave x r.mine p.mine is s.mine_count s.mine_stand;
        theirs_stand = ports_enter n v (Taken x) zs (taken_ports r.mine x).1 r.theirs p.theirs m m.kind words s.theirs_count s.theirs_stand (ports_taken x r.mine p.mine is s.mine_count s.mine_stand);
      }

  kept_one : (n : ℕ) (a : Actual) (r : Returned) (more : List Actual) → AllIn (IsActual mine.names.variables r.mine) more → AllIn (IsActual mine.names.variables (entered_one callee n a r).mine) more
  kept_one n (Given xs back) r more are = are
  kept_one n (Taken x) r more are =
      actuals_kept mine.names.variables r.mine (taken_ports r.mine x).0 (exchanges_words r.mine x.variable x.first (replicate x.count None)) more are

  all_stand : (n : ℕ) (us : List Variable) (args : List Actual) (r : Returned) (p : Passed) → AreMatched callee n us args → AllIn (IsActual mine.names.variables r.mine) args → Stands r p
      → Stands (entered_all callee n args r) (pass_all (map formal_of us) (map (operand_of mine.names.variables) args) p)
  all_stand n [] [] r p match are s = s
  all_stand n [] (a ∷ more) r p match are s = absurd match
  all_stand n (v ∷ us) [] r p match are s = absurd match
  all_stand n (v ∷ us) (a ∷ more) r p match are s =
      all_stand (suc n) us more (entered_one callee n a r) (pass (formal_of v) (operand_of mine.names.variables a) p) match.1 (kept_one n a r more are.1) (step n v a r p match.0 are.0 s)

-- ---- opening

pub opens_alike : (slots : Slots) (types : Types) (mine callee : ProgramUnit) (ws : List ℤ) (args : List Actual)
    → IsSoundUnit mine → IsSoundUnit callee
    → length ws ≡ mine.names.words
    → ValuesFit types mine.names.variables (values_in slots mine.names.variables ws)
    → AllIn (IsActual mine.names.variables (values_in slots mine.names.variables ws)) args
    → TakesFrom callee 1 args
    → length (formals_among callee.names.variables) ≡ length args
    → OpensAlike slots mine callee ws args
opens_alike slots types mine callee ws args sound_mine sound_callee count fit are takes full =
    let vs = mine.names.variables in
    let us = callee.names.variables in
    let fs = takers callee 1 args takes in
    let os = map (operand_of vs) args in
    let start : Passed = record { mine = ws; theirs = nulls callee.names.words; backs = [] } in
    let begin : Returned = record { mine = values_in slots vs ws; theirs = all_unset us; drops = [] } in
    let same : map formal_of fs ≡ formals_of us = sym (formals_are callee 1 (length (formals_among us)) args takes full) in
    let match : AreMatched callee 1 fs args = matched callee 1 args takes in
    let first : Stands slots mine callee sound_mine sound_callee begin start =
    record { mine_count = count; theirs_count = length-replicate callee.names.words (pos 0); mine_stand = refl; theirs_stand = unset_stands slots callee sound_callee } in
    let last = all_stand slots mine callee sound_mine sound_callee 1 fs args begin start match are first in
    record {
      fit = ap (λ l. all_fit (length ws) callee.names.words l os) (sym same) ∙ all_fitting slots mine callee sound_mine sound_callee ws 1 fs args count match are;
      mine_count = ap (λ l. length (pass_all l os start).mine) (sym same) ∙ last.mine_count ∙ sym count;
      theirs_count = ap (λ l. length (pass_all l os start).theirs) (sym same) ∙ last.theirs_count;
      mine_stand = last.mine_stand ∙ ap (λ l. values_in slots vs (pass_all l os start).mine) same;
      theirs_stand = last.theirs_stand ∙ ap (λ l. values_in slots us (pass_all l os start).theirs) same;
      backs = ap (λ l. (pass_all l os start).backs) (sym same) ∙ all_backs vs callee 1 fs args start match;
      whole = all_whole slots mine callee sound_mine sound_callee ws 1 fs args count match are;
      drops = opening_drops_nothing callee (values_in slots vs ws) args (finds_room callee 1 fs args match);
    }
