-- An instruction that evaluates, where what it takes is on the list, goes on with what it gives on the list, or ends with a fault.
use Rattle.std.proofs.Common.{◌≡◌, ℕ, zero, suc, ◌+◌, ◌*◌, ◌≤◌, ◌<◌, ℤ, pos, negsuc, Bool, true, false, cond, ◌&&◌, Option, Some, None, List, [], ◌∷◌, length, slice_get, take, drop, reverse, Result, Ok, Err, refl, sym, ap, subst, ◌∙◌, arith, mul-suc}
use Rattle.std.specs.Prelude.{nat_lt, nat_le, int_le, int_lt, option_map, ◌+ℤ◌, ◌-ℤ◌, ◌*ℤ◌, ◌≤ℤ◌, ◌<ℤ◌, not}
use Rattle.std.proofs.lemmas.Int.{ints}
use Rattle.std.proofs.lemmas.Nat.{mul-le}
use Rattle.std.proofs.lemmas.Bool.{ltb-true, le-leb}
use Rattle.fm_base.specs.Integers.{is_integer}
use Rattle.fm_base.specs.declared.fault.Fault.{Fault}
use Rattle.fm_base.specs.declared.fault.Fault.TheVariants.{Overflow, Subscript}
use Rattle.fm_base.specs.declared.token.Op.{Op}
use Rattle.fm_values.specs.Values.{in_range, sum, product, opposite, truth_word, is_truth}
use Rattle.fm_values.specs.Operations.{applied_words}
use Rattle.fm_values.specs.Intrinsics.{intrinsic_value, takes}
use Rattle.fm_values.specs.declared.intrinsic.Intrinsic.{Intrinsic}
use Rattle.fm_code.specs.declared.body.Frame.{Frame}
use Rattle.fm_code.specs.declared.code.Span.{Span}
use Rattle.fm_code.specs.declared.instr.Eval.{Eval}
use Rattle.fm_code.specs.declared.instr.Eval.TheVariants as eval
use Rattle.fm_code.specs.declared.scratch.Scratch.{Scratch}
use Rattle.fm_code.specs.Acts.{Act, On, gives, found, word_of, distance, evaluates}
use Rattle.fm_code_kinds.specs.declared.sorts.Cell.{Cell}
use Rattle.fm_code_kinds.specs.Shapes.{single, are_words, words_of}
use Rattle.fm_code_kinds.specs.declared.kinds.Kind.{Kind}
use Rattle.fm_code_kinds.specs.declared.kinds.Kind.TheVariants as kinds
use Rattle.fm_code_kinds.specs.Effects.{results_in, placed, first_words, pushed, shifted, scaled, word, without_words, evaluated}
use Rattle.fm_code_kinds.specs.Fitting.{IsAmong, WordFits, Fits, GoesOn}
use Rattle.fm_code_kinds.proofs.Places.{AreInside, words_inside, word_there}

abbrev some : {A : Type 0} → A → Option A
some x = Some x

some_is : {A : Type 0} (x y : A) → some x ≡ some y → x ≡ y
some_is x y e = cc

abbrev done : ℤ → Result ℤ Fault
done x = Ok x

ok_is : (x y : ℤ) → done x ≡ done y → x ≡ y
ok_is x y e = cc

given : {A : Type 0} (b : Bool) (x y : A) → cond b (some x) None ≡ some y → (b ≡ true) × (x ≡ y)
given true x y e = (refl, some_is x y e)
given false x y e = absurd cc

-- ---- numbers

ranged : (z k : ℤ) → in_range z ≡ Ok k → z ≡ k
ranged z k e = go (is_integer z) e
  where
    go : (b : Bool) → cond b (done z) (Err Overflow) ≡ done k → z ≡ k
    go true e = ok_is z k e
    go false e = absurd cc

le_true : (x y : ℤ) → int_le x y ≡ true → x ≤ℤ y
le_true x y e = grind (arith, ints)

lt_true : (x y : ℤ) → int_lt x y ≡ true → x <ℤ y
lt_true x y e = grind (arith, ints)

from_0 : (z : ℤ) (n : ℕ) → pos 0 ≤ℤ z → z <ℤ pos n → IsAmong (record { first = 0; count = n }) z
from_0 (pos k) n low high = record { number = k; is = refl; low = omega arith; high = omega (arith, ints, high) }
from_0 (negsuc k) n low high = absurd (omega (arith, ints, low))

distance_among : (low : ℤ) (extent : ℕ) (x d : ℤ) → distance low extent x ≡ Ok d → IsAmong (record { first = 0; count = extent }) d
distance_among low extent x d e = go (int_le low x) (int_lt (x -ℤ low) (pos extent)) refl refl e
  where
    go : (a b : Bool) → int_le low x ≡ a → int_lt (x -ℤ low) (pos extent) ≡ b → cond (a && b) (done (x -ℤ low)) (Err Subscript) ≡ done d → IsAmong (record { first = 0; count = extent }) d
    go true true f g e = subst (IsAmong (record { first = 0; count = extent })) (ok_is (x -ℤ low) d e) (from_0 (x -ℤ low) extent (omega (arith, ints, le_true low x f)) (lt_true (x -ℤ low) (pos extent) g))
    go true false f g e = absurd cc
    go false b f g e = absurd cc

scaled_low : (e f n j : ℕ) → f ≤ n → e * f ≤ j + e * n
scaled_low e f n j l = omega (arith, mul-le e f e n (omega arith) l)

scaled_high : (e f c n j : ℕ) → j < e → n < f + c → j + e * n < e * f + e * c
scaled_high e f c n j l h =
    let row : e * suc n ≤ e * (f + c) = mul-le e (suc n) e (f + c) (omega arith) h in
    omega (arith, l, row, mul-suc e n, split e f c)
  where
    split : (e f c : ℕ) → e * (f + c) ≡ e * f + e * c
    split e f c = grind arith

-- an element of the dimensions behind, and a distance
dimension_among : (extent : ℕ) (s : Span) (d place p n : ℤ) → IsAmong (record { first = 0; count = extent }) d → IsAmong s place → pos extent *ℤ place ≡ p → d +ℤ p ≡ n → IsAmong (scaled extent s) n
dimension_among extent s d place p n a b e f = record {
  number = a.number + extent * b.number;
  is = sym f ∙ (λ i. a.is i +ℤ (sym e ∙ ap (λ z. pos extent *ℤ z) b.is) i) ∙ refl;
  low = scaled_low extent s.first b.number a.number b.low;
  high = scaled_high extent s.first s.count b.number a.number (omega (arith, a.high)) b.high;
}

shifted_among : (first : ℕ) (s : Span) (x n : ℤ) → IsAmong s x → pos first +ℤ x ≡ n → IsAmong (shifted first s) n
shifted_among first s x n a e = record {
  number = first + a.number;
  is = sym e ∙ ap (λ z. pos first +ℤ z) a.is;
  low = omega (arith, a.low);
  high = omega (arith, a.high);
}

placed_fits : (cells : List Cell) (s : Span) (x : ℤ) → IsAmong s x → WordFits (placed cells s) x
placed_fits cells s x a = go (nat_le (s.first + s.count) (words_of cells))
  where
    go : (b : Bool) → WordFits (cond b (Some s) None) x
    go true = a
    go false = tt

pushed_fits : (cells : List Cell) (n : ℤ) → WordFits (pushed cells n) n
pushed_fits cells (pos n) = placed_fits cells (single n) (pos n) (record { number = n; is = refl; low = omega arith; high = omega arith })
pushed_fits cells (negsuc n) = tt

module _ (cells : List Cell) (loops : ℕ) (inside : AreInside (words_of cells) cells) (m : Frame) where
  -- a value, or a fault
  gives_goes : {X : Type 0} (ks : List Kind) (r : Result X Fault) (f : X → Act) → ((v : X) → r ≡ Ok v → GoesOn cells loops ks m (f v)) → GoesOn cells loops ks m (gives r f)
  gives_goes ks (Ok v) f h = h v refl
  gives_goes ks (Err fault) f h = tt

  found_goes : {X : Type 0} (ks : List Kind) (o : Option X) (v : X) (f : X → Act) → o ≡ Some v → GoesOn cells loops ks m (f v) → GoesOn cells loops ks m (found o f)
  found_goes ks o v f e h = rw e h

  push_fits : (ks : List Kind) (s : List ℤ) (b : Scratch) → Fits cells loops ks s b m → (r : Option Span) (x : ℤ) → WordFits r x → Fits cells loops (kinds.Word r ∷ ks) (x ∷ s) b m
  push_fits ks s b fits r x is = record { stands = (is, fits.stands); counts = fits.counts; frame = fits.frame }

  pub below : (r : Option Span) (ks : List Kind) (x : ℤ) (s : List ℤ) (b : Scratch) → Fits cells loops (kinds.Word r ∷ ks) (x ∷ s) b m → Fits cells loops ks s b m
  below r ks x s b fits = record { stands = fits.stands.1; counts = fits.counts; frame = fits.frame }

  -- a word of the frame
  loaded : (ks : List Kind) (k : ℕ) (s : List ℤ) (b : Scratch) → Fits cells loops ks s b m → k < words_of cells → GoesOn cells loops (word ∷ ks) m (found (slice_get m.words k) (λ v. On (v ∷ s) b))
  loaded ks k s b fits low =
      let w = word_there m.words k (omega (arith, low, fits.frame.words)) in
      found_goes (word ∷ ks) (slice_get m.words k) w.0 (λ v. On (v ∷ s) b) w.1 (push_fits ks s b fits None w.0 tt)

  -- what an instruction does whose list begins with a word
  abbrev Goes : Eval → List Kind → List Kind → List ℤ → Scratch → Type 0
  Goes i ks out s b = Fits cells loops ks s b m → evaluated cells i ks ≡ Some out → GoesOn cells loops out m (evaluates i s b m)

  push_goes : (n : ℤ) (ks out : List Kind) (s : List ℤ) (b : Scratch) → Goes (eval.Push n) ks out s b
  push_goes n ks out s b fits e = subst (λ o. GoesOn cells loops o m (On (n ∷ s) b)) (some_is (kinds.Word (pushed cells n) ∷ ks) out e) (push_fits ks s b fits (pushed cells n) n (pushed_fits cells n))

  load_goes : (k : ℕ) (ks out : List Kind) (s : List ℤ) (b : Scratch) → Goes (eval.Load k) ks out s b
  load_goes k ks out s b fits e =
      let t = given (are_words cells (single k)) (word ∷ ks) out e in
      let low = words_inside (words_of cells) cells inside (single k) t.0 in
      subst (λ o. GoesOn cells loops o m (evaluates (eval.Load k) s b m)) t.1 (loaded ks k s b fits (omega (arith, low)))

  result_goes : (n : ℕ) (ks out : List Kind) (s : List ℤ) (b : Scratch) → Goes (eval.Result n) ks out s b
  result_goes n ks out s b fits e =
      let t = given (nat_lt n (results_in ks)) (word ∷ ks) out e in
      let low = ltb-true n (results_in ks) t.0 in
      let w = word_there m.results n (omega (arith, low, fits.frame.done)) in
      subst (λ o. GoesOn cells loops o m (evaluates (eval.Result n) s b m)) t.1
      (found_goes (word ∷ ks) (slice_get m.results n) w.0 (λ v. On (v ∷ s) b) w.1 (push_fits ks s b fits None w.0 tt))

  -- one word gives way to what a function makes of it, or to a fault
  subscript_goes : (low : ℤ) (extent : ℕ) (ks out : List Kind) (s : List ℤ) (b : Scratch) → Goes (eval.Subscript low extent) ks out s b
  subscript_goes low extent [] out s b fits e = absurd cc
  subscript_goes low extent (kinds.Returned ∷ ks) out s b fits e = absurd cc
  subscript_goes low extent (kinds.Operand o ∷ ks) out s b fits e = absurd cc
  subscript_goes low extent (kinds.LoopOf l ∷ ks) out s b fits e = absurd cc
  subscript_goes low extent (kinds.Word r ∷ ks) out [] b fits e = absurd fits.stands
  subscript_goes low extent (kinds.Word r ∷ ks) out (x ∷ s) b fits e =
      let to : List Kind = kinds.Word (placed cells (first_words extent)) ∷ ks in
      subst (λ o. GoesOn cells loops o m (evaluates (eval.Subscript low extent) (x ∷ s) b m)) (some_is to out e)
      (gives_goes to (distance low extent x) (λ d. On (d ∷ s) b) (λ d is. push_fits ks s b (below r ks x s b fits) (placed cells (first_words extent)) d (placed_fits cells (first_words extent) d (distance_among low extent x d is))))

  negate_goes : (ks out : List Kind) (s : List ℤ) (b : Scratch) → Goes eval.Negate ks out s b
  negate_goes [] out s b fits e = absurd cc
  negate_goes (kinds.Returned ∷ ks) out s b fits e = absurd cc
  negate_goes (kinds.Operand o ∷ ks) out s b fits e = absurd cc
  negate_goes (kinds.LoopOf l ∷ ks) out s b fits e = absurd cc
  negate_goes (kinds.Word r ∷ ks) out [] b fits e = absurd fits.stands
  negate_goes (kinds.Word r ∷ ks) out (x ∷ s) b fits e =
      subst (λ o. GoesOn cells loops o m (evaluates eval.Negate (x ∷ s) b m)) (some_is (word ∷ ks) out e)
      (gives_goes (word ∷ ks) (opposite x) (λ v. On (v ∷ s) b) (λ v is. push_fits ks s b (below r ks x s b fits) None v tt))

  not_goes : (ks out : List Kind) (s : List ℤ) (b : Scratch) → Goes eval.Not ks out s b
  not_goes [] out s b fits e = absurd cc
  not_goes (kinds.Returned ∷ ks) out s b fits e = absurd cc
  not_goes (kinds.Operand o ∷ ks) out s b fits e = absurd cc
  not_goes (kinds.LoopOf l ∷ ks) out s b fits e = absurd cc
  not_goes (kinds.Word r ∷ ks) out [] b fits e = absurd fits.stands
  not_goes (kinds.Word r ∷ ks) out (x ∷ s) b fits e =
      subst (λ o. GoesOn cells loops o m (evaluates eval.Not (x ∷ s) b m)) (some_is (word ∷ ks) out e) (push_fits ks s b (below r ks x s b fits) None (truth_word (not (is_truth x))) tt)

  -- a place and a subscript
  dimension_goes : (low : ℤ) (extent : ℕ) (ks out : List Kind) (s : List ℤ) (b : Scratch) → Goes (eval.Dimension low extent) ks out s b
  dimension_goes low extent [] out s b fits e = absurd cc
  dimension_goes low extent (kinds.Returned ∷ ks) out s b fits e = absurd cc
  dimension_goes low extent (kinds.Operand o ∷ ks) out s b fits e = absurd cc
  dimension_goes low extent (kinds.LoopOf l ∷ ks) out s b fits e = absurd cc
  dimension_goes low extent (kinds.Word None ∷ ks) out s b fits e = absurd cc
  dimension_goes low extent (kinds.Word (Some t) ∷ []) out s b fits e = absurd cc
  dimension_goes low extent (kinds.Word (Some t) ∷ kinds.Returned ∷ ks) out s b fits e = absurd cc
  dimension_goes low extent (kinds.Word (Some t) ∷ kinds.Operand o ∷ ks) out s b fits e = absurd cc
  dimension_goes low extent (kinds.Word (Some t) ∷ kinds.LoopOf l ∷ ks) out s b fits e = absurd cc
  dimension_goes low extent (kinds.Word (Some t) ∷ kinds.Word r ∷ ks) out [] b fits e = absurd fits.stands
  dimension_goes low extent (kinds.Word (Some t) ∷ kinds.Word r ∷ ks) out (place ∷ []) b fits e = absurd fits.stands.1
  dimension_goes low extent (kinds.Word (Some t) ∷ kinds.Word r ∷ ks) out (place ∷ x ∷ s) b fits e =
      let to : List Kind = kinds.Word (placed cells (scaled extent t)) ∷ ks in
      let under : Fits cells loops ks s b m = below r ks x s b (below (Some t) (kinds.Word r ∷ ks) place (x ∷ s) b fits) in
      subst (λ o. GoesOn cells loops o m (evaluates (eval.Dimension low extent) (place ∷ x ∷ s) b m)) (some_is to out e)
      (gives_goes to (distance low extent x) (λ d. gives (product (pos extent) place) (λ p. gives (sum d p) (λ n. On (n ∷ s) b)))
      (λ d is_d. gives_goes to (product (pos extent) place) (λ p. gives (sum d p) (λ n. On (n ∷ s) b))
      (λ p is_p. gives_goes to (sum d p) (λ n. On (n ∷ s) b)
      (λ n is_n. push_fits ks s b under (placed cells (scaled extent t)) n (placed_fits cells (scaled extent t) n
      (dimension_among extent t d place p n (distance_among low extent x d is_d) fits.stands.0 (ranged (pos extent *ℤ place) p is_p) (ranged (d +ℤ p) n is_n)))))))

  -- a place gives way to its word, or to the number of its word
  element_goes : (first : ℕ) (ks out : List Kind) (s : List ℤ) (b : Scratch) → Goes (eval.Element first) ks out s b
  element_goes first [] out s b fits e = absurd cc
  element_goes first (kinds.Returned ∷ ks) out s b fits e = absurd cc
  element_goes first (kinds.Operand o ∷ ks) out s b fits e = absurd cc
  element_goes first (kinds.LoopOf l ∷ ks) out s b fits e = absurd cc
  element_goes first (kinds.Word None ∷ ks) out s b fits e = absurd cc
  element_goes first (kinds.Word (Some t) ∷ ks) out [] b fits e = absurd fits.stands
  element_goes first (kinds.Word (Some t) ∷ ks) out (x ∷ s) b fits e =
      let g = given (are_words cells (shifted first t)) (word ∷ ks) out e in
      let end = words_inside (words_of cells) cells inside (shifted first t) g.0 in
      let under : Fits cells loops ks s b m = below (Some t) ks x s b fits in
      subst (λ o. GoesOn cells loops o m (evaluates (eval.Element first) (x ∷ s) b m)) g.1
      (gives_goes (word ∷ ks) (sum (pos first) x) (λ k. found (word_of m k) (λ v. On (v ∷ s) b))
      (λ k is_k.
      let a = shifted_among first t x k fits.stands.0 (ranged (pos first +ℤ x) k is_k) in
      subst (λ z. GoesOn cells loops (word ∷ ks) m (found (word_of m z) (λ v. On (v ∷ s) b))) (sym a.is) (loaded ks a.number s b under (omega (arith, end, a.high)))))

  locate_goes : (first : ℕ) (ks out : List Kind) (s : List ℤ) (b : Scratch) → Goes (eval.Locate first) ks out s b
  locate_goes first [] out s b fits e = absurd cc
  locate_goes first (kinds.Returned ∷ ks) out s b fits e = absurd cc
  locate_goes first (kinds.Operand o ∷ ks) out s b fits e = absurd cc
  locate_goes first (kinds.LoopOf l ∷ ks) out s b fits e = absurd cc
  locate_goes first (kinds.Word None ∷ ks) out s b fits e = absurd cc
  locate_goes first (kinds.Word (Some t) ∷ ks) out [] b fits e = absurd fits.stands
  locate_goes first (kinds.Word (Some t) ∷ ks) out (x ∷ s) b fits e =
      let to : List Kind = kinds.Word (placed cells (shifted first t)) ∷ ks in
      subst (λ o. GoesOn cells loops o m (evaluates (eval.Locate first) (x ∷ s) b m)) (some_is to out e)
      (gives_goes to (sum (pos first) x) (λ k. On (k ∷ s) b)
      (λ k is_k. push_fits ks s b (below (Some t) ks x s b fits) (placed cells (shifted first t)) k (placed_fits cells (shifted first t) k (shifted_among first t x k fits.stands.0 (ranged (pos first +ℤ x) k is_k)))))

  -- two words
  apply_goes : (op : Op) (ks out : List Kind) (s : List ℤ) (b : Scratch) → Goes (eval.Apply op) ks out s b
  apply_goes op [] out s b fits e = absurd cc
  apply_goes op (kinds.Returned ∷ ks) out s b fits e = absurd cc
  apply_goes op (kinds.Operand o ∷ ks) out s b fits e = absurd cc
  apply_goes op (kinds.LoopOf l ∷ ks) out s b fits e = absurd cc
  apply_goes op (kinds.Word t ∷ []) out s b fits e = absurd cc
  apply_goes op (kinds.Word t ∷ kinds.Returned ∷ ks) out s b fits e = absurd cc
  apply_goes op (kinds.Word t ∷ kinds.Operand o ∷ ks) out s b fits e = absurd cc
  apply_goes op (kinds.Word t ∷ kinds.LoopOf l ∷ ks) out s b fits e = absurd cc
  apply_goes op (kinds.Word t ∷ kinds.Word r ∷ ks) out [] b fits e = absurd fits.stands
  apply_goes op (kinds.Word t ∷ kinds.Word r ∷ ks) out (y ∷ []) b fits e = absurd fits.stands.1
  apply_goes op (kinds.Word t ∷ kinds.Word r ∷ ks) out (y ∷ x ∷ s) b fits e =
      let under : Fits cells loops ks s b m = below r ks x s b (below t (kinds.Word r ∷ ks) y (x ∷ s) b fits) in
      subst (λ o. GoesOn cells loops o m (evaluates (eval.Apply op) (y ∷ x ∷ s) b m)) (some_is (word ∷ ks) out e)
      (gives_goes (word ∷ ks) (applied_words op x y) (λ v. On (v ∷ s) b) (λ v is. push_fits ks s b under None v tt))

  -- so many words
  pub record Under (n : ℕ) (out : List Kind) (s : List ℤ) (b : Scratch) : Type 0 where
    pub enough : n ≤ length s
    pub fits : Fits cells loops out (drop n s) b m

  pub words_under : (n : ℕ) (ks out : List Kind) (s : List ℤ) (b : Scratch) → Fits cells loops ks s b m → without_words n ks ≡ Some out → Under n out s b
  words_under zero ks out s b fits e = record { enough = omega arith; fits = subst (λ o. Fits cells loops o s b m) (some_is ks out e) fits }
  words_under (suc n) [] out s b fits e = absurd cc
  words_under (suc n) (kinds.Returned ∷ ks) out s b fits e = absurd cc
  words_under (suc n) (kinds.Operand o ∷ ks) out s b fits e = absurd cc
  words_under (suc n) (kinds.LoopOf l ∷ ks) out s b fits e = absurd cc
  words_under (suc n) (kinds.Word r ∷ ks) out [] b fits e = absurd fits.stands
  words_under (suc n) (kinds.Word r ∷ ks) out (x ∷ s) b fits e =
      let u = words_under n ks out s b (below r ks x s b fits) e in
      record { enough = omega (arith, u.enough); fits = u.fits }

  intrinsic_goes : (f : Intrinsic) (n : ℕ) (ks out : List Kind) (s : List ℤ) (b : Scratch) → Goes (eval.Intrinsic f n) ks out s b
  intrinsic_goes f n ks out s b fits e = go (takes f n) e
    where
      words : (o : Option (List Kind)) → without_words n ks ≡ o → option_map (λ ks. word ∷ ks) o ≡ some out → GoesOn cells loops out m (evaluates (eval.Intrinsic f n) s b m)
      words None is e = absurd cc
      words (Some rest) is e =
          let u = words_under n ks rest s b fits is in
          subst (λ o. GoesOn cells loops o m (evaluates (eval.Intrinsic f n) s b m)) (some_is (word ∷ rest) out e)
          (rw (le-leb n (length s) u.enough) (gives_goes (word ∷ rest) (intrinsic_value f (reverse (take n s))) (λ v. On (v ∷ drop n s) b) (λ v is. push_fits rest (drop n s) b u.fits None v tt)))

      go : (t : Bool) → cond t (option_map (λ ks. word ∷ ks) (without_words n ks)) None ≡ some out → GoesOn cells loops out m (evaluates (eval.Intrinsic f n) s b m)
      go true e = words (without_words n ks) refl e
      go false e = absurd cc

  -- ---- all of them

  pub evaluates_goes : (i : Eval) (ks out : List Kind) (s : List ℤ) (b : Scratch) → Goes i ks out s b
  evaluates_goes (eval.Push n) = push_goes n
  evaluates_goes (eval.Load k) = load_goes k
  evaluates_goes (eval.Result n) = result_goes n
  evaluates_goes (eval.Subscript low extent) = subscript_goes low extent
  evaluates_goes (eval.Dimension low extent) = dimension_goes low extent
  evaluates_goes (eval.Element first) = element_goes first
  evaluates_goes (eval.Locate first) = locate_goes first
  evaluates_goes (eval.Apply o) = apply_goes o
  evaluates_goes eval.Negate = negate_goes
  evaluates_goes eval.Not = not_goes
  evaluates_goes (eval.Intrinsic f n) = intrinsic_goes f n
