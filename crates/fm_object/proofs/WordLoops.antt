-- Reading a word as a loop does.
use Rattle.std.proofs.Common.{◌≡◌, ◌≢◌, ℕ, zero, suc, ◌+◌, ◌-◌, ◌*◌, ◌^◌, ◌<◌, ◌≤◌, true, List, [], ◌∷◌, ◌++◌, length, get_or, take, drop, Option, Some, None, option_map, refl, sym, ap, ◌∙◌, arith, drop-cons, length-drop}
use Rattle.std.specs.Prelude.{MatchOption}
use Rattle.std.specs.List.{list_all}
use Rattle.std.specs.Char.{is_ascii_digit}
use Rattle.std.proofs.Math.Nat.{pow-le-pow_right, pow-suc}
use Rattle.std.proofs.lemmas.Bool.{and_parts, eq-eqb, ne_eqb}
use Rattle.std.proofs.lemmas.Bool.Decides.{nat_tests}
use Rattle.std.proofs.lemmas.List.{append-nil}
use Rattle.std.proofs.Math.ListN.{drop_of_length-le}
use Rattle.fm_object.specs.Words.{after, word_at, read_on}
use Rattle.fm_object.proofs.WordLaws.{some, after_takes, after_again}

-- ---- keywords

pub after_is : {B : Type 0} (now : B → List ℕ) (p s : List ℕ) (r : Option B) → MatchOption r ((rest : List ℕ) → s ≢ p ++ rest) (λ x. s ≡ p ++ now x) → option_map now r ≡ after p s
after_is now p s (Some x) is = sym (ap (after p) is ∙ after_again p (now x))
after_is now p s None isnt = go (after p s) refl
  where
    go : (o : Option (List ℕ)) → after p s ≡ o → None ≡ after p s
    go None e = sym e
    go (Some r) e = absurd (isnt r (after_takes p s r e))

-- ---- words

abbrev pub with_front : (bytes : List ℕ) → (front : ℕ) → Option (List ℕ × List ℕ) → Option (List ℕ × List ℕ)
with_front bytes n o = option_map {U = List ℕ × List ℕ} (λ x. (take n bytes ++ x.0, x.1)) o

pub nothing_yet : (bytes : List ℕ) (o : Option (List ℕ × List ℕ)) → with_front bytes 0 o ≡ o
nothing_yet bytes None = refl
nothing_yet bytes (Some x) = refl

one_more : (i : ℕ) → suc i ≡ i + 1
one_more i = omega arith

pub taken : (bytes : List ℕ) (i : ℕ) (w : List ℕ) → i < length bytes → take i bytes ++ (get_or bytes i 0 ∷ w) ≡ take (i + 1) bytes ++ w
taken [] i w low = absurd (omega (arith, low))
taken (b ∷ bytes) zero w low = refl
taken (b ∷ bytes) (suc i) w low =
    let rest : take i bytes ++ (get_or bytes i 0 ∷ w) ≡ take (suc i) bytes ++ w = taken bytes i w (omega (arith, low)) ∙ ap (λ (k : ℕ). take k bytes ++ w) (sym (one_more i)) in
    ap (λ (t : List ℕ). b ∷ t) rest ∙ ap (λ (k : ℕ). take k (b ∷ bytes) ++ w) (one_more (suc i))

module _ (e : ℕ) (bytes : List ℕ) (i : ℕ) (low : i < length bytes) where
  here : drop i bytes ≡ get_or bytes i 0 ∷ drop (i + 1) bytes
  here = drop-cons bytes i 0 low ∙ ap (λ (k : ℕ). get_or bytes i 0 ∷ drop k bytes) (one_more i)

  pub ends_here : get_or bytes i 0 ≡ e → with_front bytes i (word_at e (drop i bytes)) ≡ Some (take i bytes, drop (i + 1) bytes)
  unfolding word_at
  ends_here is = rw (here, eq-eqb (get_or bytes i 0) e is) (ap (λ (w : List ℕ). some {A = List ℕ × List ℕ} (w, drop (i + 1) bytes)) (append-nil (take i bytes)))

  more : (o : Option (List ℕ × List ℕ)) → with_front bytes i (option_map {U = List ℕ × List ℕ} (λ x. (get_or bytes i 0 ∷ x.0, x.1)) o) ≡ with_front bytes (i + 1) o
  more None = refl
  more (Some x) = ap (λ (w : List ℕ). some {A = List ℕ × List ℕ} (w, x.1)) (taken bytes i x.0 low)

  pub goes_on : (get_or bytes i 0 ≡ e → ⊥) → with_front bytes i (word_at e (drop i bytes)) ≡ with_front bytes (i + 1) (word_at e (drop (i + 1) bytes))
  unfolding word_at
  goes_on isnt = rw (here, ne_eqb (get_or bytes i 0) e isnt) (more (word_at e (drop (i + 1) bytes)))

-- ---- numbers

pub small_enough : (i n v : ℕ) → i < n → n ≤ 19 → v < 10 ^ i → v < 10 ^ 18
small_enough i n v low few small =
    let h : i ≤ 18 = omega (arith, low, few) in
    let p : 10 ^ i ≤ 10 ^ 18 = pow-le-pow_right (omega arith) h in
    omega (arith, p, small)

pub grows : (i v d : ℕ) → v < 10 ^ i → d ≤ 9 → 10 * v + d < 10 ^ (i + 1)
grows i v d small digit =
    let same : 10 ^ suc i ≡ 10 ^ (i + 1) = ap (λ (k : ℕ). 10 ^ k) (one_more i) in
    omega (arith, small, digit, pow-suc 10 i, same)

pub digit_there : (ds : List ℕ) (i : ℕ) → list_all is_ascii_digit ds ≡ true → i < length ds → (48 ≤ get_or ds i 0) × (get_or ds i 0 ≤ 57)
digit_there [] i all low = absurd (omega (arith, low))
digit_there (d ∷ ds) zero all low =
    let p = (and_parts (is_ascii_digit d) (list_all is_ascii_digit ds) all).0 in
    (grind (arith, nat_tests, p), grind (arith, nat_tests, p))
digit_there (d ∷ ds) (suc i) all low = digit_there ds i (and_parts (is_ascii_digit d) (list_all is_ascii_digit ds) all).1 (omega (arith, low))

pub read_more : (ds : List ℕ) (i v : ℕ) → i < length ds → read_on v (drop i ds) ≡ read_on (10 * v + (get_or ds i 0 - 48)) (drop (i + 1) ds)
read_more ds i v low = ap (read_on v) (drop-cons ds i 0 low) ∙ ap (λ (k : ℕ). read_on (10 * v + (get_or ds i 0 - 48)) (drop k ds)) (one_more i)

take_whole : (n : ℕ) (xs : List ℕ) → length xs ≤ n → take n xs ≡ xs
take_whole zero [] le = refl
take_whole (suc n) [] le = refl
take_whole zero (x ∷ xs) le = absurd (omega (arith, le))
take_whole (suc n) (x ∷ xs) le = ap (λ (t : List ℕ). x ∷ t) (take_whole n xs (omega (arith, le)))

-- a word that was found, with the bytes behind its end
pub found_word : (e : ℕ) (bytes front back : List ℕ) (i : ℕ) → i < length bytes → get_or bytes i 0 ≡ e → with_front bytes i (word_at e (drop i bytes)) ≡ word_at e bytes → front ≡ take i bytes → back ≡ drop i bytes
    → Some (front, take (length back - 1) (drop 1 back)) ≡ word_at e bytes
found_word e bytes front back i low is whole f b =
    let behind : drop 1 back ≡ drop (i + 1) bytes = ap (drop 1) (b ∙ here e bytes i low) in
    let all : take (length back - 1) (drop 1 back) ≡ drop 1 back = take_whole (length back - 1) (drop 1 back) (omega (arith, length-drop 1 back)) in
    ap (λ (p : List ℕ × List ℕ). some p) (λ k. (f k, (all ∙ behind) k)) ∙ (sym (ends_here e bytes i low is) ∙ whole)

-- no byte ends a word
pub no_word : (e : ℕ) (bytes : List ℕ) (i : ℕ) → length bytes ≤ i → with_front bytes i (word_at e (drop i bytes)) ≡ word_at e bytes → None ≡ word_at e bytes
unfolding word_at
no_word e bytes i high whole = ap (λ (t : List ℕ). with_front bytes i (word_at e t)) (sym (drop_of_length-le bytes high)) ∙ whole
