-- A word that is read is the word that was written, and what was written is read again.
use Rattle.std.proofs.Common.{◌≡◌, ℕ, zero, suc, ◌-◌, ◌^◌, ◌<◌, ◌≤◌, Bool, true, false, not, ◌&&◌, ◌||◌, ◌==◌, nat_lt, nat_le, cond, List, [], ◌∷◌, ◌++◌, length, get_or, Option, Some, None, option_map, refl, sym, ap, subst, ◌∙◌, arith, rules}
use Rattle.std.specs.Prelude.{ℤ, pos, negsuc}
use Rattle.std.specs.Fmt.{decimal, signed_decimal}
use Rattle.std.specs.Int.{w64}
use Rattle.std.specs.Int.RustNames.{FitsSigned}
use Rattle.std.specs.List.{AllByRecursion, list_all}
use Rattle.std.specs.Char.{is_ascii_digit}
use Rattle.std.proofs.lemmas.Bool.{ltb-true, leb-true, eqb-true, lt-ltb, le-leb, eq-eqb, ne_eqb, and_parts, and_from, or_left, not_from_false, cond-true}
use Rattle.std.proofs.lemmas.Bool.Decides.{nat_tests}
use Rattle.std.proofs.lemmas.Fmt.{decimal_digit, decimal_nonempty, length-decimal-le, first_decimal, digits_decimal, digits_value-decimal, decimal-digits_value}
use Rattle.std.proofs.lemmas.Str.Parse.{IsNumeralModel, numerals_by_fold, digits_value_short}
use Rattle.fm_base.specs.Letters.{is_letter, is_name_byte, is_name_text}
use Rattle.fm_object.specs.Texts.{word, number, signed, IsShort, IsName}
use Rattle.fm_object.specs.Words.{◌>>=◌, after, word_at, read_on, begins_with_zero, is_numeral, natural_of, number_of, opposite_in, positive_in, signed_of, name_of, number_at, signed_at, name_at}

-- ---- steps that don't fail

pub bind_some : {A B : Type 0} (o : Option A) (f : A → Option B) (y : B) → (o >>= f) ≡ Some y → (x : A) × (o ≡ Some x) × (f x ≡ Some y)
bind_some None f y e = absurd cc
bind_some (Some x) f y e = (x, refl, e)

abbrev pub some : {A : Type 0} → A → Option A
some x = Some x

pub some_is : {A : Type 0} (x y : A) → some x ≡ some y → x ≡ y
some_is x y e = cc

-- a test that didn't fail
pub tested : {A : Type 0} (b : Bool) (x y : A) → cond b (some x) None ≡ some y → (b ≡ true) × (x ≡ y)
tested true x y e = (refl, some_is x y e)
tested false x y e = absurd cc

-- ---- keywords

pub after_takes : (k bs r : List ℕ) → after k bs ≡ Some r → bs ≡ k ++ r
unfolding after
after_takes [] bs r e = some_is bs r e
after_takes (c ∷ k) [] r e = absurd cc
after_takes (c ∷ k) (b ∷ bs) r e = go (after_takes k bs r) (b == c) refl e
  where
    go : (after k bs ≡ Some r → bs ≡ k ++ r) → (t : Bool) → (b == c) ≡ t → cond t (after k bs) None ≡ some r → b ∷ bs ≡ c ∷ (k ++ r)
    go more false is e = absurd cc
    go more true is e =
        let head : b ≡ c = eqb-true b c is in
        let tail : bs ≡ k ++ r = more e in
        rw (head, tail) refl

pub after_again : (k r : List ℕ) → after k (k ++ r) ≡ Some r
unfolding after
after_again [] r = refl
after_again (c ∷ k) r = rw (eq-eqb c c refl) (after_again k r)

-- ---- words

abbrev pub Avoids : ℕ → List ℕ → Type 0
Avoids e = AllByRecursion (λ b. (b == e) ≡ false)

pub word_takes : (e : ℕ) (bs w r : List ℕ) → word_at e bs ≡ Some (w, r) → bs ≡ word w e ++ r
unfolding word_at
word_takes e [] w r is = absurd cc
word_takes e (b ∷ bs) w r is = go (word_takes e bs) (b == e) refl is
  where
    more : ((w r : List ℕ) → word_at e bs ≡ Some (w, r) → bs ≡ word w e ++ r) → (o : Option (List ℕ × List ℕ)) → word_at e bs ≡ o → option_map {U = List ℕ × List ℕ} (λ x. (b ∷ x.0, x.1)) o ≡ some (w, r) → b ∷ bs ≡ word w e ++ r
    more rest None was is = absurd cc
    more rest (Some x) was is =
        let same : (b ∷ x.0, x.1) ≡ (w, r) = some_is (b ∷ x.0, x.1) (w, r) is in
        subst (λ (y : List ℕ × List ℕ). b ∷ bs ≡ word y.0 e ++ y.1) same (ap (λ (t : List ℕ). b ∷ t) (rest x.0 x.1 was))

    go : ((w r : List ℕ) → word_at e bs ≡ Some (w, r) → bs ≡ word w e ++ r) → (t : Bool) → (b == e) ≡ t → cond t (some {A = List ℕ × List ℕ} ([], bs)) (option_map {U = List ℕ × List ℕ} (λ x. (b ∷ x.0, x.1)) (word_at e bs)) ≡ some (w, r) → b ∷ bs ≡ word w e ++ r
    go rest true at is =
        let same : ([], bs) ≡ (w, r) = some_is ([], bs) (w, r) is in
        subst (λ (y : List ℕ × List ℕ). b ∷ bs ≡ word y.0 e ++ y.1) same (ap (λ (c : ℕ). c ∷ bs) (eqb-true b e at))
    go rest false at is = more rest (word_at e bs) refl is

pub word_again : (e : ℕ) (w r : List ℕ) → Avoids e w → word_at e (word w e ++ r) ≡ Some (w, r)
unfolding word_at
word_again e [] r avoids = rw (eq-eqb e e refl) refl
word_again e (b ∷ w) r avoids = rw (avoids.0, word_again e w r avoids.1) refl

-- ---- numbers

abbrev AreDigits : List ℕ → Type 0
AreDigits ds = list_all is_ascii_digit ds ≡ true

pub own : IsNumeralModel AreDigits (read_on 0)
own = numerals_by_fold AreDigits (search rules) read_on (search rules)

pub record IsNumeral (w : List ℕ) : Type 0 where
  pub some : 0 < length w
  pub few : length w ≤ 19
  pub digits : AreDigits w
  pub first : begins_with_zero w ≡ true → length w ≡ 1

zero_alone : (a b : Bool) (P : Type 0) → (not a || b) ≡ true → (b ≡ true → P) → a ≡ true → P
zero_alone true b P e f is = f e
zero_alone false b P e f is = absurd cc

pub numeral : (w : List ℕ) → is_numeral w ≡ true → IsNumeral w
numeral w e =
    let p = and_parts (nat_lt 0 (length w)) (nat_le (length w) 19 && (list_all is_ascii_digit w && (not (begins_with_zero w) || (length w == 1)))) e in
    let q = and_parts (nat_le (length w) 19) (list_all is_ascii_digit w && (not (begins_with_zero w) || (length w == 1))) p.1 in
    let r = and_parts (list_all is_ascii_digit w) (not (begins_with_zero w) || (length w == 1)) q.1 in
    record {
      some = ltb-true 0 (length w) p.0;
      few = leb-true (length w) 19 q.0;
      digits = r.0;
      first = λ zero. zero_alone (begins_with_zero w) (length w == 1) (length w ≡ 1) r.1 (λ one. eqb-true (length w) 1 one) zero;
    }

zero_first : (w : List ℕ) → get_or w 0 0 ≡ 48 → begins_with_zero w ≡ true
zero_first [] e = absurd (omega (arith, e))
zero_first (b ∷ w) e = eq-eqb b 48 e

below_19 : (w : List ℕ) → IsNumeral w → read_on 0 w < 10 ^ 19
below_19 w n = digits_value_short own w 19 n.digits n.few

pub natural_takes : (w : List ℕ) (n : ℕ) → natural_of w ≡ Some n → (w ≡ decimal n) × (n < 10 ^ 19)
unfolding natural_of
natural_takes w n e =
    let t = tested (is_numeral w) (read_on 0 w) n e in
    let v = numeral w t.0 in
    let low = below_19 w v in
    let whole : decimal (read_on 0 w) ≡ w = decimal-digits_value own w v.digits v.some (λ zero. v.first (zero_first w zero)) (omega (arith, low)) in
    (sym whole ∙ ap decimal t.1, subst (λ (k : ℕ). k < 10 ^ 19) t.1 low)

no_zero : (w : List ℕ) → 48 < get_or w 0 0 → begins_with_zero w ≡ false
no_zero [] l = refl
no_zero (b ∷ w) l = ne_eqb b 48 (λ e. omega (arith, l, e))

canonical : (n : ℕ) → n < 10 ^ 19 → (not (begins_with_zero (decimal n)) || (length (decimal n) == 1)) ≡ true
canonical zero low = rw (decimal_digit 0 (omega arith)) refl
canonical (suc n) low = or_left _ _ (not_from_false _ (no_zero (decimal (suc n)) (first_decimal (suc n) (omega arith) (omega (arith, low)))))

pub natural_again : (n : ℕ) → n < 10 ^ 19 → natural_of (decimal n) ≡ Some n
unfolding natural_of
natural_again n low =
    let small : n < 2 ^ 64 = omega (arith, low) in
    let is : is_numeral (decimal n) ≡ true =
    and_from _ _ (lt-ltb _ _ (decimal_nonempty n small)) (and_from _ _ (le-leb _ _ (length-decimal-le 19 n (omega arith) low small)) (and_from _ _ (digits_decimal own n small) (canonical n low))) in
    cond-true (is_numeral (decimal n)) (Some (read_on 0 (decimal n))) None is ∙ ap some (digits_value-decimal own n small)

-- ---- numbers of 32 bits

pub number_of_takes : (w : List ℕ) (n : ℕ) → number_of w ≡ Some n → (w ≡ decimal n) × IsShort n
unfolding number_of
number_of_takes w n e =
    let a = bind_some (natural_of w) (λ k. cond (nat_lt k (2 ^ 32)) (Some k) None) n e in
    let t = tested (nat_lt a.0 (2 ^ 32)) a.0 n a.2 in
    (subst (λ (k : ℕ). w ≡ decimal k) t.1 (natural_takes w a.0 a.1).0, subst IsShort t.1 (ltb-true a.0 (2 ^ 32) t.0))

pub number_of_again : (n : ℕ) → IsShort n → number_of (decimal n) ≡ Some n
unfolding number_of
number_of_again n short = rw (natural_again n (omega (arith, short)), lt-ltb n (2 ^ 32) short) refl

-- ---- numbers with a sign

pub signed_of_takes : (w : List ℕ) (z : ℤ) → signed_of w ≡ Some z → (w ≡ signed_decimal z) × FitsSigned w64 z
unfolding signed_of
signed_of_takes [] z e = absurd cc
signed_of_takes (c ∷ cs) z e = go (c == 45) refl e
  where
    go : (t : Bool) → (c == 45) ≡ t → cond t (natural_of cs >>= opposite_in) (natural_of (c ∷ cs) >>= positive_in) ≡ some z → (c ∷ cs ≡ signed_decimal z) × FitsSigned w64 z
    go true at e =
        let a = bind_some (natural_of cs) opposite_in z e in
        let t = tested (nat_lt 0 a.0 && nat_le a.0 (2 ^ 63)) (negsuc (a.0 - 1)) z a.2 in
        let p = and_parts (nat_lt 0 a.0) (nat_le a.0 (2 ^ 63)) t.0 in
        let low : 0 < a.0 = ltb-true 0 a.0 p.0 in
        let high : a.0 ≤ 2 ^ 63 = leb-true a.0 (2 ^ 63) p.1 in
        let head : c ≡ 45 = eqb-true c 45 at in
        let tail : cs ≡ decimal (suc (a.0 - 1)) = (natural_takes cs a.0 a.1).0 ∙ ap decimal (omega (arith, low)) in
        let both : c ∷ cs ≡ 45 ∷ decimal (suc (a.0 - 1)) = ap (λ (h : ℕ). h ∷ cs) head ∙ ap (λ (t : List ℕ). 45 ∷ t) tail in
        subst (λ (y : ℤ). (c ∷ cs ≡ signed_decimal y) × FitsSigned w64 y) t.1 (both, omega (arith, low, high))
    go false at e =
        let a = bind_some (natural_of (c ∷ cs)) positive_in z e in
        let t = tested (nat_lt a.0 (2 ^ 63)) (pos a.0) z a.2 in
        subst (λ (y : ℤ). (c ∷ cs ≡ signed_decimal y) × FitsSigned w64 y) t.1 ((natural_takes (c ∷ cs) a.0 a.1).0, omega (arith, ltb-true a.0 (2 ^ 63) t.0))

pub signed_of_again : (z : ℤ) → FitsSigned w64 z → signed_of (signed_decimal z) ≡ Some z
unfolding signed_of
signed_of_again (negsuc k) fits =
    let low : k < 2 ^ 63 = omega (arith, fits) in
    let at : natural_of (decimal (suc k)) ≡ Some (suc k) = natural_again (suc k) (omega (arith, low)) in
    let t : (nat_lt 0 (suc k) && nat_le (suc k) (2 ^ 63)) ≡ true = and_from _ _ (lt-ltb 0 (suc k) (omega arith)) (le-leb (suc k) (2 ^ 63) (omega (arith, low))) in
    rw at (cond-true _ (Some (negsuc (suc k - 1))) None t ∙ ap (λ (n : ℕ). some (negsuc n)) (omega arith))
signed_of_again (pos n) fits = go (decimal n) refl
  where
    low : n < 2 ^ 63
    low = omega (arith, fits)

    at : natural_of (decimal n) ≡ Some n
    at = natural_again n (omega (arith, low))

    digit : (c : ℕ) (cs : List ℕ) → AreDigits (c ∷ cs) → (c == 45) ≡ false
    digit c cs all = let p = and_parts (is_ascii_digit c) (list_all is_ascii_digit cs) all in ne_eqb c 45 (λ e. grind (arith, nat_tests, p.0, e))

    go : (w : List ℕ) → decimal n ≡ w → signed_of w ≡ some (pos n)
    go [] is = absurd (omega (arith, decimal_nonempty n (omega (arith, low)), ap length is))
    go (c ∷ cs) is =
        let all : AreDigits (c ∷ cs) = subst AreDigits is (digits_decimal own n (omega (arith, low))) in
        let here : natural_of (c ∷ cs) ≡ Some n = subst (λ (w : List ℕ). natural_of w ≡ Some n) is at in
        rw (digit c cs all, here) (cond-true _ (Some (pos n)) None (lt-ltb n (2 ^ 63) low))

-- ---- what words avoid

pub record IsEnd (e : ℕ) : Type 0 where
  pub low : e < 45

pub digits_avoid : (e : ℕ) → IsEnd e → (w : List ℕ) → AreDigits w → Avoids e w
digits_avoid e end [] all = tt
digits_avoid e end (c ∷ cs) all =
    let p = and_parts (is_ascii_digit c) (list_all is_ascii_digit cs) all in
    (ne_eqb c e (λ is. grind (arith, nat_tests, p.0, is, end.low)), digits_avoid e end cs p.1)

pub signed_avoids : (e : ℕ) → IsEnd e → (z : ℤ) → FitsSigned w64 z → Avoids e (signed_decimal z)
signed_avoids e end (pos n) fits = digits_avoid e end (decimal n) (digits_decimal own n (omega (arith, fits)))
signed_avoids e end (negsuc k) fits = (ne_eqb 45 e (λ is. omega (arith, is, end.low)), digits_avoid e end (decimal (suc k)) (digits_decimal own (suc k) (omega (arith, fits))))

name_bytes_avoid : (e : ℕ) → IsEnd e → (w : List ℕ) → list_all is_name_byte w ≡ true → Avoids e w
name_bytes_avoid e end [] all = tt
name_bytes_avoid e end (c ∷ cs) all =
    let p = and_parts (is_name_byte c) (list_all is_name_byte cs) all in
    (ne_eqb c e (λ is. grind (arith, nat_tests, p.0, is, end.low)), name_bytes_avoid e end cs p.1)

pub name_avoids : (e : ℕ) → IsEnd e → (w : List ℕ) → is_name_text w ≡ true → Avoids e w
name_avoids e end [] is = tt
name_avoids e end (c ∷ cs) is =
    let p = and_parts (is_letter c) (list_all is_name_byte cs) is in
    (ne_eqb c e (λ same. grind (arith, nat_tests, p.0, same, end.low)), name_bytes_avoid e end cs p.1)

-- ---- words with their ends

pub number_takes : (e : ℕ) (bs : List ℕ) (n : ℕ) (r : List ℕ) → number_at e bs ≡ Some (n, r) → (bs ≡ number n e ++ r) × IsShort n
unfolding number_at
number_takes e bs n r is =
    let a = bind_some (word_at e bs) (λ w. number_of w.0 >>= λ k. Some (k, w.1)) (n, r) is in
    let b = bind_some (number_of a.0.0) (λ k. Some (k, a.0.1)) (n, r) a.2 in
    let t = number_of_takes a.0.0 b.0 b.1 in
    let whole : bs ≡ number b.0 e ++ a.0.1 = word_takes e bs a.0.0 a.0.1 a.1 ∙ ap (λ (w : List ℕ). word w e ++ a.0.1) t.0 in
    subst (λ (y : ℕ × List ℕ). (bs ≡ number y.0 e ++ y.1) × IsShort y.0) (some_is (b.0, a.0.1) (n, r) b.2) (whole, t.1)

pub number_again : (e : ℕ) → IsEnd e → (n : ℕ) (r : List ℕ) → IsShort n → number_at e (number n e ++ r) ≡ Some (n, r)
unfolding number_at
number_again e end n r short = rw (word_again e (decimal n) r (digits_avoid e end (decimal n) (digits_decimal own n (omega (arith, short)))), number_of_again n short) refl

pub signed_takes : (e : ℕ) (bs : List ℕ) (z : ℤ) (r : List ℕ) → signed_at e bs ≡ Some (z, r) → (bs ≡ signed z e ++ r) × FitsSigned w64 z
unfolding signed_at
signed_takes e bs z r is =
    let a = bind_some (word_at e bs) (λ w. signed_of w.0 >>= λ k. Some (k, w.1)) (z, r) is in
    let b = bind_some (signed_of a.0.0) (λ k. Some (k, a.0.1)) (z, r) a.2 in
    let t = signed_of_takes a.0.0 b.0 b.1 in
    let whole : bs ≡ signed b.0 e ++ a.0.1 = word_takes e bs a.0.0 a.0.1 a.1 ∙ ap (λ (w : List ℕ). word w e ++ a.0.1) t.0 in
    subst (λ (y : ℤ × List ℕ). (bs ≡ signed y.0 e ++ y.1) × FitsSigned w64 y.0) (some_is (b.0, a.0.1) (z, r) b.2) (whole, t.1)

pub signed_again : (e : ℕ) → IsEnd e → (z : ℤ) (r : List ℕ) → FitsSigned w64 z → signed_at e (signed z e ++ r) ≡ Some (z, r)
unfolding signed_at
signed_again e end z r fits = rw (word_again e (signed_decimal z) r (signed_avoids e end z fits), signed_of_again z fits) refl

pub name_takes : (e : ℕ) (bs n r : List ℕ) → name_at e bs ≡ Some (n, r) → (bs ≡ word n e ++ r) × IsName n
unfolding name_at name_of
name_takes e bs n r is =
    let a = bind_some (word_at e bs) (λ w. name_of w.0 >>= λ k. Some (k, w.1)) (n, r) is in
    let b = bind_some (name_of a.0.0) (λ k. Some (k, a.0.1)) (n, r) a.2 in
    let t = tested (is_name_text a.0.0) a.0.0 b.0 b.1 in
    let whole : bs ≡ word b.0 e ++ a.0.1 = word_takes e bs a.0.0 a.0.1 a.1 ∙ ap (λ (w : List ℕ). word w e ++ a.0.1) t.1 in
    let fits : IsName b.0 = subst IsName t.1 t.0 in
    subst (λ (y : List ℕ × List ℕ). (bs ≡ word y.0 e ++ y.1) × IsName y.0) (some_is (b.0, a.0.1) (n, r) b.2) (whole, fits)

pub name_again : (e : ℕ) → IsEnd e → (n r : List ℕ) → IsName n → name_at e (word n e ++ r) ≡ Some (n, r)
unfolding name_at name_of
name_again e end n r is = rw (word_again e n r (name_avoids e end n is), is) refl
