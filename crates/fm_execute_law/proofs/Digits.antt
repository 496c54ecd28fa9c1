-- Digits of numbers of any size: what they avoid, and of which number they are.
use Rattle.std.proofs.Common.{◌≡◌, ℕ, zero, suc, ◌+◌, ◌/◌, ◌%◌, ◌^◌, ◌<◌, ◌≤◌, Bool, true, false, ◌==◌, nat_lt, cond, List, [], ◌∷◌, length, refl, sym, ap, ◌∙◌, subst, arith}
use Rattle.std.specs.Prelude.{ℤ, pos, negsuc}
use Rattle.std.specs.Fmt.{decimal, digit_glyph, digits, digits_onto, signed_decimal}
use Rattle.std.specs.Int.{w64}
use Rattle.std.specs.Int.RustNames.{FitsSigned}
use Rattle.std.specs.Str.Parse.{digits_value}
use Rattle.std.proofs.Math.Nat.{pow-suc}
use Rattle.std.proofs.lemmas.Bool.{eqb-true, ltb-false, ltb-true, ne_eqb}
use Rattle.std.proofs.lemmas.Fmt.{decimal_is_IsNumeral_wide, length-decimal-le}
use Rattle.fm_object.proofs.WordLaws.{Avoids}

-- ---- what digits avoid

glyph_avoids : (e d : ℕ) → e < 48 → (digit_glyph false d == e) ≡ false
glyph_avoids e d low = go (nat_lt d 10)
  where
    go : (t : Bool) → (cond t (48 + d) (87 + d) == e) ≡ false
    go true = ne_eqb (48 + d) e (λ is. omega (arith, low, is))
    go false = ne_eqb (87 + d) e (λ is. omega (arith, low, is))

onto_avoids : (e : ℕ) → e < 48 → (k n : ℕ) (acc : List ℕ) → Avoids e acc → Avoids e (digits_onto k 10 false n acc)
onto_avoids e low zero n acc h = h
onto_avoids e low (suc k) n acc h =
    let d = digit_glyph false (n % 10) in
    let more : Avoids e (d ∷ acc) = (glyph_avoids e (n % 10) low, h) in
    go (n / 10 == 0) (d ∷ acc) (digits_onto k 10 false (n / 10) (d ∷ acc)) more (onto_avoids e low k (n / 10) (d ∷ acc) more)
  where
    go : (t : Bool) (ds es : List ℕ) → Avoids e ds → Avoids e es → Avoids e (cond t ds es)
    go true ds es a b = a
    go false ds es a b = b

pub decimal_avoids : (e n : ℕ) → e < 48 → Avoids e (decimal n)
unfolding digits
decimal_avoids e n low = onto_avoids e low 64 n [] tt

pub signed_avoids : (e : ℕ) → e < 45 → (z : ℤ) → Avoids e (signed_decimal z)
signed_avoids e low (pos n) = decimal_avoids e n (omega (arith, low))
signed_avoids e low (negsuc n) = (ne_eqb 45 e (λ is. omega (arith, low, is)), decimal_avoids e (suc n) (omega (arith, low)))

-- ---- how many they are

some_power : (k : ℕ) → 1 ≤ 10 ^ k
some_power zero = omega arith
some_power (suc k) = omega (arith, pow-suc 10 k, some_power k)

onto_long : (k n : ℕ) (acc : List ℕ) → 10 ^ k ≤ n → k + length acc ≤ length (digits_onto k 10 false n acc)
onto_long zero n acc high = omega arith
onto_long (suc k) n acc high =
    let d = digit_glyph false (n % 10) in
    let tenth : 10 ^ k ≤ n / 10 = omega (arith, high, pow-suc 10 k) in
    go (n / 10 == 0) refl (digits_onto k 10 false (n / 10) (d ∷ acc)) tenth (onto_long k (n / 10) (d ∷ acc) tenth)
  where
    go : (t : Bool) → (n / 10 == 0) ≡ t → (ds : List ℕ) → 10 ^ k ≤ n / 10 → k + suc (length acc) ≤ length ds → suc k + length acc ≤ length (cond t (digit_glyph false (n % 10) ∷ acc) ds)
    go true is ds tenth long = absurd (omega (arith, eqb-true (n / 10) 0 is, tenth, some_power k))
    go false is ds tenth long = omega (arith, long)

decimal_long : (n : ℕ) → 10 ^ 64 ≤ n → 64 + 0 ≤ length (decimal n)
unfolding digits
decimal_long n high = onto_long 64 n [] high

-- ---- of which number they are

pub same_decimal : (a b : ℕ) → b < 2 ^ 64 → decimal a ≡ decimal b → a ≡ b
same_decimal a b low e = go (nat_lt a (10 ^ 64)) refl
  where
    go : (t : Bool) → nat_lt a (10 ^ 64) ≡ t → a ≡ b
    go true is = sym (decimal_is_IsNumeral_wide a (ltb-true a (10 ^ 64) is)).1 ∙ ap (digits_value 10) e ∙ (decimal_is_IsNumeral_wide b (omega (arith, low))).1
    go false is = absurd (omega (arith, decimal_long a (ltb-false a (10 ^ 64) is), ap length e, length-decimal-le 20 b (omega arith) (omega (arith, low)) low))

-- a sign is no digit
no_sign : (n : ℕ) (ds : List ℕ) → decimal n ≡ 45 ∷ ds → ⊥
no_sign n ds e =
    let avoids : Avoids 45 (45 ∷ ds) = subst (Avoids 45) e (decimal_avoids 45 n (omega arith)) in
    let never : true ≡ false = avoids.0 in
    cc never

pub same_signed : (y z : ℤ) → FitsSigned w64 z → signed_decimal y ≡ signed_decimal z → y ≡ z
same_signed (pos m) (pos n) fits e = ap pos (same_decimal m n (omega (arith, fits)) e)
same_signed (pos m) (negsuc n) fits e = absurd (no_sign m (decimal (suc n)) e)
same_signed (negsuc m) (pos n) fits e = absurd (no_sign n (decimal (suc m)) (sym e))
same_signed (negsuc m) (negsuc n) fits e =
    let digits : decimal (suc m) ≡ decimal (suc n) = cc e in
    let same : suc m ≡ suc n = same_decimal (suc m) (suc n) (omega (arith, fits)) digits in
    ap negsuc (omega (arith, same))
