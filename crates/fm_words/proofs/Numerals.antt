-- The value of a numeral, as `parse` reads it.
use Rattle.std.proofs.Common.{◌≡◌, ℕ, ◌-◌, ◌^◌, ◌<◌, ◌≤◌, Bool, true, false, cond, ◌&&◌, List, [], ◌∷◌, length, drop, ◌==◌, nat_lt, nat_le, refl, ap, sym, subst, ◌∙◌, arith}
use Rattle.std.specs.Prelude.{Some, None, Result, Ok, Err}
use Rattle.std.specs.List.{list_all}
use Rattle.std.specs.Char.{digit_value, is_ascii_digit}
use Rattle.std.specs.Result.{OkIff, result_ok}
use Rattle.std.specs.Str.Parse.{digits_value, AllDigits, IsNumeral, ParsesUnsigned, without_leading_plus}
use Rattle.std.proofs.lemmas.Bool.Decides.{nat_tests}
use Rattle.std.proofs.lemmas.Int.Digits.{digits_value-lt}
use Rattle.std.proofs.Math.Nat.{pow-le-pow_right}
use Rattle.fm_words.specs.Words.{is_numeral, number_of}

pub digit : (c : ℕ) → is_ascii_digit c ≡ true → (digit_value c ≡ c - 48) × (48 ≤ c) × (c < 58)
digit c e = grind (arith, nat_tests)

pub both_true : (a b : Bool) → (a && b) ≡ true → (a ≡ true) × (b ≡ true)
both_true true b e = (refl, e)
both_true false b e = cc

all_digits : (ds : List ℕ) → list_all is_ascii_digit ds ≡ true → AllDigits 10 ds
all_digits [] e = tt
all_digits (d ∷ ds) e =
    let p = both_true (is_ascii_digit d) (list_all is_ascii_digit ds) e in
    let q = digit d p.0 in
    (omega (arith, q.0, q.1, q.2), all_digits ds p.1)

-- 1 to 18 digits
pub record IsShort (ds : List ℕ) : Type 0 where
  pub some : 0 < length ds
  pub few : length ds ≤ 18
  pub digits : list_all is_ascii_digit ds ≡ true

pub short : (ds : List ℕ) → is_numeral ds ≡ true → IsShort ds
short ds e =
    let p = both_true (nat_lt 0 (length ds) && nat_le (length ds) 18) (list_all is_ascii_digit ds) e in
    let q = both_true (nat_lt 0 (length ds)) (nat_le (length ds) 18) p.0 in
    record { some = grind (arith, nat_tests); few = grind (arith, nat_tests); digits = p.1 }

no_sign : (d : ℕ) (ds : List ℕ) (b : Bool) → b ≡ false → drop (cond b 1 0) (d ∷ ds) ≡ d ∷ ds
no_sign d ds true e = cc
no_sign d ds false e = refl

unsigned : (ds : List ℕ) → list_all is_ascii_digit ds ≡ true → without_leading_plus ds ≡ ds
unsigned [] e = refl
unsigned (d ∷ ds) e =
    let q = digit d (both_true (is_ascii_digit d) (list_all is_ascii_digit ds) e).0 in
    no_sign d ds (d == 43) (grind (arith, nat_tests, q.1))

small : (ds : List ℕ) → IsShort ds → digits_value 10 ds < 2 ^ 64
small ds s =
    let less : digits_value 10 ds < 10 ^ length ds = digits_value-lt 10 ds (all_digits ds s.digits) in
    let most : 10 ^ length ds ≤ 10 ^ 18 = pow-le-pow_right (omega arith) s.few in
    omega arith

reads : {E : Type 0} (n : ℕ) (P : Type 0) (r : Result ℕ E) → P → OkIff r P n → result_ok r ≡ Some n
reads n P (Ok x) p h = ap Some h.1
reads n P (Err e) p h = absurd (h p)

pub parsed : {E : Type 0} (ds : List ℕ) (r : Result ℕ E) → is_numeral ds ≡ true → ParsesUnsigned 64 10 ds r → result_ok r ≡ number_of ds
parsed ds r e h =
    let s = short ds e in
    let plain = unsigned ds s.digits in
    let same = subst (λ (t : List ℕ). OkIff r (IsNumeral 10 t × (digits_value 10 t < 2 ^ 64)) (digits_value 10 t)) plain h in
    reads (digits_value 10 ds) (IsNumeral 10 ds × (digits_value 10 ds < 2 ^ 64)) r ((s.some, all_digits ds s.digits), small ds s) same
    ∙ sym (ap (λ (b : Bool). cond b (Some (digits_value 10 ds)) None) e)
