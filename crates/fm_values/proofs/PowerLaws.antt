-- Powers of 0, 1 and -1, and of other numbers, which leave the range soon.
use Rattle.std.proofs.Common.{◌≡◌, ℕ, zero, suc, ◌≤◌, ◌^◌, ◌%◌, ◌==◌, true, false, cond, refl, ap, ◌∙◌, arith, pos, negsuc, ℤ, neg_ℤ, Ok, Err}
use Rattle.std.specs.Prelude.{unsigned_abs, int_div, ◌<ℤ◌, ◌≤ℤ◌}
use Rattle.std.specs.Int.{int_pow}
use Rattle.std.proofs.lemmas.Bool.Decides.{nat_tests}
use Rattle.std.proofs.lemmas.Int.{ints}
use Rattle.std.proofs.Math.Nat.{pow-succ', pow-le-pow_left, pow-le-pow_right, div-eq_of_lt}
use Rattle.fm_base.specs.declared.fault.Fault.TheVariants.{Overflow, ZeroDivide}
use Rattle.fm_values.specs.Values.{in_range, quotient, power}
use Rattle.fm_values.proofs.ZeroTests.{divided}

one_pow : (n : ℕ) → 1 ^ n ≡ 1
one_pow zero = refl
one_pow (suc n) = omega (arith, pow-succ' 1 n, one_pow n)

zero_pow : (n : ℕ) → 0 ^ suc n ≡ 0
zero_pow n = omega (arith, pow-succ' 0 n)

pub one_power : (b : ℤ) → power (pos 1) b ≡ Ok (pos 1)
one_power (pos n) = ap (λ m. in_range (pos m)) (one_pow n)
one_power (negsuc n) = ap (λ m. quotient (pos 1) (pos m)) (one_pow (suc n))

pub zero_power_below : (b : ℤ) → b <ℤ pos 0 → power (pos 0) b ≡ Err ZeroDivide
zero_power_below (pos n) h = absurd (omega (arith, ints, h))
zero_power_below (negsuc n) h = ap (λ m. quotient (pos 1) (pos m)) (zero_pow n)

pub zero_power_above : (b : ℤ) → pos 0 <ℤ b → power (pos 0) b ≡ Ok (pos 0)
zero_power_above (pos zero) h = absurd (omega (arith, ints, h))
zero_power_above (pos (suc n)) h = ap (λ m. in_range (pos m)) (zero_pow n)
zero_power_above (negsuc n) h = absurd (omega (arith, ints, h))

minus_one_pow : (n : ℕ) → int_pow (negsuc 0) n ≡ cond (n % 2 == 0) (pos 1) (negsuc 0)
minus_one_pow n = ap (λ m. cond (n % 2 == 0) (pos m) (neg_ℤ (pos m))) (one_pow n)

pub minus_one_power : (b : ℤ) → power (negsuc 0) b ≡ cond (unsigned_abs b % 2 == 0) (Ok (pos 1)) (Ok (negsuc 0))
minus_one_power (pos n) = ap in_range (minus_one_pow n) ∙ (elim (n % 2 == 0) as (λ t. in_range (cond t (pos 1) (negsuc 0)) ≡ cond t (Ok (pos 1)) (Ok (negsuc 0))) [ true ↦ refl | false ↦ refl ])
minus_one_power (negsuc n) = ap (quotient (pos 1)) (minus_one_pow (suc n)) ∙ (elim (suc n % 2 == 0) as (λ t. quotient (pos 1) (cond t (pos 1) (negsuc 0)) ≡ cond t (Ok (pos 1)) (Ok (negsuc 0))) [ true ↦ refl | false ↦ refl ])

abs_pow : (a : ℤ) (n : ℕ) → unsigned_abs (int_pow a n) ≡ unsigned_abs a ^ n
abs_pow (pos a) n = refl
abs_pow (negsuc a) n = elim (n % 2 == 0) as (λ t. unsigned_abs (cond t (pos (suc a ^ n)) (neg_ℤ (pos (suc a ^ n)))) ≡ suc a ^ n) [ true ↦ refl | false ↦ abs_neg (suc a ^ n) ]
  where
    abs_neg : (m : ℕ) → unsigned_abs (neg_ℤ (pos m)) ≡ m
    abs_neg zero = refl
    abs_neg (suc m) = refl

-- out of range
beyond : (z : ℤ) → 2 ^ 64 ≤ unsigned_abs z → in_range z ≡ Err Overflow
beyond (pos n) h = grind (arith, nat_tests)
beyond (negsuc n) h = grind (arith, nat_tests)

less_than_one : (z : ℤ) → 2 ≤ unsigned_abs z → int_div (pos 1) z ≡ pos 0
less_than_one (pos m) h = ap pos (div-eq_of_lt {n = 1} {m = m} h)
less_than_one (negsuc m) h = ap (λ q. neg_ℤ (pos q)) (div-eq_of_lt {n = 1} {m = suc m} h)

half : (z : ℤ) → 2 ≤ unsigned_abs z → quotient (pos 1) z ≡ Ok (pos 0)
half z h = divided z (in_range (int_div (pos 1) z)) (omega (arith, h)) ∙ ap in_range (less_than_one z h)

pub large_power_below : (a b : ℤ) → 2 ≤ unsigned_abs a → b <ℤ pos 0 → power a b ≡ Ok (pos 0)
large_power_below a (pos n) h e = absurd (omega (arith, ints, e))
large_power_below a (negsuc n) h e = half (int_pow a (suc n)) (omega (arith, abs_pow a (suc n), pow-le-pow_left h (suc n), pow-le-pow_right {n = 2} (omega arith) {i = 1} {j = suc n} (omega arith)))

pub large_power_above : (a b : ℤ) → 2 ≤ unsigned_abs a → pos 64 ≤ℤ b → power a b ≡ Err Overflow
large_power_above a (pos n) h e = beyond (int_pow a n) (omega (arith, abs_pow a n, pow-le-pow_left h n, pow-le-pow_right {n = 2} (omega arith) {i = 64} {j = n} (omega (arith, ints, e))))
large_power_above a (negsuc n) h e = absurd (omega (arith, ints, e))
