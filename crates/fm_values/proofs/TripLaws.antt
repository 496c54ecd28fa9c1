-- Trips by way of the distance from the first value to the last.
use Rattle.std.proofs.Common.{◌≡◌, ℕ, zero, suc, ◌+◌, ◌<◌, ◌≤◌, ◌/◌, cond, refl, ap, ◌∙◌, arith, pos, negsuc, ℤ, neg_ℤ, Ok, Err, Some, None}
use Rattle.std.specs.Prelude.{unsigned_abs, int_div, ◌+ℤ◌, ◌-ℤ◌, ◌<ℤ◌, ◌≤ℤ◌}
use Rattle.std.proofs.lemmas.Int.{ints}
use Rattle.std.proofs.Math.Nat.{add-div_right, div-eq_of_lt}
use Rattle.fm_base.specs.declared.fault.Fault.TheVariants.{ZeroDivide}
use Rattle.fm_values.specs.Trips.{natural, trips, behind_first, trips_behind}
use Rattle.fm_values.proofs.ZeroTests.{not_zero}

not_negative : (q : ℕ) → natural (neg_ℤ (pos q)) ≡ 0
not_negative zero = refl
not_negative (suc q) = refl

-- less than the increment
short_up : (x : ℤ) (s : ℕ) → x <ℤ pos s → natural (int_div x (pos s)) ≡ 0
short_up (pos n) s h = div-eq_of_lt {n = n} {m = s} (omega (arith, ints, h))
short_up (negsuc n) s h = not_negative (suc n / s)

short_down : (x : ℤ) (t : ℕ) → negsuc t <ℤ x → natural (int_div x (negsuc t)) ≡ 0
short_down (pos n) t h = not_negative (n / suc t)
short_down (negsuc n) t h = div-eq_of_lt {n = suc n} {m = suc t} (omega (arith, ints, h))

far_up : (z : ℤ) (s : ℕ) → 0 < s → pos 0 ≤ℤ z → natural (int_div (z +ℤ pos s) (pos s)) ≡ suc (unsigned_abs z / s)
far_up (pos d) s p h = omega (arith, add-div_right d p)
far_up (negsuc d) s p h = absurd (omega (arith, ints, h))

far_down : (z : ℤ) (t : ℕ) → z ≤ℤ pos 0 → natural (int_div (z +ℤ negsuc t) (negsuc t)) ≡ suc (unsigned_abs z / suc t)
far_down z t h =
    let e : z +ℤ negsuc t ≡ negsuc (unsigned_abs z + t) = omega (arith, ints, h) in
    let f : suc (unsigned_abs z + t) ≡ unsigned_abs z + suc t = omega arith in
    ap (λ x. natural (int_div x (negsuc t))) e ∙ ap (λ n. n / suc t) f ∙ omega (arith, add-div_right (unsigned_abs z) {k = suc t} (omega arith))

-- a loop with an increment
behind : (a b s : ℤ) (n : ℕ) → 1 ≤ unsigned_abs s → trips a b s ≡ n → trips_behind a b s ≡ Ok (behind_first n)
behind a b s n h e = ap (λ t. cond t (Err ZeroDivide) (Ok (behind_first (trips a b s)))) (not_zero s h) ∙ ap (λ m. Ok (behind_first m)) e

pub trips_up : (a b s : ℤ) → pos 0 <ℤ s → a ≤ℤ b → trips_behind a b s ≡ Ok (Some (unsigned_abs (b -ℤ a) / unsigned_abs s))
trips_up a b (pos s) p h = behind a b (pos s) (suc (unsigned_abs (b -ℤ a) / s)) (omega (arith, ints, p)) (far_up (b -ℤ a) s (omega (arith, ints, p)) (omega (arith, ints, h)))
trips_up a b (negsuc t) p h = absurd (omega (arith, ints, p))

pub no_trips_up : (a b s : ℤ) → pos 0 <ℤ s → b <ℤ a → trips_behind a b s ≡ Ok None
no_trips_up a b (pos s) p h = behind a b (pos s) 0 (omega (arith, ints, p)) (short_up ((b -ℤ a) +ℤ pos s) s (omega (arith, ints, h)))
no_trips_up a b (negsuc t) p h = absurd (omega (arith, ints, p))

pub trips_down : (a b s : ℤ) → s <ℤ pos 0 → b ≤ℤ a → trips_behind a b s ≡ Ok (Some (unsigned_abs (a -ℤ b) / unsigned_abs s))
trips_down a b (pos s) p h = absurd (omega (arith, ints, p))
trips_down a b (negsuc t) p h =
    let e : unsigned_abs (b -ℤ a) ≡ unsigned_abs (a -ℤ b) = omega (arith, ints) in
    behind a b (negsuc t) (suc (unsigned_abs (a -ℤ b) / suc t)) (omega arith) (far_down (b -ℤ a) t (omega (arith, ints, h)) ∙ ap (λ n. suc (n / suc t)) e)

pub no_trips_down : (a b s : ℤ) → s <ℤ pos 0 → a <ℤ b → trips_behind a b s ≡ Ok None
no_trips_down a b (pos s) p h = absurd (omega (arith, ints, p))
no_trips_down a b (negsuc t) p h = behind a b (negsuc t) 0 (omega arith) (short_down ((b -ℤ a) +ℤ negsuc t) t (omega (arith, ints, h)))

pub no_step : (a b s : ℤ) → pos 0 ≤ℤ s → s ≤ℤ pos 0 → trips_behind a b s ≡ Err ZeroDivide
no_step a b (pos zero) h k = refl
no_step a b (pos (suc n)) h k = absurd (omega (arith, ints, k))
no_step a b (negsuc n) h k = absurd (omega (arith, ints, h))
