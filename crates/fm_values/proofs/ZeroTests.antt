-- Tests of a divisor.
use Rattle.std.proofs.Common.{◌≡◌, ◌≤◌, ℤ, pos, Bool, true, false, cond, refl, ap, arith, Err}
use Rattle.std.specs.Prelude.{unsigned_abs, Result}
use Rattle.std.specs.Ordering.{int_eq}
use Rattle.std.proofs.lemmas.Bool.Decides.{Decides-int_eq}
use Rattle.fm_base.specs.declared.fault.Fault.{Fault}
use Rattle.fm_base.specs.declared.fault.Fault.TheVariants.{ZeroDivide}
use Rattle.fm_values.specs.Values.{unless_zero}

false_of : (t : Bool) → (t ≡ true → ⊥) → t ≡ false
false_of true h = absurd (h refl)
false_of false h = refl

pub not_zero : (y : ℤ) → 1 ≤ unsigned_abs y → int_eq y (pos 0) ≡ false
not_zero y h = false_of (int_eq y (pos 0)) (λ e. let d : y ≡ pos 0 = (Decides-int_eq y (pos 0)).0 e in omega (arith, h, ap unsigned_abs d))

pub divided : (y : ℤ) (r : Result ℤ Fault) → 1 ≤ unsigned_abs y → unless_zero y r ≡ r
divided y r h = ap (λ t. cond t (Err ZeroDivide) r) (not_zero y h)
