-- A test that decides whether two values are the same is exact.
use Rattle.std.specs.Prelude.{◌≡◌, ℕ, ℤ, Bool, true, false, List, nat_eq}
use Rattle.std.specs.Bool.{Decides}
use Rattle.std.specs.Ordering.{int_eq}
use Rattle.std.specs.Cmp.Lexicographic.{pointwise, pointwise_decides, bytes_decides}
use Rattle.std.proofs.Common.{sym, ◌∙◌}
use Rattle.std.proofs.lemmas.Bool.{false≢true}
use Rattle.std.proofs.lemmas.Bool.Decides.{Decides-int_eq}
use Rattle.fm_same.specs.Same.{IsSameTest}

pub exact_by : {T : Type 0} (r s : Bool) (a b : T) → r ≡ s → Decides s (a ≡ b) → IsSameTest r a b
exact_by true s a b e d = d.0 (sym e)
exact_by false s a b e d = λ h. false≢true (e ∙ d.1 h)

pub exact_words : (r : Bool) (xs ys : List ℤ) → r ≡ pointwise int_eq xs ys → IsSameTest r xs ys
exact_words r xs ys e = exact_by r (pointwise int_eq xs ys) xs ys e (pointwise_decides Decides-int_eq xs ys)

pub exact_numbers : (r : Bool) (xs ys : List ℕ) → r ≡ pointwise nat_eq xs ys → IsSameTest r xs ys
exact_numbers r xs ys e = exact_by r (pointwise nat_eq xs ys) xs ys e (bytes_decides xs ys)
