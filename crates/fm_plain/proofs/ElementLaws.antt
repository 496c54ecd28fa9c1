-- The elements of spans, one by one.
use Rattle.std.proofs.Common.{◌≡◌, ℕ, suc, ◌+◌, ◌-◌, ◌<◌, List, [], ◌∷◌, ◌++◌, ap, ◌∙◌, arith, append_assoc}
use Rattle.fm_mean.specs.declared.place.Span.{Span}
use Rattle.fm_mean.specs.Actions.{elements_from}
use Rattle.fm_mean.specs.Evaluate.{single}

pub one_element : (ps qs all : List Span) (i k e n : ℕ) (s : Span) → e < n → ps ≡ qs ++ s ∷ [] → s ≡ single i (k + e) → qs ++ elements_from i (k + e) (n - e) ≡ all → ps ++ elements_from i (k + (e + 1)) (n - (e + 1)) ≡ all
one_element ps qs all i k e n s l is one h =
    let count : suc (n - (e + 1)) ≡ n - e = omega arith in
    let next : k + (e + 1) ≡ suc (k + e) = omega arith in
    ap (λ (xs : List Span). xs ++ elements_from i (k + (e + 1)) (n - (e + 1))) is
    ∙ (append_assoc qs (s ∷ []) (elements_from i (k + (e + 1)) (n - (e + 1)))
    ∙ (ap (λ (x : Span). qs ++ x ∷ elements_from i (k + (e + 1)) (n - (e + 1))) one
    ∙ (ap (λ (m : ℕ). qs ++ single i (k + e) ∷ elements_from i m (n - (e + 1))) next
    ∙ (ap (λ (m : ℕ). qs ++ elements_from i (k + e) m) count ∙ h))))
