-- Lists of numbers, each once.
use Rattle.std.proofs.Common.{◌≡◌, inl, inr, ℕ, zero, suc, ◌<◌, ◌≤◌, Bool, true, cond, not, ◌==◌, List, [], ◌∷◌, length, filter, eq-eqb, refl, sym, ap, ◌∙◌, subst, arith}
use Rattle.std.specs.Prelude.{Some, slice_get}
use Rattle.std.proofs.lemmas.Bool.{ne_eqb}
use Rattle.fm_run.specs.Orders.{Among, EachOnce, others_in}
use Rattle.fm_run.proofs.Numbers.{filter_among, in_filter, not_own, once_filter}
use native.Mathlib.Decide.{ℕ_discrete}

pub filter_all : (p : ℕ → Bool) (xs : List ℕ) → ((n : ℕ) → Among n xs → p n ≡ true) → filter p xs ≡ xs
filter_all p [] all = refl
filter_all p (x ∷ xs) all = ap (λ (b : Bool). cond b (x ∷ filter p xs) (filter p xs)) (all x (inl refl)) ∙ ap (λ (ns : List ℕ). x ∷ ns) (filter_all p xs (λ n h. all n (inr h)))

-- who isn't in the list isn't taken out
pub others_all : (own : ℕ) (ns : List ℕ) → (Among own ns → ⊥) → others_in own ns ≡ ns
others_all own ns none = filter_all (λ n. not (n == own)) ns (λ n h. ap not (ne_eqb n own (λ e. none (subst (λ (m : ℕ). Among m ns) e h))))

-- the first one is taken out
pub others_rest : (own : ℕ) (ns : List ℕ) → EachOnce (own ∷ ns) → others_in own (own ∷ ns) ≡ ns
others_rest own ns once =
    ap (λ (b : Bool). cond b (own ∷ others_in own ns) (others_in own ns)) (not_own own) ∙ others_all own ns once.0

fewer : (m : ℕ) (ns : List ℕ) → EachOnce ns → length ns ≤ suc (length (others_in m ns))
fewer m [] once = omega arith
fewer m (n ∷ ns) once = elim (ℕ_discrete n m) [
  | yes same ↦
      let e : others_in m (n ∷ ns) ≡ ns = subst (λ (k : ℕ). others_in k (n ∷ ns) ≡ ns) same (others_rest n ns once) in
      omega (arith, ap length e)
  | no differs ↦
      let e : others_in m (n ∷ ns) ≡ n ∷ others_in m ns = ap (λ (b : Bool). cond (not b) (n ∷ others_in m ns) (others_in m ns)) (ne_eqb n m differs) in
      omega (arith, ap length e, fewer m ns once.1)
]

-- numbers below m, each once, are at most m
pub at_most : (m : ℕ) (ns : List ℕ) → EachOnce ns → ((n : ℕ) → Among n ns → n < m) → length ns ≤ m
at_most zero [] once low = omega arith
at_most zero (n ∷ ns) once low = absurd (omega (arith, low n (inl refl)))
at_most (suc m) ns once low =
    let rest = others_in m ns in
    let below : (n : ℕ) → Among n rest → n < m = λ n h.
    below_top n m (low n (in_filter (λ k. not (k == m)) ns n h)) (λ e. cc (sym (filter_among (λ k. not (k == m)) ns n h) ∙ ap not (eq-eqb n m e))) in
    omega (arith, fewer m ns once, at_most m rest (once_filter (λ k. not (k == m)) ns once) below)
  where
    below_top : (n m : ℕ) → n < suc m → (n ≡ m → ⊥) → n < m
    below_top n m h differs = elim (ℕ_discrete n m) [
      | yes e ↦ absurd (differs e)
      | no d ↦ omega (arith, d)
    ]

-- where a number stands
pub place_in : (ns : List ℕ) (n : ℕ) → Among n ns → (i : ℕ) × (i < length ns) × (slice_get ns i ≡ Some n)
place_in [] n h = absurd h
place_in (m ∷ ns) n (inl e) = (0, omega arith, ap Some (sym e))
place_in (m ∷ ns) n (inr h) = let k = place_in ns n h in (suc k.0, omega (arith, k.1), k.2)
