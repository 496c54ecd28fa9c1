-- The least line of a fact, when one line more is looked at.
use Rattle.std.proofs.Common.{◌≡◌, ℕ, ◌<◌, ◌≤◌, ◌⊎◌, inl, inr, ⊎_elim, Bool, true, false, Option, Some, None, ltb, refl, sym, subst, arith}
use Rattle.std.specs.Prelude.{MatchOption}
use Rattle.std.proofs.lemmas.Bool.{cases_lt, cond-false, cond-true, le-ltb, lt-ltb}
use Rattle.fm_base.specs.declared.name.Line.{Line}
use Rattle.fm_call_graph.specs.Least.{lower, lower_if}

pub record IsLow (P : ℕ → Type 0) (line : Line) : Type 0 where
  pub here : P line.0
  pub least : (k : ℕ) → P k → line.0 ≤ k

abbrev pub IsLowest : (ℕ → Type 0) → Option Line → Type 0
IsLowest P best = MatchOption best ((k : ℕ) → ¬ P k) (IsLow P)

pub lowest_same : (P Q : ℕ → Type 0) → ((k : ℕ) → P k → Q k) → ((k : ℕ) → Q k → P k) → (best : Option Line) → IsLowest P best → IsLowest Q best
lowest_same P Q pq qp None h = λ k x. h k (qp k x)
lowest_same P Q pq qp (Some b) h = record { here = pq b.0 h.here; least = λ k x. h.least k (qp k x) }

lowest_more : (P : ℕ → Type 0) (best : Option Line) (line : Line) → IsLowest P best → IsLowest (λ k. P k ⊎ (line.0 ≡ k)) (lower best line)
lowest_more P None line h = record { here = inr refl; least = λ k x. ⊎_elim (λ (p : P k). absurd (h k p)) (λ (e : line.0 ≡ k). omega (arith, e)) x }
lowest_more P (Some b) line h =
    let Q : ℕ → Type 0 = λ k. P k ⊎ (line.0 ≡ k) in
    ⊎_elim (λ (l : line.0 < b.0). subst (λ (x : Line). IsLow Q x) (sym (cond-true (ltb line.0 b.0) line b (lt-ltb line.0 b.0 l)))
    (record { here = inr refl; least = λ k x. ⊎_elim (λ (p : P k). let y = h.least k p in omega (arith, y, l)) (λ (e : line.0 ≡ k). omega (arith, e)) x }))
    (λ (l : b.0 ≤ line.0). subst (λ (x : Line). IsLow Q x) (sym (cond-false (ltb line.0 b.0) line b (le-ltb line.0 b.0 l)))
    (record { here = inl h.here; least = λ k x. ⊎_elim (λ (p : P k). h.least k p) (λ (e : line.0 ≡ k). omega (arith, e, l)) x })) (cases_lt line.0 b.0)

pub lowest_if : (P : ℕ → Type 0) (test : Bool) (best : Option Line) (line : Line) → IsLowest P best → IsLowest (λ k. P k ⊎ ((test ≡ true) × (line.0 ≡ k))) (lower_if test best line)
lowest_if P true best line h =
    lowest_same (λ k. P k ⊎ (line.0 ≡ k)) (λ k. P k ⊎ ((true ≡ true) × (line.0 ≡ k))) (λ k x. ⊎_elim (λ (p : P k). inl p) (λ (e : line.0 ≡ k). inr (refl, e)) x)
    (λ k x. ⊎_elim (λ (p : P k). inl p) (λ (e : (true ≡ true) × (line.0 ≡ k)). inr e.1) x) (lower best line) (lowest_more P best line h)
lowest_if P false best line h =
    lowest_same P (λ k. P k ⊎ ((false ≡ true) × (line.0 ≡ k))) (λ k x. inl x)
    (λ k x. ⊎_elim (λ (p : P k). p) (λ (e : (false ≡ true) × (line.0 ≡ k)). let f = e.0 in absurd (cc)) x) best h
