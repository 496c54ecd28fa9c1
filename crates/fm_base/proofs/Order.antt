-- The order of refusals: by phase, then by line, then by number.
use Rattle.std.proofs.Common.{◌≡◌, ◌⊎◌, inl, inr, ℕ, ◌/◌, ◌≤◌, Bool, true, false, cond, refl, ap, arith}
use Rattle.std.proofs.Math.Dec.{ltb}
use Rattle.std.proofs.lemmas.Bool.{ltb-true, ltb-false}
use Rattle.fm_base.specs.declared.rule.Refusal.{Refusal}
use Rattle.fm_base.specs.Rules.{number_of, phase_of}
use Rattle.fm_base.specs.Verdict.{IsUpTo, is_before, earlier}

-- three numbers, the first one deciding first
abbrev Up : (a b c x y z : ℕ) → Type 0
Up a b c x y z = (a ≤ x) × (a ≡ x → (b ≤ y) × (b ≡ y → c ≤ z))

abbrev tested : (a b c x y z : ℕ) → Bool
tested a b c x y z = cond (ltb a x) true (cond (ltb x a) false (cond (ltb b y) true (cond (ltb y b) false (ltb c z))))

up_trans : (a b c x y z u v w : ℕ) → Up a b c x y z → Up x y z u v w → Up a b c u v w
up_trans a b c x y z u v w p q = (
  omega (arith, p.0, q.0),
  λ e.
      let d : a ≡ x = omega (arith, p.0, q.0, e) in
      let f : x ≡ u = omega (arith, p.0, q.0, e) in
      let m = p.1 d in
      let n = q.1 f in (
        omega (arith, m.0, n.0),
        λ g.
            let h : b ≡ y = omega (arith, m.0, n.0, g) in
            let k : y ≡ v = omega (arith, m.0, n.0, g) in
            omega (arith, m.1 h, n.1 k),
      ),
)

abbrev Told : (a b c x y z : ℕ) → Bool → Type 0
Told a b c x y z true = Up a b c x y z
Told a b c x y z false = Up x y z a b c

told : (a b c x y z : ℕ) → Told a b c x y z (tested a b c x y z)
told a b c x y z =
    (elim (ltb a x) as (λ t. ltb a x ≡ t → Told a b c x y z (cond t true (cond (ltb x a) false (cond (ltb b y) true (cond (ltb y b) false (ltb c z)))))) [
      | true ↦ λ e. let h = ltb-true a x e in (omega (arith, h), λ d. absurd (omega (arith, h, d)))
      | false ↦ λ e. let h = ltb-false a x e in
          (elim (ltb x a) as (λ t. ltb x a ≡ t → Told a b c x y z (cond t false (cond (ltb b y) true (cond (ltb y b) false (ltb c z))))) [
            | true ↦ λ f. let k = ltb-true x a f in (omega (arith, k), λ d. absurd (omega (arith, k, d)))
            | false ↦ λ f. let k = ltb-false x a f in
                (elim (ltb b y) as (λ t. ltb b y ≡ t → Told a b c x y z (cond t true (cond (ltb y b) false (ltb c z)))) [
                  | true ↦ λ g. let m = ltb-true b y g in (omega (arith, h, k), λ d. (omega (arith, m), λ i. absurd (omega (arith, m, i))))
                  | false ↦ λ g. let m = ltb-false b y g in
                      (elim (ltb y b) as (λ t. ltb y b ≡ t → Told a b c x y z (cond t false (ltb c z))) [
                        | true ↦ λ i. let n = ltb-true y b i in (omega (arith, h, k), λ d. (omega (arith, n), λ j. absurd (omega (arith, n, j))))
                        | false ↦ λ i. let n = ltb-false y b i in
                            (elim (ltb c z) as (λ t. ltb c z ≡ t → Told a b c x y z t) [
                              | true ↦ λ j. let o = ltb-true c z j in (omega (arith, h, k), λ d. (omega (arith, m, n), λ l. omega (arith, o)))
                              | false ↦ λ j. let o = ltb-false c z j in (omega (arith, h, k), λ d. (omega (arith, m, n), λ l. omega (arith, o)))
                            ]) refl
                      ]) refl
                ]) refl
          ]) refl
    ]) refl

abbrev ToldOf : Refusal → Refusal → Bool → Type 0
ToldOf p q true = IsUpTo p q
ToldOf p q false = IsUpTo q p

pub told_of : (p q : Refusal) → ToldOf p q (is_before p q)
told_of p q =
    let h = told (phase_of p.rule) p.line.0 (number_of p.rule) (phase_of q.rule) q.line.0 (number_of q.rule) in
    (elim (tested (phase_of p.rule) p.line.0 (number_of p.rule) (phase_of q.rule) q.line.0 (number_of q.rule))
    as (λ t. Told (phase_of p.rule) p.line.0 (number_of p.rule) (phase_of q.rule) q.line.0 (number_of q.rule) t → ToldOf p q t) [ true ↦ λ x. x | false ↦ λ x. x ]) h

pub upto_refl : (p : Refusal) → IsUpTo p p
upto_refl p = (omega arith, λ e. (omega arith, λ f. omega arith))

pub upto_trans : (p q r : Refusal) → IsUpTo p q → IsUpTo q r → IsUpTo p r
upto_trans p q r = up_trans (phase_of p.rule) p.line.0 (number_of p.rule) (phase_of q.rule) q.line.0 (number_of q.rule) (phase_of r.rule) r.line.0 (number_of r.rule)

-- one number and one line
pub alike_upto : (p q : Refusal) → number_of p.rule ≡ number_of q.rule → p.line.0 ≡ q.line.0 → IsUpTo p q
alike_upto p q e f = let d : phase_of p.rule ≡ phase_of q.rule = ap (λ n. n / 10) e in (omega (arith, d), λ g. (omega (arith, f), λ h. omega (arith, e)))

-- one of the two, and up to both
pub record Chooses (p q r : Refusal) : Type 0 where
  pub one : (r ≡ p) ⊎ (r ≡ q)
  pub left : IsUpTo r p
  pub right : IsUpTo r q

pub earlier_chooses : (p q : Refusal) → Chooses p q (earlier p q)
earlier_chooses p q =
    (elim (is_before q p) as (λ t. ToldOf q p t → Chooses p q (cond t q p)) [
      | true ↦ λ h. record { one = inr refl; left = h; right = upto_refl q }
      | false ↦ λ h. record { one = inl refl; left = upto_refl p; right = h }
    ]) (told_of q p)
