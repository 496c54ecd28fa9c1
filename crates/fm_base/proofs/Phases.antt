-- Two sets of causes, of one phase or of two, and that there is one verdict.
use Rattle.std.proofs.Common.{◌≡◌, ℕ, ◌<◌, inl, inr, ⊎_elim, Option, Some, None, refl, sym, subst, arith}
use Rattle.fm_base.specs.declared.rule.Refusal.{Refusal}
use Rattle.fm_base.specs.Rules.{phase_of}
use Rattle.fm_base.specs.Verdict.{IsUpTo, IsVerdict, Either, IsOfPhase, IsBeforePhase, or_next, first_of, earlier}
use Rattle.fm_base.proofs.Order.{upto_trans, earlier_chooses}
use Rattle.fm_base.proofs.Least.{verdict_same}

module _ (P Q : Refusal → Type 0) where
  -- the first of two verdicts is the verdict on both
  pub verdict_join : (a b : Option Refusal) → IsVerdict P a → IsVerdict Q b → IsVerdict (Either P Q) (first_of a b)
  verdict_join None None p q = λ r. ⊎_elim (p r) (q r)
  verdict_join None (Some g) p q = verdict_same Q (Either P Q) (λ r. inr) (λ r. ⊎_elim (λ x. absurd (p r x)) (λ y. y)) (Some g) q
  verdict_join (Some f) None p q = verdict_same P (Either P Q) (λ r. inl) (λ r. ⊎_elim (λ x. x) (λ y. absurd (q r y))) (Some f) p
  verdict_join (Some f) (Some g) p q =
      let c = earlier_chooses f g in record {
        broken = ⊎_elim (λ (k : earlier f g ≡ f). subst (Either P Q) (sym k) (inl p.broken)) (λ (k : earlier f g ≡ g). subst (Either P Q) (sym k) (inr q.broken)) c.one;
        least = λ r. ⊎_elim (λ x. upto_trans (earlier f g) f r c.left (p.least r x)) (λ y. upto_trans (earlier f g) g r c.right (q.least r y));
      }

  -- the verdict of a phase comes where no earlier phase is broken
  pub phase_join : (phase : ℕ) (a b : Option Refusal) → IsBeforePhase phase P → IsOfPhase phase Q → IsVerdict P a → (a ≡ None → IsVerdict Q b) → IsVerdict (Either P Q) (or_next a b)
  phase_join phase (Some f) b before of p q = record {
    broken = inl p.broken;
    least = λ r. ⊎_elim (λ x. p.least r x) (λ y. later r (before f p.broken) (of r y));
  }
    where
      later : (r : Refusal) → phase_of f.rule < phase → phase_of r.rule ≡ phase → IsUpTo f r
      later r i j = (omega (arith, i, j), λ e. absurd (omega (arith, i, j, e)))
  phase_join phase None b before of p q = verdict_same Q (Either P Q) (λ r. inr) (λ r. ⊎_elim (λ x. absurd (p r x)) (λ y. y)) b (q refl)
