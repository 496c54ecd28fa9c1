-- How the best so far follows one more rule at one more place, and the least place of a list.
use Rattle.std.proofs.Common.{◌≡◌, ℕ, suc, zero, ◌+◌, ◌<◌, ◌≤◌, ◌⊎◌, inl, inr, ⊎_elim, List, [], ◌∷◌, ◌++◌, length, get_or, Bool, true, false, Option, Some, None, refl, sym, ap, ◌∙◌, subst, arith}
use Rattle.std.specs.Prelude.{Contains}
use Rattle.std.proofs.lemmas.Bool.{cases_eq}
use Rattle.std.proofs.lemmas.List.{get_or_default}
use Rattle.fm_base.specs.declared.rule.Refusal.{Refusal}
use Rattle.fm_base.specs.declared.rule.Rule.{Rule}
use Rattle.fm_base.specs.Rules.{number_of}
use Rattle.fm_base.specs.Verdict.{IsVerdict, earlier, earliest, least_from, least, SomePlace, SomeSeen}
use Rattle.fm_base.proofs.Order.{upto_trans, alike_upto, earlier_chooses}

-- the same causes, the same verdict
pub verdict_same : (P Q : Refusal → Type 0) → ((q : Refusal) → P q → Q q) → ((q : Refusal) → Q q → P q) → (best : Option Refusal) → IsVerdict P best → IsVerdict Q best
verdict_same P Q pq qp None clean = λ q b. clean q (qp q b)
verdict_same P Q pq qp (Some p) h = record { broken = pq p h.broken; least = λ q b. h.least q (qp q b) }

-- one more cause
pub verdict_more : (P Q : Refusal → Type 0) (next : Refusal) → ((q : Refusal) → P q → Q q) → Q next
    → ((q : Refusal) → Q q → P q ⊎ ((number_of next.rule ≡ number_of q.rule) × (next.line.0 ≡ q.line.0)))
    → (best : Option Refusal) → IsVerdict P best → IsVerdict Q (earliest best next)
verdict_more P Q next pq here split None clean =
    record { broken = here; least = λ q b. ⊎_elim (λ p. absurd (clean q p)) (λ s. alike_upto next q s.0 s.1) (split q b) }
verdict_more P Q next pq here split (Some p) h =
    let c = earlier_chooses p next in
    record {
      broken = ⊎_elim (λ (k : earlier p next ≡ p). subst Q (sym k) (pq p h.broken)) (λ (k : earlier p next ≡ next). subst Q (sym k) here) c.one;
      least = λ q b. ⊎_elim (λ x. upto_trans (earlier p next) p q c.left (h.least q x)) (λ s. upto_trans (earlier p next) next q c.right (alike_upto next q s.0 s.1)) (split q b);
    }

module _ (line : ℕ → ℕ) (rules : List Rule) (breaks : Rule → ℕ → Bool) where
  abbrev Seen : ℕ → ℕ → Refusal → Type 0
  Seen p r = SomeSeen line rules breaks p r

  -- a rule that isn't broken here
  pub seen_whole : (p r : ℕ) (d : Rule) (best : Option Refusal) → r < length rules → breaks (get_or rules r d) p ≡ false → IsVerdict (Seen p r) best → IsVerdict (Seen p (r + 1)) best
  seen_whole p r d best within whole h =
      verdict_same (Seen p r) (Seen p (r + 1))
      (λ q s. (s.0, s.1, s.2, omega arith, s.4, s.5, s.6, s.7))
      (λ q s. (s.0, s.1, s.2, (λ e. apart s.0 s.1 q.rule e (s.3 e) s.5 s.7), s.4, s.5, s.6, s.7)) best h
    where
      apart : (k i : ℕ) (q : Rule) → k ≡ p → i < r + 1 → get_or rules i q ≡ q → breaks q k ≡ true → i < r
      apart k i q e u g t = ⊎_elim (λ (x : i ≡ r). let m : get_or rules r q ≡ get_or rules r d = get_or_default rules r q d within in absurd (cc)) (λ x. omega arith) (cases_eq i r)

  -- a rule that is broken here
  pub seen_broken : (p r : ℕ) (d : Rule) (next : Refusal) (best : Option Refusal) → r < length rules → next.rule ≡ get_or rules r d → line p ≡ next.line.0 → breaks next.rule p ≡ true
      → IsVerdict (Seen p r) best → IsVerdict (Seen p (r + 1)) (earliest best next)
  seen_broken p r d next best within rule at broken h =
      verdict_more (Seen p r) (Seen p (r + 1)) next
      (λ q s. (s.0, s.1, s.2, omega arith, s.4, s.5, s.6, s.7))
      (p, r, omega arith, omega arith, within, get_or_default rules r next.rule d within ∙ sym rule, at, broken)
      (λ q s. split s.0 s.1 q s.2 s.3 s.4 s.5 s.6 s.7) best h
    where
      split : (k i : ℕ) (q : Refusal) → k ≤ p → (k ≡ p → i < r + 1) → i < length rules → get_or rules i q.rule ≡ q.rule → line k ≡ q.line.0 → breaks q.rule k ≡ true
          → Seen p r q ⊎ ((number_of next.rule ≡ number_of q.rule) × (next.line.0 ≡ q.line.0))
      split k i q u v w g y t =
          ⊎_elim (λ (f : k ≡ p). ⊎_elim (λ (x : i ≡ r). let m : get_or rules r q.rule ≡ get_or rules r d = get_or_default rules r q.rule d within in inr (ap number_of (cc), cc))
          (λ (x : i ≡ r → ⊥). inl (k, i, u, omega arith, w, g, y, t)) (cases_eq i r))
          (λ (f : k ≡ p → ⊥). inl (k, i, u, (λ z. absurd (f z)), w, g, y, t)) (cases_eq k p)

  -- all rules at a place, and on to the next one
  pub seen_place : (p r : ℕ) (best : Option Refusal) → length rules ≤ r → IsVerdict (Seen p r) best → IsVerdict (Seen (p + 1) 0) best
  seen_place p r best past h =
      verdict_same (Seen p r) (Seen (p + 1) 0)
      (λ q s. (s.0, s.1, omega arith, omega arith, s.4, s.5, s.6, s.7))
      (λ q s. (s.0, s.1, under s.0 s.1 s.2 s.3, omega arith, s.4, s.5, s.6, s.7)) best h
    where
      under : (k i : ℕ) → k ≤ p + 1 → (k ≡ p + 1 → i < 0) → k ≤ p
      under k i u v = ⊎_elim (λ (x : k ≡ p + 1). let y : i < 0 = v x in omega arith) (λ (x : k ≡ p + 1 → ⊥). omega arith) (cases_eq k (p + 1))

  pub seen_none : IsVerdict (Seen 0 0) None
  seen_none = λ q s. none s.0 s.1 s.2 s.3
    where
      none : (k i : ℕ) → k ≤ 0 → (k ≡ 0 → i < 0) → ⊥
      none k i u v = let e : k ≡ 0 = omega arith in let y : i < 0 = v e in omega arith

  pub seen_all : (places p : ℕ) (best : Option Refusal) → p ≡ places → IsVerdict (Seen p 0) best → IsVerdict (SomePlace places line rules breaks) best
  seen_all places p best e h =
      verdict_same (Seen p 0) (SomePlace places line rules breaks)
      (λ q s. (s.0, s.1, before s.0 s.1 s.2 s.3, s.4, s.5, s.6, s.7))
      (λ q s. (s.0, s.1, omega arith, omega arith, s.3, s.4, s.5, s.6)) best h
    where
      before : (k i : ℕ) → k ≤ p → (k ≡ p → i < 0) → k < places
      before k i u v = ⊎_elim (λ (x : k ≡ p). let y : i < 0 = v x in omega arith) (λ (x : k ≡ p → ⊥). omega arith) (cases_eq k p)

-- Lists of places.

pub least_from_append : (best : Option Refusal) (ps qs : List Refusal) → least_from best (ps ++ qs) ≡ least_from (least_from best ps) qs
least_from_append best [] qs = refl
least_from_append best (p ∷ ps) qs = least_from_append (earliest best p) ps qs

pub at_head : (p q : Refusal) (ps : List Refusal) → p ≡ q → Contains (p ∷ ps) q
at_head p q ps e = (0, omega arith, e)

pub behind_head : (p q : Refusal) (ps : List Refusal) → Contains ps q → Contains (p ∷ ps) q
behind_head p q ps c = (suc c.0, omega (arith, c.1), c.2)

pub in_head_or_behind : (p q : Refusal) (ps : List Refusal) → Contains (p ∷ ps) q → (p ≡ q) ⊎ Contains ps q
in_head_or_behind p q ps c = of c.0 c.1 c.2
  where
    of : (k : ℕ) → k < length (p ∷ ps) → get_or (p ∷ ps) k q ≡ q → (p ≡ q) ⊎ Contains ps q
    of zero l e = inl e
    of (suc k) l e = inr (k, omega arith, e)

-- what was broken before, and the places of the list
fold_verdict : (P : Refusal → Type 0) (best : Option Refusal) (qs : List Refusal) → IsVerdict P best → IsVerdict (λ q. P q ⊎ Contains qs q) (least_from best qs)
fold_verdict P best [] h = verdict_same P (λ q. P q ⊎ Contains [] q) (λ q. inl) (λ q. ⊎_elim (λ x. x) (λ c. absurd (omega (arith, c.1)))) best h
fold_verdict P best (p ∷ ps) h =
    let one : IsVerdict (λ q. P q ⊎ (p ≡ q)) (earliest best p) =
    verdict_more P (λ q. P q ⊎ (p ≡ q)) p (λ q. inl) (inr refl) (λ q. ⊎_elim (λ x. inl x) (λ (e : p ≡ q). inr (ap (λ (r : Refusal). number_of r.rule) e, ap (λ (r : Refusal). r.line.0) e))) best h in
    verdict_same (λ q. (P q ⊎ (p ≡ q)) ⊎ Contains ps q) (λ q. P q ⊎ Contains (p ∷ ps) q)
    (λ q. ⊎_elim (⊎_elim (λ x. inl x) (λ e. inr (at_head p q ps e))) (λ c. inr (behind_head p q ps c)))
    (λ q. ⊎_elim (λ x. inl (inl x)) (λ c. ⊎_elim (λ e. inl (inr e)) (λ d. inr d) (in_head_or_behind p q ps c)))
    (least_from (earliest best p) ps) (fold_verdict (λ q. P q ⊎ (p ≡ q)) (earliest best p) ps one)

pub least_verdict : (qs : List Refusal) → IsVerdict (Contains qs) (least qs)
least_verdict qs = verdict_same (λ q. ⊥ ⊎ Contains qs q) (Contains qs) (λ q. ⊎_elim (λ x. absurd x) (λ c. c)) (λ q c. inr c) (least qs) (fold_verdict (λ q. ⊥) None qs (λ q x. x))
