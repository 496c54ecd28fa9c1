-- Going upstream in a finite graph without cycles comes to an end.
use Rattle.std.proofs.Common.{◌≡◌, ℕ, zero, suc, ◌+◌, ◌<◌, ◌≤◌, Bool, true, false, cond, List, length, refl, sym, ap, ◌∙◌, subst, arith}
use Rattle.fm_graph.specs.Graph.{IsEdge, Reaches}
use Rattle.fm_flow_law.specs.Cycles.{IsAcyclic}
use native.Mathlib.Decide.{ℕ_discrete}

-- ---- how many numbers below a bound aren't marked

abbrev pub unseen : (ℕ → Bool) → ℕ → ℕ
unseen v zero = 0
unseen v (suc k) = cond (v k) 0 1 + unseen v k

abbrev worth : Bool → ℕ
worth b = cond b 0 1

-- the other marks agree below the bound
unseen_same : (v w : ℕ → Bool) (n : ℕ) → ((k : ℕ) → k < n → v k ≡ w k) → unseen v n ≡ unseen w n
unseen_same v w zero h = refl
unseen_same v w (suc n) h = let here : worth (v n) ≡ worth (w n) = ap worth (h n (omega arith)) in omega (arith, here, unseen_same v w n (λ k l. h k (omega arith)))

-- one more mark
unseen_less : (v w : ℕ → Bool) (c n : ℕ) → c < n → v c ≡ false → w c ≡ true → ((k : ℕ) → (k ≡ c → ⊥) → v k ≡ w k) → suc (unseen w n) ≡ unseen v n
unseen_less v w c zero l a b h = absurd (omega arith)
unseen_less v w c (suc n) l a b h = elim (ℕ_discrete n c) [
  | yes e ↦
      let here : worth (v n) ≡ 1 = ap (λ k. worth (v k)) e ∙ ap worth a in
      let there : worth (w n) ≡ 0 = ap (λ k. worth (w k)) e ∙ ap worth b in
      let same = unseen_same v w n (λ k m. h k (λ f. omega (arith, f, e, m))) in
      omega (arith, here, there, same)
  | no ne ↦
      let here : worth (v n) ≡ worth (w n) = ap worth (h n ne) in
      let below : c < n = not_last c n l ne in
      let rest = unseen_less v w c n below a b h in
      omega (arith, here, rest)
]
  where
    not_last : (c n : ℕ) → c < suc n → (n ≡ c → ⊥) → c < n
    not_last c n l ne = omega (arith, ne)

-- the marks with one more
data Marks (v : ℕ → Bool) (c : ℕ) : Type 0 where
  marks : (w : ℕ → Bool) → w c ≡ true → ((k : ℕ) → (k ≡ c → ⊥) → v k ≡ w k) → Marks v c

abbrev same_number : ℕ → ℕ → Bool
same_number zero zero = true
same_number zero (suc k) = false
same_number (suc k) zero = false
same_number (suc k) (suc c) = same_number k c

same_self : (c : ℕ) → same_number c c ≡ true
same_self zero = refl
same_self (suc c) = same_self c

same_not : (k c : ℕ) → (k ≡ c → ⊥) → same_number k c ≡ false
same_not zero zero off = absurd (off refl)
same_not zero (suc c) off = refl
same_not (suc k) zero off = refl
same_not (suc k) (suc c) off = same_not k c (λ e. off (ap suc e))

one_more : (v : ℕ → Bool) (c : ℕ) → Marks v c
one_more v c = marks (λ k. cond (same_number k c) true (v k)) (ap (λ b. cond b true (v c)) (same_self c)) (λ k off. sym (ap (λ b. cond b true (v k)) (same_not k c off)))

module _ (g : List (List ℕ)) (acyclic : IsAcyclic g) (P : ℕ → Type 0) (before : (b : ℕ) → P b → (a : ℕ) × (a < length g) × IsEdge g a b × P a) where
  -- a node leads to each marked one by an edge at least
  abbrev pub LeadsToMarked : (ℕ → Bool) → ℕ → Type 0
  LeadsToMarked v c = (k : ℕ) → v k ≡ true → (w : ℕ) × IsEdge g c w × Reaches g w k

  -- with c marked, each node before it leads to each marked one
  pub record Further (v : ℕ → Bool) (c : ℕ) : Type 0 where
    pub marks_now : ℕ → Bool
    pub less : suc (unseen marks_now (length g)) ≡ unseen v (length g)
    pub leads : (a : ℕ) → IsEdge g a c → LeadsToMarked marks_now a

  further : (v : ℕ → Bool) (c : ℕ) → c < length g → LeadsToMarked v c → Marks v c → Further v c
  further v c l leads (marks w here others) = record {
    marks_now = w;
    less = unseen_less v w c (length g) l (fresh (v c) refl) here others;
    leads = λ a edge k is. elim (ℕ_discrete k c) [
      | yes e ↦ (c, edge, subst (λ x. Reaches g c x) (sym e) (0, refl))
      | no ne ↦ let r = leads k (others k ne ∙ is) in (c, edge, (suc r.2.0, (r.0, r.1, r.2.1)))
    ];
  }
    where
      fresh : (b : Bool) → v c ≡ b → v c ≡ false
      fresh true e = absurd (acyclic c (leads c e))
      fresh false e = e

  climb : (fuel : ℕ) (v : ℕ → Bool) (c : ℕ) → unseen v (length g) ≤ fuel → c < length g → LeadsToMarked v c → P c → ⊥
  climb zero v c few l leads p = let f = further v c l leads (one_more v c) in absurd (omega (arith, f.less, few))
  climb (suc fuel) v c few l leads p =
      let f = further v c l leads (one_more v c) in
      let b = before c p in
      climb fuel f.marks_now b.0 (omega (arith, f.less, few)) b.1 (f.leads b.0 b.2) b.3

  -- so that nobody stands in it who comes from another
  pub nowhere : (b : ℕ) → P b → ⊥
  nowhere b p = let a = before b p in climb (unseen (λ k. false) (length g)) (λ k. false) a.0 (omega arith) a.1 (λ k e. absurd (cc e)) a.3
