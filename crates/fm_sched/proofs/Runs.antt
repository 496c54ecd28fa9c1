-- Lists of choices in parts: one choice, one list after another, one choice more, one actor many times.
use Rattle.std.proofs.Common.{◌≡◌, ℕ, ◌+◌, ◌≤◌, Option, Some, None, List, [], ◌∷◌, ◌++◌, length, replicate, refl, sym, ap, ap₂, ◌∙◌, subst, arith}
use Rattle.std.proofs.lemmas.Grind.{replicate_next}
use Rattle.fm_sched.specs.Schedule.{Step, state_after, price, Can, next, cost, play, IsLegal, used, IsFinal, IsEnding, Leads}

module _ {S A : Type 0} (step : Step S A) where
  -- ---- one choice

  pub next-Some : (s : S) (p : A) (r : S × ℕ) → step s p ≡ Some r → next step s p ≡ r.0
  unfolding state_after
  next-Some s p r is = ap (state_after s) is

  pub cost-Some : (s : S) (p : A) (r : S × ℕ) → step s p ≡ Some r → cost step s p ≡ r.1
  unfolding price
  cost-Some s p r is = ap price is

  pub next-None : (s : S) (p : A) → step s p ≡ None → next step s p ≡ s
  unfolding state_after
  next-None s p is = ap (state_after s) is

  pub cost-None : (s : S) (p : A) → step s p ≡ None → cost step s p ≡ 0
  unfolding price
  cost-None s p is = ap price is

  pub no_step : (s : S) (p : A) → Can step s p → step s p ≡ None → ⊥
  no_step s p can none = cc (can.1, none)

  -- who has a step has the step to the next state at its cost
  pub step_is : (s : S) (p : A) → Can step s p → step s p ≡ Some (next step s p, cost step s p)
  unfolding state_after price
  step_is s p can = can.1 ∙ sym (ap (λ o. Some (state_after s o, price o)) can.1)

  pub decide_can : (s : S) (p : A) → Dec (Can step s p)
  decide_can s p = go (step s p) refl
    where
      go : (o : Option (S × ℕ)) → step s p ≡ o → Dec (Can step s p)
      go None is = no (λ can. no_step s p can is)
      go (Some r) is = yes (r, is)

  -- ---- one list after another

  pub play-append : (s : S) (cs ds : List A) → play step s (cs ++ ds) ≡ play step (play step s cs) ds
  play-append s [] ds = refl
  play-append s (c ∷ cs) ds = play-append (next step s c) cs ds

  pub used-append : (s : S) (cs ds : List A) → used step s (cs ++ ds) ≡ used step s cs + used step (play step s cs) ds
  used-append s [] ds = omega arith
  used-append s (c ∷ cs) ds = omega (arith, used-append (next step s c) cs ds)

  pub used-append-le : (s : S) (cs ds : List A) → used step s cs ≤ used step s (cs ++ ds)
  used-append-le s cs ds = omega (arith, used-append s cs ds)

  pub IsLegal-append : (s : S) (cs ds : List A) → IsLegal step s cs → IsLegal step (play step s cs) ds → IsLegal step s (cs ++ ds)
  IsLegal-append s [] ds legal more = more
  IsLegal-append s (c ∷ cs) ds legal more = (legal.0, IsLegal-append (next step s c) cs ds legal.1 more)

  pub legal_first : (s : S) (cs ds : List A) → IsLegal step s (cs ++ ds) → IsLegal step s cs
  legal_first s [] ds legal = tt
  legal_first s (c ∷ cs) ds legal = (legal.0, legal_first (next step s c) cs ds legal.1)

  pub legal_second : (s : S) (cs ds : List A) → IsLegal step s (cs ++ ds) → IsLegal step (play step s cs) ds
  legal_second s [] ds legal = legal
  legal_second s (c ∷ cs) ds legal = legal_second (next step s c) cs ds legal.1

  pub IsEnding-append : (s : S) (cs ds : List A) → IsLegal step s cs → IsEnding step (play step s cs) ds → IsEnding step s (cs ++ ds)
  IsEnding-append s cs ds legal ends = (IsLegal-append s cs ds legal ends.0, subst (IsFinal step) (sym (play-append s cs ds)) ends.1)

  pub ends_second : (s : S) (cs ds : List A) → IsEnding step s (cs ++ ds) → IsEnding step (play step s cs) ds
  ends_second s cs ds ends = (legal_second s cs ds ends.0, subst (IsFinal step) (play-append s cs ds) ends.1)

  -- nothing is legal after the end
  pub none_after : (s : S) (cs ds : List A) → IsFinal step (play step s cs) → IsLegal step s (cs ++ ds) → ds ≡ []
  none_after s [] [] done legal = refl
  none_after s [] (d ∷ ds) done legal = absurd (no_step s d legal.0 (done d))
  none_after s (c ∷ cs) ds done legal = none_after (next step s c) cs ds done legal.1

  -- where each step costs something, a legal list is no longer than its cost
  pub length-le-used : ((s : S) (p : A) → Can step s p → 1 ≤ cost step s p) → (s : S) (cs : List A) → IsLegal step s cs → length cs ≤ used step s cs
  length-le-used paid s [] legal = omega arith
  length-le-used paid s (c ∷ cs) legal = omega (arith, paid s c legal.0, length-le-used paid (next step s c) cs legal.1)

  -- ---- one choice more

  pub play-push : (s : S) (cs : List A) (p : A) → play step s (cs ++ p ∷ []) ≡ next step (play step s cs) p
  play-push s cs p = play-append s cs (p ∷ [])

  pub used-push : (s : S) (cs : List A) (p : A) → used step s (cs ++ p ∷ []) ≡ used step s cs + cost step (play step s cs) p
  used-push s cs p = omega (arith, used-append s cs (p ∷ []))

  pub IsLegal-push : (s : S) (cs : List A) (p : A) → IsLegal step s cs → Can step (play step s cs) p → IsLegal step s (cs ++ p ∷ [])
  IsLegal-push s cs p legal can = IsLegal-append s cs (p ∷ []) legal (can, tt)

  pub can_push : (s : S) (cs : List A) (p : A) → IsLegal step s (cs ++ p ∷ []) → Can step (play step s cs) p
  can_push s cs p legal = (legal_second s cs (p ∷ []) legal).0

  -- ---- one actor many times

  pub play-replicate : (s : S) (n : ℕ) (p : A) → play step s (replicate (n + 1) p) ≡ next step (play step s (replicate n p)) p
  play-replicate s n p = ap (play step s) (replicate_next n p) ∙ play-push s (replicate n p) p

  pub used-replicate : (s : S) (n : ℕ) (p : A) → used step s (replicate (n + 1) p) ≡ used step s (replicate n p) + cost step (play step s (replicate n p)) p
  used-replicate s n p = ap (used step s) (replicate_next n p) ∙ used-push s (replicate n p) p

  pub IsLegal-replicate : (s : S) (n : ℕ) (p : A) → IsLegal step s (replicate n p) → Can step (play step s (replicate n p)) p → IsLegal step s (replicate (n + 1) p)
  IsLegal-replicate s n p legal can = subst (IsLegal step s) (sym (replicate_next n p)) (IsLegal-push s (replicate n p) p legal can)

  pub can_repeat : (s : S) (n : ℕ) (p : A) → IsLegal step s (replicate (n + 1) p) → Can step (play step s (replicate n p)) p
  can_repeat s n p legal = can_push s (replicate n p) p (subst (IsLegal step s) (replicate_next n p) legal)

  -- the history and n steps of one actor, and then one more
  pub append-replicate : (cs : List A) (n : ℕ) (p : A) → cs ++ replicate (n + 1) p ≡ (cs ++ replicate n p) ++ p ∷ []
  append-replicate [] n p = replicate_next n p
  append-replicate (c ∷ cs) n p = ap (λ ds. c ∷ ds) (append-replicate cs n p)

  -- ---- where choices lead

  pub leads_nowhere : (s : S) → Leads step s [] s 0
  leads_nowhere s = record { legal = tt; there = refl; price_is = refl }

  -- a step before them
  pub leads_first : (s : S) (p : A) (r : S × ℕ) (cs : List A) (t : S) (paid : ℕ) → step s p ≡ Some r → Leads step r.0 cs t paid → Leads step s (p ∷ cs) t (r.1 + paid)
  leads_first s p r cs t paid is l =
      let to : next step s p ≡ r.0 = next-Some s p r is in
      record {
        legal = ((r, is), subst (λ x. IsLegal step x cs) (sym to) l.legal);
        there = ap (λ x. play step x cs) to ∙ l.there;
        price_is = ap₂ (λ n x. n + used step x cs) (cost-Some s p r is) to ∙ ap (λ n. r.1 + n) l.price_is;
      }

  -- choices behind them
  pub leads_on : (s t u : S) (cs ds : List A) (paid more : ℕ) → Leads step s cs t paid → Leads step t ds u more → Leads step s (cs ++ ds) u (paid + more)
  leads_on s t u cs ds paid more l m = record {
    legal = IsLegal-append s cs ds l.legal (subst (λ x. IsLegal step x ds) (sym l.there) m.legal);
    there = play-append s cs ds ∙ ap (λ x. play step x ds) l.there ∙ m.there;
    price_is = used-append s cs ds ∙ ap₂ (λ n x. n + used step x ds) l.price_is l.there ∙ ap (λ n. paid + n) m.price_is;
  }

  -- a step behind them
  pub leads_further : (s t : S) (cs : List A) (paid : ℕ) (p : A) (r : S × ℕ) → Leads step s cs t paid → step t p ≡ Some r → Leads step s (cs ++ p ∷ []) r.0 (paid + r.1)
  leads_further s t cs paid p r l is =
      subst (Leads step s (cs ++ p ∷ []) r.0) (omega arith) (leads_on s t r.0 cs (p ∷ []) paid (r.1 + 0) l (leads_first t p r [] r.0 0 is (leads_nowhere r.0)))

  -- they lead to one state at one cost
  pub leads_once : (s t u : S) (cs : List A) (paid more : ℕ) → Leads step s cs t paid → Leads step s cs u more → (t ≡ u) × (paid ≡ more)
  leads_once s t u cs paid more l m = (sym l.there ∙ m.there, sym l.price_is ∙ m.price_is)
