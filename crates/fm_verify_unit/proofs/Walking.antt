-- One step of the pass over the code.
use Rattle.std.proofs.Common.{◌≡◌, ℕ, zero, suc, ◌+◌, ◌<◌, Bool, true, false, cond, ◌||◌, Option, Some, None, List, [], ◌∷◌, ◌++◌, length, slice_get, below_more, add-one, sym, ap, subst, ◌∙◌, length-append, arith}
use Rattle.std.specs.Prelude.{nat_lt}
use Rattle.std.proofs.lemmas.Bool.{ltb-true, lt-ltb}
use Rattle.fm_code.specs.declared.instr.Instr.{Instr}
use Rattle.fm_code_kinds.specs.declared.kinds.Kind.{Kind}
use Rattle.fm_code_kinds.specs.declared.sorts.Shape.{Shape}
use Rattle.fm_code_kinds.specs.declared.sorts.Shapes.{Shapes}
use Rattle.fm_code_kinds.specs.Effects.{Effect, Over, Ill, effect, results_in}
use Rattle.fm_code_kinds.specs.Kinded.{Lists}
use Rattle.fm_code_kinds.specs.Leading.{leads}
use Rattle.fm_verify_unit.specs.Along.{Stepped, behind, behind_at, kinds_at, IsFound, AllFound, mark_of, left_of, effect_at, AreMarks}
use Rattle.fm_verify_unit.proofs.Results.{all_there}

abbrev some : {A : Type 0} → A → Option A
some x = Some x

some_is : {A : Type 0} (x y : A) → some x ≡ some y → x ≡ y
some_is x y e = cc

-- what holds of each item holds of each with one more
each_push : {X : Type 0} (P : ℕ → X → Type 0) (xs : List X) (x : X) → ((a : ℕ) (m : X) → slice_get xs a ≡ Some m → P a m) → P (length xs) x
    → (a : ℕ) (m : X) → slice_get (xs ++ x ∷ []) a ≡ Some m → P a m
each_push {X = X} P [] x h p zero m e = subst (λ (y : X). P zero y) (some_is x m e) p
each_push {X = X} P [] x h p (suc a) m e = absurd cc
each_push {X = X} P (y ∷ ys) x h p zero m e = h zero m e
each_push {X = X} P (y ∷ ys) x h p (suc a) m e =
    let q : P (suc (length ys)) x = subst (λ (n : ℕ). P n x) (omega arith) p in
    each_push (λ (n : ℕ) (z : X). P (suc n) z) ys x (λ b z f. h (suc b) z f) q a m e

-- ---- what one instruction did

behind_is : (e : Effect) (ks : List Kind) (to : List ℕ) (over : Bool) → Stepped to ks e (Some over) → behind e ≡ ks
behind_is e ks to false h = ap behind h
behind_is e ks to true h = ap behind h.1 ∙ sym h.2

found_is : (code : List Instr) (n : ℕ) (e : Effect) (ks : List Kind) (to : List ℕ) (over : Bool) → Stepped to ks e (Some over) → (over || nat_lt (n + 1) (length code)) ≡ true → IsFound code n e
found_is code n e ks to false h more =
    let inside : suc n < length code = omega (arith, ltb-true (n + 1) (length code) more) in
    subst (IsFound code n) (sym h) inside
found_is code n e ks to true h more = subst (IsFound code n) (sym h.1) tt

not_found : (code : List Instr) (n : ℕ) (e : Effect) (ks : List Kind) (to : List ℕ) (over : Bool) → Stepped to ks e (Some over) → (over || nat_lt (n + 1) (length code)) ≡ false → IsFound code n e → ⊥
not_found code n e ks to false h more found =
    let inside : suc n < length code = subst (IsFound code n) h found in
    let lt = lt-ltb (n + 1) (length code) (omega arith) in
    absurd cc
not_found code n e ks to true h more found = absurd cc

left_is : (e : Effect) (ks : List Kind) (to : List ℕ) (over : Bool) → Stepped to ks e (Some over) → cond over (Some (results_in ks)) None ≡ left_of e
left_is e ks to false h = sym (ap left_of h)
left_is e ks to true h = ap (λ (k : List Kind). some (results_in k)) h.2 ∙ ap some (all_there h.0) ∙ sym (ap left_of h.1)

goes_is : (e : Effect) (ks : List Kind) (to : List ℕ) (over : Bool) → Stepped to ks e (Some over) → (ts : List ℕ) (k : ℕ) → e ≡ Over ts k → ts ≡ to
goes_is e ks to false h ts k f = absurd cc
goes_is e ks to true h ts k f = let g : e ≡ Over to h.0 = h.1 in cc

-- ---- the pass

module _ (ss : Shapes) (u : Shape) (loops : ℕ) (code : List Instr) (n : ℕ) (i : Instr) (there : slice_get code n ≡ Some i) where
  abbrev K : Lists
  K = kinds_at ss u loops code

  abbrev E : Effect
  E = effect ss u loops n i (K n)

  -- the instruction doesn't find what it takes
  pub ill : n < length code → E ≡ Ill → AllFound ss u loops code (length code) → ⊥
  ill low e found = subst (IsFound code n) e (found n i low there)

  module _ (ks : List Kind) (over : Bool) (h : Stepped (leads i) ks E (Some over)) where
    -- it goes on where there is no other
    pub ends : n < length code → (over || nat_lt (n + 1) (length code)) ≡ false → AllFound ss u loops code (length code) → ⊥
    ends low more found = not_found code n E ks (leads i) over h more (found n i low there)

    pub next : ks ≡ K (n + 1)
    next =
        let e : K (suc n) ≡ behind E = ap (λ (o : Option Instr). behind_at ss u loops n o (K n)) there in
        sym (behind_is E ks (leads i) over h) ∙ sym e ∙ ap K (sym (add-one n))

    pub found_more : (over || nat_lt (n + 1) (length code)) ≡ true → AllFound ss u loops code n → AllFound ss u loops code (n + 1)
    found_more more found a j low e =
        below_more (λ (b : ℕ). (k : Instr) → slice_get code b ≡ Some k → IsFound code b (effect_at ss u loops code b k)) n
        (λ b lower k f. found b k lower f)
        (λ k f. subst (λ (x : Instr). IsFound code n (effect_at ss u loops code n x)) (some_is i k (sym there ∙ f)) (found_is code n E ks (leads i) over h more))
        a low j e

    pub marks_more : (marks lefts : List (Option ℕ)) → AreMarks ss u loops code marks lefts n
        → AreMarks ss u loops code (marks ++ mark_of (K n) ∷ []) (lefts ++ cond over (Some (results_in ks)) None ∷ []) (n + 1)
    marks_more marks lefts m = record {
      many = omega (arith, length-append marks (mark_of (K n) ∷ []), m.many);
      also = omega (arith, length-append lefts (cond over (Some (results_in ks)) None ∷ []), m.also);
      mark = each_push (λ (a : ℕ) (o : Option ℕ). o ≡ mark_of (K a)) marks (mark_of (K n)) m.mark (ap (λ (a : ℕ). mark_of (K a)) (sym m.many));
      left = λ a j o e f. each_push (λ (b : ℕ) (p : Option ℕ). (k : Instr) → slice_get code b ≡ Some k → p ≡ left_of (effect_at ss u loops code b k)) lefts (cond over (Some (results_in ks)) None)
          (λ b p g k e. m.left b k p e g)
          (subst (λ (b : ℕ). (k : Instr) → slice_get code b ≡ Some k → cond over (Some (results_in ks)) None ≡ left_of (effect_at ss u loops code b k)) (sym m.also)
          (λ k g. left_is E ks (leads i) over h ∙ ap (λ (x : Instr). left_of (effect_at ss u loops code n x)) (some_is i k (sym there ∙ g))))
          a o f j e;
      goes = λ a j to k low e f.
          below_more (λ (b : ℕ). (x : Instr) (ts : List ℕ) (r : ℕ) → slice_get code b ≡ Some x → effect_at ss u loops code b x ≡ Over ts r → ts ≡ leads x) n
          (λ b lower x ts r g f. m.goes b x ts r lower g f)
          (λ x ts r g f. let same = some_is i x (sym there ∙ g) in
          goes_is E ks (leads i) over h ts r (ap (λ (y : Instr). effect_at ss u loops code n y) same ∙ f) ∙ ap leads same)
          a low j to k e f;
    }

    pub all_more : (marks lefts marks' lefts' : List (Option ℕ)) → marks' ≡ marks ++ mark_of (K n) ∷ [] → lefts' ≡ lefts ++ cond over (Some (results_in ks)) None ∷ []
        → AreMarks ss u loops code marks lefts n → AreMarks ss u loops code marks' lefts' (n + 1)
    all_more marks lefts marks' lefts' e f m =
        subst (λ (l : List (Option ℕ)). AreMarks ss u loops code l lefts' (n + 1)) (sym e)
        (subst (λ (l : List (Option ℕ)). AreMarks ss u loops code (marks ++ mark_of (K n) ∷ []) l (n + 1)) (sym f) (marks_more marks lefts m))

  -- what was done from the list that is held, which is the code's own
  pub done_from : (held ks : List Kind) (over : Bool) (o : Option Bool) → held ≡ K n → o ≡ Some over → Stepped (leads i) ks (effect ss u loops n i held) o → Stepped (leads i) ks E (Some over)
  done_from held ks over o e f h =
      subst (λ (l : List Kind). Stepped (leads i) ks (effect ss u loops n i l) (Some over)) e
      (subst (λ (p : Option Bool). Stepped (leads i) ks (effect ss u loops n i held) p) f h)

  pub ill_from : (held ks : List Kind) (o : Option Bool) → held ≡ K n → o ≡ None → Stepped (leads i) ks (effect ss u loops n i held) o → E ≡ Ill
  ill_from held ks o e f h =
      subst (λ (l : List Kind). effect ss u loops n i l ≡ Ill) e (subst (λ (p : Option Bool). Stepped (leads i) ks (effect ss u loops n i held) p) f h)
