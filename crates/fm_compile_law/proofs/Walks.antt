-- Walks one behind the other; and code that is walked through has its kinds.
use Rattle.std.proofs.Common.{◌≡◌, ◌⊎◌, inl, inr, ℕ, zero, suc, ◌+◌, ◌<◌, false, Option, Some, None, List, [], ◌∷◌, ◌++◌, length, slice_get, refl, sym, ap, subst, ◌∙◌, arith}
use Rattle.fm_net.specs.Typed.{AllIn}
use Rattle.fm_code.specs.declared.instr.End.{End}
use Rattle.fm_code.specs.declared.instr.Instr.{Instr}
use Rattle.fm_code.specs.declared.instr.Instr.TheVariants as instr
use Rattle.fm_code_kinds.specs.declared.kinds.Kind.{Kind}
use Rattle.fm_code_kinds.specs.declared.sorts.Shape.{Shape}
use Rattle.fm_code_kinds.specs.declared.sorts.Shapes.{Shapes}
use Rattle.fm_code_kinds.specs.Effects.{Effect, On, Over, Ill, evaluated, built, goes_on, effect}
use Rattle.fm_code_kinds.specs.Kinded.{Coded, Lists, results, IsAt, AreAt, IsFine, Kinded}
use Rattle.fm_code_kinds.specs.Leading.{is_begin, is_join}
use Rattle.fm_compile_law.specs.Along.{then_on, along}
use Rattle.fm_compile_law.proofs.Straight.{same_list}
use Rattle.fm_compile_law.specs.Walks.{behind, IsNotEmpty, LeadsOn, Elsewhere, Next, StepsWell, first_of, Joined, Steps, Walks, walked}

same_instr : (i j : Instr) → Some i ≡ Some j → i ≡ j
same_instr i j e = cc

some_longer : (is js : List Instr) → IsNotEmpty is → IsNotEmpty (is ++ js)
some_longer [] js h e = h refl
some_longer (i ∷ is) js h e = absurd cc

pub some_behind : (is js : List Instr) → IsNotEmpty js → IsNotEmpty (is ++ js)
some_behind [] js h e = h e
some_behind (i ∷ is) js h e = absurd cc

longer : (is : List Instr) → IsNotEmpty is → 0 < length is
longer [] h = absurd (h refl)
longer (i ∷ is) h = omega arith

-- an instruction that has to do with no block
pub record IsApart (i : Instr) : Type 0 where
  pub join : is_join (Some i) ≡ false
  pub begin : is_begin i ≡ false

pub end_apart : (e : End) → IsApart (instr.End e)
end_apart e = record { join = refl; begin = refl }

module _ (Good : ℕ → Type 0) (ss : Shapes) (u : Shape) (n : ℕ) where
  abbrev Goes : ℕ → List Instr → List Kind → List Kind → Type 0
  Goes at is ks ms = Walks Good ss u n at is ks ms

  leads_longer : (at : ℕ) (is js : List Instr) (to : List ℕ) (k : ℕ) → LeadsOn Good at is to k → LeadsOn Good at (is ++ js) to k
  leads_longer at is js to k (Elsewhere all none) = Elsewhere all none
  leads_longer at is js to k (Next next some) = Next next (some_longer is js some)

  steps_longer : (at : ℕ) (is js : List Instr) (e : Effect) → StepsWell Good at is e → StepsWell Good at (is ++ js) e
  steps_longer at is js (On ks) h = some_longer is js h
  steps_longer at is js (Over to k) h = leads_longer at is js to k h
  steps_longer at is js Ill h = h

  first_longer : (is js : List Instr) → is_join (first_of is) ≡ false → is_join (first_of js) ≡ false → is_join (first_of (is ++ js)) ≡ false
  first_longer [] js h k = k
  first_longer (i ∷ is) js h k = h

  joined_longer : (i : Instr) (is js : List Instr) → is_join (first_of js) ≡ false → Joined i is → Joined i (is ++ js)
  joined_longer i [] js first h = first ∙ h
  joined_longer i (j ∷ is) js first h = h

  steps_then : (at b : ℕ) (is js : List Instr) (ks ms ls : List Kind) → b ≡ at + length is → Steps Good ss u n at is ks ms → is_join (first_of js) ≡ false → Steps Good ss u n b js ms ls → Steps Good ss u n at (is ++ js) ks ls
  steps_then at b [] js ks ms ls e w first v =
      let here : b ≡ at = omega (arith, e) in
      subst (λ (x : List Kind). Steps Good ss u n at js x ls) (sym w) (subst (λ (a : ℕ). Steps Good ss u n a js ms ls) here v)
  steps_then at b (i ∷ is) js ks ms ls e w first v =
      (steps_longer at is js (effect ss u n at i ks) w.0, joined_longer i is js first w.1, steps_then (suc at) b is js (behind (effect ss u n at i ks)) ms ls (omega (arith, e)) w.2 first v)

  -- one walk behind another
  pub walks_then : (at b : ℕ) (is js : List Instr) (ks ms ls : List Kind) → b ≡ at + length is → Goes at is ks ms → Goes b js ms ls → Goes at (is ++ js) ks ls
  walks_then at b is js ks ms ls e w v = (first_longer is js w.0 v.0, steps_then at b is js ks ms ls e w.1 v.0 v.1)

  -- what goes on joins nothing
  straight_first : (is js : List Instr) (ks ms : List Kind) → along u.cells n is ks ≡ Some ms → is_join (first_of js) ≡ false → is_join (first_of (is ++ js)) ≡ false
  straight_first [] js ks ms w first = first
  straight_first (instr.Eval i ∷ is) js ks ms w first = refl
  straight_first (instr.Build i ∷ is) js ks ms w first = refl
  straight_first (instr.End i ∷ is) js ks ms w first = absurd cc
  straight_first (instr.Meet i ∷ is) js ks ms w first = absurd cc

  straight_steps : (at b : ℕ) (is js : List Instr) (ks ms ls : List Kind) → b ≡ at + length is → along u.cells n is ks ≡ Some ms → IsNotEmpty js → is_join (first_of js) ≡ false → Steps Good ss u n b js ms ls → Steps Good ss u n at (is ++ js) ks ls
  straight_steps at b [] js ks ms ls e w some first v =
      let here : b ≡ at = omega (arith, e) in
      let same : ks ≡ ms = same_list ks ms w in
      subst (λ (x : List Kind). Steps Good ss u n at js x ls) (sym same) (subst (λ (a : ℕ). Steps Good ss u n a js ms ls) here v)
  straight_steps at b (instr.Eval i ∷ is) js ks ms ls e w some first v =
      go (evaluated u.cells i ks) w (λ xs f. (straight_first is js xs ms f first, straight_steps (suc at) b is js xs ms ls (omega (arith, e)) f some first v))
    where
      go : (o : Option (List Kind)) → then_on o (λ xs. along u.cells n is xs) ≡ Some ms → ((xs : List Kind) → along u.cells n is xs ≡ Some ms → (is_join (first_of (is ++ js)) ≡ false) × Steps Good ss u n (suc at) (is ++ js) xs ls)
          → StepsWell Good at (is ++ js) (goes_on o) × Joined (instr.Eval i) (is ++ js) × Steps Good ss u n (suc at) (is ++ js) (behind (goes_on o)) ls
      go None f rest = absurd cc
      go (Some xs) f rest = let r = rest xs f in (some_behind is js some, r.0, r.1)
  straight_steps at b (instr.Build i ∷ is) js ks ms ls e w some first v =
      go (built u.cells n i ks) w (λ xs f. (straight_first is js xs ms f first, straight_steps (suc at) b is js xs ms ls (omega (arith, e)) f some first v))
    where
      go : (o : Option (List Kind)) → then_on o (λ xs. along u.cells n is xs) ≡ Some ms → ((xs : List Kind) → along u.cells n is xs ≡ Some ms → (is_join (first_of (is ++ js)) ≡ false) × Steps Good ss u n (suc at) (is ++ js) xs ls)
          → StepsWell Good at (is ++ js) (goes_on o) × Joined (instr.Build i) (is ++ js) × Steps Good ss u n (suc at) (is ++ js) (behind (goes_on o)) ls
      go None f rest = absurd cc
      go (Some xs) f rest = let r = rest xs f in (some_behind is js some, r.0, r.1)
  straight_steps at b (instr.End i ∷ is) js ks ms ls e w some first v = absurd cc
  straight_steps at b (instr.Meet i ∷ is) js ks ms ls e w some first v = absurd cc

  -- code that goes on, and what ends its statement
  pub straight_then : (at b : ℕ) (is js : List Instr) (ks ms ls : List Kind) → b ≡ at + length is → along u.cells n is ks ≡ Some ms → IsNotEmpty js → Goes b js ms ls → Goes at (is ++ js) ks ls
  straight_then at b is js ks ms ls e w some v = (straight_first is js ks ms w v.0, straight_steps at b is js ks ms ls e w some v.0 v.1)

  -- an instruction alone that leads to good addresses
  pub ends_at : (at : ℕ) (i : Instr) (ks : List Kind) (to : List ℕ) → effect ss u n at i ks ≡ Over to 0 → AllIn Good to → IsApart i → Goes at (i ∷ []) ks []
  ends_at at i ks to e all apart =
      (apart.join, subst (λ (x : Effect). StepsWell Good at [] x × Joined i [] × (behind x ≡ [])) (sym e) (Elsewhere all refl, sym apart.begin, refl))

  -- code that goes on, and an instruction that ends its statement
  pub closes : (at : ℕ) (is : List Instr) (i : Instr) (ks ms : List Kind) (to : List ℕ) → along u.cells n is ks ≡ Some ms → ((b : ℕ) → effect ss u n b i ms ≡ Over to 0) → AllIn Good to → IsApart i → Goes at (is ++ i ∷ []) ks []
  closes at is i ks ms to w e all apart = straight_then at (at + length is) is (i ∷ []) ks ms [] refl w (λ none. absurd cc) (ends_at (at + length is) i ms to (e (at + length is)) all apart)

  -- ---- the list at each address

  -- the list behind a walk
  pub walked_end : (at : ℕ) (is js : List Instr) (ks ms : List Kind) → Steps Good ss u n at is ks ms → walked ss u n at (length is) (is ++ js) ks ≡ ms
  walked_end at [] js ks ms w = w
  walked_end at (i ∷ is) js ks ms w = walked_end (suc at) is js (behind (effect ss u n at i ks)) ms w.2

  -- what the instruction at an address leads to
  abbrev pub IsStep : (at a b : ℕ) → List Instr → List Kind → Effect → Type 0
  IsStep at a b is ks (On ls) = (suc a < length is) × (walked ss u n at (suc a) is ks ≡ ls)
  IsStep at a b is ks (Over to k) = ((AllIn Good to × (k ≡ 0)) ⊎ ((to ≡ suc b ∷ []) × (suc a < length is))) × (walked ss u n at (suc a) is ks ≡ results k)
  IsStep at a b is ks Ill = ⊥

  first_step : (at b : ℕ) (i : Instr) (is : List Instr) (ks : List Kind) (e : Effect) → b ≡ at → behind (effect ss u n at i ks) ≡ behind e → StepsWell Good b is e → IsStep at 0 b (i ∷ is) ks e
  first_step at b i is ks (On ls) here same h = (omega (arith, longer is h), same)
  first_step at b i is ks (Over to k) here same (Elsewhere all none) = (inl (all, none), same)
  first_step at b i is ks (Over to k) here same (Next next some) = (inr (next, omega (arith, longer is some)), same)
  first_step at b i is ks Ill here same h = h

  later_step : (at a b : ℕ) (i : Instr) (is : List Instr) (ks : List Kind) (e : Effect) → IsStep (suc at) a b is (behind (effect ss u n at i ks)) e → IsStep at (suc a) b (i ∷ is) ks e
  later_step at a b i is ks (On ls) h = (omega (arith, h.0), h.1)
  later_step at a b i is ks (Over to k) h = (go h.0, h.1)
    where
      go : (AllIn Good to × (k ≡ 0)) ⊎ ((to ≡ suc b ∷ []) × (suc a < length is)) → (AllIn Good to × (k ≡ 0)) ⊎ ((to ≡ suc b ∷ []) × (suc (suc a) < length (i ∷ is)))
      go (inl x) = inl x
      go (inr x) = inr (x.0, omega (arith, x.1))
  later_step at a b i is ks Ill h = h

  pub each_step : (at a b : ℕ) (is : List Instr) (ks ms : List Kind) → b ≡ at + a → Steps Good ss u n at is ks ms → (i : Instr) → slice_get is a ≡ Some i → IsStep at a b is ks (effect ss u n b i (walked ss u n at a is ks))
  each_step at a b [] ks ms e w i there = absurd cc
  each_step at zero b (j ∷ is) ks ms e w i there =
      let here : b ≡ at = omega (arith, e) in
      subst (λ (x : Instr). IsStep at 0 b (j ∷ is) ks (effect ss u n b x ks)) (same_instr j i there)
      (first_step at b j is ks (effect ss u n b j ks) here (ap (λ (x : ℕ). behind (effect ss u n x j ks)) (sym here)) (subst (λ (x : ℕ). StepsWell Good x is (effect ss u n x j ks)) (sym here) w.0))
  each_step at (suc a) b (j ∷ is) ks ms e w i there =
      later_step at a b j is ks (effect ss u n b i (walked ss u n (suc at) a is (behind (effect ss u n at j ks)))) (each_step (suc at) a b is (behind (effect ss u n at j ks)) ms (omega (arith, e)) w.2 i there)

module _ (Good : ℕ → Type 0) (ss : Shapes) (u : Shape) (c : Coded) (ms : List Kind) (w : Walks Good ss u c.loops 0 c.code [] ms) where
  abbrev lists : Lists
  lists b = walked ss u c.loops 0 b c.code []

  module _ (good : (a : ℕ) → Good a → IsAt c.code lists a []) where
    goods : (to : List ℕ) → AllIn Good to → AreAt c.code lists to []
    goods [] h = tt
    goods (a ∷ to) h = (good a h.0, goods to h.1)

    fine : (a : ℕ) (e : Effect) → IsStep Good ss u c.loops 0 a a c.code [] e → IsFine c.code lists a e
    fine a (On ls) h = record { inside = h.0; list = h.1 }
    fine a (Over to k) h = (go h.0, h.1)
      where
        go : (AllIn Good to × (k ≡ 0)) ⊎ ((to ≡ suc a ∷ []) × (suc a < length c.code)) → AreAt c.code lists to (results k)
        go (inl x) = subst (λ (k : ℕ). AreAt c.code lists to (results k)) (sym x.1) (goods to x.0)
        go (inr x) = subst (λ (l : List ℕ). AreAt c.code lists l (results k)) (sym x.0) (record { inside = x.1; list = h.1 }, tt)
    fine a Ill h = h

    -- code that is walked through from an empty list has its kinds, where good addresses are in the code, nothing stands there, and
    -- entries are at some
    pub kinded_by : ((k a : ℕ) → slice_get c.entries k ≡ Some a → Good a) → Kinded ss u c
    kinded_by entries = (
      lists,
      record {
        first = refl;
        entries = λ k a there. good a (entries k a there);
        each = λ a i there. fine a (effect ss u c.loops a i (lists a)) (each_step Good ss u c.loops 0 a a c.code [] ms (omega arith) w.1 i there);
      },
    )
