-- The lists that the code tells are those of a unit that has its kinds, and they are its kinds where its instructions go where they
-- are awaited.
use Rattle.std.proofs.Common.{◌≡◌, ◌↔◌, ℕ, zero, suc, ◌+◌, ◌≤◌, ◌<◌, Bool, true, false, ◌&&◌, Option, Some, None, List, [], ◌∷◌, length, slice_get, get_or, refl, sym, ap, subst, ◌∙◌, add-zero, arith}
use Rattle.std.specs.Prelude.{IsTrue}
use Rattle.std.proofs.lemmas.Bool.{and_parts, and_from}
use Rattle.std.proofs.lemmas.Option.{slice_get-get_or}
use Rattle.fm_code.specs.declared.instr.Instr.{Instr}
use Rattle.fm_code.specs.declared.instr.Instr.TheVariants as instr
use Rattle.fm_code.specs.declared.instr.Meet.TheVariants as meet
use Rattle.fm_code_kinds.specs.declared.kinds.Kind.{Kind}
use Rattle.fm_code_kinds.specs.declared.sorts.Shape.{Shape}
use Rattle.fm_code_kinds.specs.declared.sorts.Shapes.{Shapes}
use Rattle.fm_code_kinds.specs.Effects.{Effect, effect}
use Rattle.fm_code_kinds.specs.Effects as effects
use Rattle.fm_code_kinds.specs.Kinded.{Coded, Lists, results, IsAt, AreAt, IsFine, AreKinds, Kinded}
use Rattle.fm_code_kinds.specs.Leading.{leads}
use Rattle.fm_verify_unit.specs.Along.{behind, behind_at, kinds_at, IsFound, AllFound, mark_of, left_of, effect_at, AreMarks, is_marked, all_marked, lands, all_land}
use Rattle.fm_verify_unit.proofs.Results.{marked, mark_is, mark_at, marked_at}

abbrev some : {A : Type 0} → A → Option A
some x = Some x

some_is : {A : Type 0} (x y : A) → some x ≡ some y → x ≡ y
some_is x y e = cc

-- an instruction that is there is within the code
slice_inside : {X : Type 0} (xs : List X) (a : ℕ) (x : X) → slice_get xs a ≡ Some x → a < length xs
slice_inside [] a x e = absurd cc
slice_inside (y ∷ xs) zero x e = omega arith
slice_inside (y ∷ xs) (suc a) x e = omega (arith, slice_inside xs a x e)

stop : Instr
stop = instr.Meet meet.Stop

module _ (ss : Shapes) (u : Shape) (c : Coded) where
  abbrev K : Lists
  K = kinds_at ss u c.loops c.code

  abbrev at : (a : ℕ) → Instr → Effect
  at a i = effect_at ss u c.loops c.code a i

  next_is : (a : ℕ) (i : Instr) → slice_get c.code a ≡ Some i → K (suc a) ≡ behind (at a i)
  next_is a i e = ap (λ (o : Option Instr). behind_at ss u c.loops a o (K a)) e

  -- ---- its kinds are those lists

  module _ (lists : Lists) (k : AreKinds ss u c lists) where
    goes_alike : (a : ℕ) (e : Effect) → IsFine c.code lists a e → lists (suc a) ≡ behind e
    goes_alike a (effects.On ks) f = f.list
    goes_alike a (effects.Over to n) f = f.1
    goes_alike a effects.Ill f = absurd f

    pub same : (a : ℕ) → a ≤ length c.code → lists a ≡ K a
    same zero le = k.first
    same (suc a) le =
        let i = get_or c.code a stop in
        let e : slice_get c.code a ≡ Some i = slice_get-get_or c.code a stop (omega (arith, le)) in
        goes_alike a (effect ss u c.loops a i (lists a)) (k.each a i e)
        ∙ ap (λ (ks : List Kind). behind (effect ss u c.loops a i ks)) (same a (omega (arith, le))) ∙ sym (next_is a i e)

    fine_at : (a : ℕ) (i : Instr) → slice_get c.code a ≡ Some i → IsFine c.code lists a (at a i)
    fine_at a i e =
        let low = slice_inside c.code a i e in
        subst (λ (ks : List Kind). IsFine c.code lists a (effect ss u c.loops a i ks)) (same a (omega (arith, low))) (k.each a i e)

    found_in : (a : ℕ) (e : Effect) → IsFine c.code lists a e → IsFound c.code a e
    found_in a (effects.On ks) f = f.inside
    found_in a (effects.Over to n) f = tt
    found_in a effects.Ill f = absurd f

    pub all_found : (n : ℕ) → AllFound ss u c.loops c.code n
    all_found n a i low e = found_in a (at a i) (fine_at a i e)

    module _ (marks lefts : List (Option ℕ)) (m : AreMarks ss u c.loops c.code marks lefts (length c.code)) where
      at_marked : (t n : ℕ) → IsAt c.code lists t (results n) → is_marked n (slice_get marks t) ≡ true
      at_marked t n w =
          let o = get_or marks t None in
          let there : slice_get marks t ≡ Some o = slice_get-get_or marks t None (omega (arith, m.many, w.inside)) in
          let is : o ≡ some n = m.mark t o there ∙ ap mark_of (sym (same t (omega (arith, w.inside))) ∙ w.list) ∙ marked n in
          marked_at n (slice_get marks t) (there ∙ ap some is)

      are_marked : (ts : List ℕ) (n : ℕ) → AreAt c.code lists ts (results n) → all_marked marks n ts ≡ true
      are_marked [] n w = refl
      are_marked (t ∷ ts) n w = and_from (is_marked n (slice_get marks t)) (all_marked marks n ts) (at_marked t n w.0) (are_marked ts n w.1)

      lands_at : (a : ℕ) (i : Instr) (l : Option ℕ) → slice_get c.code a ≡ Some i → slice_get lefts a ≡ Some l → lands marks (Some l) i ≡ true
      lands_at a i l e f = go (at a i) refl (fine_at a i e) (m.left a i l e f)
        where
          go : (x : Effect) → at a i ≡ x → IsFine c.code lists a x → l ≡ left_of x → lands marks (Some l) i ≡ true
          go (effects.On ks) is fine left = rw left refl
          go (effects.Over to n) is fine left =
              let goes : to ≡ leads i = m.goes a i to n (slice_inside c.code a i e) e is in
              rw left (subst (λ (ts : List ℕ). all_marked marks n ts ≡ true) goes (are_marked to n fine.0))
          go effects.Ill is fine left = absurd fine

      all_lands : (b : ℕ) (ls : List (Option ℕ)) (is : List Instr)
          → ((a : ℕ) (i : Instr) → slice_get is a ≡ Some i → slice_get c.code (b + a) ≡ Some i) → ((a : ℕ) (l : Option ℕ) → slice_get ls a ≡ Some l → slice_get lefts (b + a) ≡ Some l) → all_land marks ls is ≡ true
      all_lands b [] is h g = refl
      all_lands b (l ∷ ls) [] h g = refl
      all_lands b (l ∷ ls) (i ∷ is) h g =
          let here = lands_at b i l (subst (λ (n : ℕ). slice_get c.code n ≡ Some i) (add-zero b) (h 0 i refl)) (subst (λ (n : ℕ). slice_get lefts n ≡ Some l) (add-zero b) (g 0 l refl)) in
          let more = all_lands (suc b) ls is (λ a j e. subst (λ (n : ℕ). slice_get c.code n ≡ Some j) (omega arith) (h (suc a) j e)) (λ a j e. subst (λ (n : ℕ). slice_get lefts n ≡ Some j) (omega arith) (g (suc a) j e)) in
          and_from (lands marks (Some l) i) (all_land marks ls is) here more

      pub entries_marked : (b : ℕ) (ts : List ℕ) → ((i a : ℕ) → slice_get ts i ≡ Some a → slice_get c.entries (b + i) ≡ Some a) → all_marked marks 0 ts ≡ true
      entries_marked b [] h = refl
      entries_marked b (a ∷ ts) h =
          and_from (is_marked 0 (slice_get marks a)) (all_marked marks 0 ts) (at_marked a 0 (k.entries b a (subst (λ (n : ℕ). slice_get c.entries n ≡ Some a) (add-zero b) (h 0 a refl)))) (entries_marked (suc b) ts (λ i x e. subst (λ (n : ℕ). slice_get c.entries n ≡ Some x) (omega arith) (h (suc i) x e)))

      pub tests_hold : (all_marked marks 0 c.entries && all_land marks lefts c.code) ≡ true
      tests_hold = and_from (all_marked marks 0 c.entries) (all_land marks lefts c.code)
          (entries_marked 0 c.entries (λ i a e. subst (λ (n : ℕ). slice_get c.entries n ≡ Some a) (omega arith) e))
          (all_lands 0 lefts c.code (λ a i e. subst (λ (n : ℕ). slice_get c.code n ≡ Some i) (omega arith) e) (λ a l e. subst (λ (n : ℕ). slice_get lefts n ≡ Some l) (omega arith) e))

  -- ---- those lists are its kinds

  module _ (found : AllFound ss u c.loops c.code (length c.code)) (marks lefts : List (Option ℕ)) (m : AreMarks ss u c.loops c.code marks lefts (length c.code)) where
    marked_is : (t n : ℕ) → is_marked n (slice_get marks t) ≡ true → IsAt c.code K t (results n)
    marked_is t n e =
        let there = mark_at n (slice_get marks t) e in
        record { inside = omega (arith, slice_inside marks t (some n) there, m.many); list = mark_is (K t) n (sym (m.mark t (some n) there)) }

    marked_are : (ts : List ℕ) (n : ℕ) → all_marked marks n ts ≡ true → AreAt c.code K ts (results n)
    marked_are [] n e = tt
    marked_are (t ∷ ts) n e = let p = and_parts (is_marked n (slice_get marks t)) (all_marked marks n ts) e in (marked_is t n p.0, marked_are ts n p.1)

    landed : (ls : List (Option ℕ)) (is : List Instr) → all_land marks ls is ≡ true → (a : ℕ) (i : Instr) (l : Option ℕ) → slice_get is a ≡ Some i → slice_get ls a ≡ Some l → lands marks (Some l) i ≡ true
    landed [] is e a i l f g = absurd cc
    landed (k ∷ ls) [] e a i l f g = absurd cc
    landed (k ∷ ls) (j ∷ is) e zero i l f g =
        let p = and_parts (lands marks (Some k) j) (all_land marks ls is) e in
        subst (λ (x : Option ℕ). lands marks (Some x) i ≡ true) (some_is k l g) (subst (λ (x : Instr). lands marks (Some k) x ≡ true) (some_is j i f) p.0)
    landed (k ∷ ls) (j ∷ is) e (suc a) i l f g = landed ls is (and_parts (lands marks (Some k) j) (all_land marks ls is) e).1 a i l f g

    module _ (tests : (all_marked marks 0 c.entries && all_land marks lefts c.code) ≡ true) where
      both : (all_marked marks 0 c.entries ≡ true) × (all_land marks lefts c.code ≡ true)
      both = and_parts (all_marked marks 0 c.entries) (all_land marks lefts c.code) tests

      fine_in : (a : ℕ) (i : Instr) → slice_get c.code a ≡ Some i → IsFine c.code K a (at a i)
      fine_in a i e =
          let low = slice_inside c.code a i e in
          let l = get_or lefts a None in
          let there : slice_get lefts a ≡ Some l = slice_get-get_or lefts a None (omega (arith, low, m.also)) in
          let lands_there = landed lefts c.code both.1 a i l e there in
          go (at a i) refl (found a i low e) l (m.left a i l e there) lands_there
        where
          go : (x : Effect) → at a i ≡ x → IsFound c.code a x → (l : Option ℕ) → l ≡ left_of x → lands marks (Some l) i ≡ true → IsFine c.code K a x
          go (effects.On ks) is f l left t = record { inside = f; list = next_is a i e ∙ ap behind is }
          go (effects.Over to n) is f l left t =
              let goes : to ≡ leads i = m.goes a i to n (slice_inside c.code a i e) e is in
              let marked_to : all_marked marks n (leads i) ≡ true = subst (λ (x : Option ℕ). lands marks (Some x) i ≡ true) left t in
              (marked_are to n (subst (λ (ts : List ℕ). all_marked marks n ts ≡ true) (sym goes) marked_to), next_is a i e ∙ ap behind is)
          go effects.Ill is f l left t = absurd f

      entry_in : (ts : List ℕ) → all_marked marks 0 ts ≡ true → (i a : ℕ) → slice_get ts i ≡ Some a → IsAt c.code K a []
      entry_in [] e i a f = absurd cc
      entry_in (b ∷ ts) e zero a f = subst (λ (x : ℕ). IsAt c.code K x []) (some_is b a f) (marked_is b 0 (and_parts (is_marked 0 (slice_get marks b)) (all_marked marks 0 ts) e).0)
      entry_in (b ∷ ts) e (suc i) a f = entry_in ts (and_parts (is_marked 0 (slice_get marks b)) (all_marked marks 0 ts) e).1 i a f

      pub kinds_are : AreKinds ss u c K
      kinds_are = record { first = refl; entries = entry_in c.entries both.0; each = fine_in }

  -- ---- both

  pub no_kinds : (AllFound ss u c.loops c.code (length c.code) → ⊥) → IsTrue false ↔ Kinded ss u c
  no_kinds h = (λ t. absurd cc, λ k. absurd (h (all_found k.0 k.1 (length c.code))))

  pub some_kinds : (found : AllFound ss u c.loops c.code (length c.code)) (marks lefts : List (Option ℕ)) → AreMarks ss u c.loops c.code marks lefts (length c.code)
      → (b : Bool) → b ≡ (all_marked marks 0 c.entries && all_land marks lefts c.code) → IsTrue b ↔ Kinded ss u c
  some_kinds found marks lefts m b e = (λ t. (K, kinds_are found marks lefts m (sym e ∙ t)), λ k. e ∙ tests_hold k.0 k.1 marks lefts m)
