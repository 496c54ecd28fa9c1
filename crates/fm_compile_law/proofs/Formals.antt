-- The places of the formals of a unit are the numbers from 1 to their number, each once.
use Rattle.std.proofs.Common.{◌≡◌, ℕ, zero, suc, ◌+◌, ◌<◌, ◌≤◌, ◌==◌, Bool, true, false, cond, ◌&&◌, not, Some, List, [], ◌∷◌, map, length, slice_get, refl, sym, ap, ◌∙◌, subst, arith}
use Rattle.std.specs.Prelude.{filter, nat_le}
use Rattle.std.specs.List.{AllByRecursion}
use Rattle.std.proofs.lemmas.Bool.{eqb-true}
use Rattle.std.proofs.lemmas.Bool.Decides.{nat_tests}
use Rattle.fm_symbols.specs.declared.names.Variable.{Variable}
use Rattle.fm_rules.specs.declared.program.Program.{Program}
use Rattle.fm_mean.specs.Calls as calls
use Rattle.fm_mean.specs.Names.{ProgramUnit, formal_from, unit_at}
use Rattle.fm_gen_relation.specs.Sound.{formals_among}
use Rattle.fm_gen_relation.proofs.Numbered.{formals_numbered}
use Rattle.fm_object.specs.declared.image.Cell.{Cell}
use Rattle.fm_image_typed.specs.Typed.{FormalsHavePlaces, how_many, is_formal}
use Rattle.fm_object.specs.declared.image.FieldImage.{FieldImage}
use Rattle.fm_image.specs.ImageOf.{cell_image}

the_variable : (a b : Variable) → Some a ≡ Some b → a ≡ b
the_variable a b e = cc

-- ---- counting

counted_map : {X Y : Type 0} (f : X → Y) (test : Y → Bool) (xs : List X) → how_many test (map f xs) ≡ how_many (λ x. test (f x)) xs
counted_map f test [] = refl
counted_map f test (x ∷ xs) = go (test (f x)) (counted_map f test xs)
  where
    go : (b : Bool) → how_many test (map f xs) ≡ how_many (λ x. test (f x)) xs → length (cond b (f x ∷ filter test (map f xs)) (filter test (map f xs))) ≡ length (cond b (x ∷ filter (λ x. test (f x)) xs) (filter (λ x. test (f x)) xs))
    go true e = ap suc e
    go false e = e

abbrev one_if : Bool → ℕ
one_if b = cond b 1 0

abbrev one_of : (ℕ → Bool) → List Variable → ℕ
one_of test vs = how_many (λ (v : Variable). test v.formal) vs

one_more : (test : ℕ → Bool) (v : Variable) (vs : List Variable) → one_of test (v ∷ vs) ≡ one_if (test v.formal) + one_of test vs
one_more test v vs = go (test v.formal)
  where
    go : (b : Bool) → length (cond b (v ∷ filter (λ (v : Variable). test v.formal) vs) (filter (λ (v : Variable). test v.formal) vs)) ≡ one_if b + one_of test vs
    go true = omega arith
    go false = omega arith

-- from 1 to a number
abbrev up_to : ℕ → ℕ → Bool
up_to k n = not (n == 0) && nat_le n k

next_number : (k n : ℕ) → one_if (up_to (suc k) n) ≡ one_if (up_to k n) + one_if (n == suc k)
next_number k n = grind (arith, nat_tests)

next_counted : (k : ℕ) (vs : List Variable) → one_of (up_to (suc k)) vs ≡ one_of (up_to k) vs + one_of (λ n. n == suc k) vs
next_counted k [] = omega arith
next_counted k (v ∷ vs) = omega (arith, one_more (up_to (suc k)) v vs, one_more (up_to k) v vs, one_more (λ n. n == suc k) v vs, next_number k v.formal, next_counted k vs)

no_number : (n : ℕ) → one_if (up_to 0 n) ≡ 0
no_number n = grind (arith, nat_tests)

none_counted : (vs : List Variable) → one_of (up_to 0) vs ≡ 0
none_counted [] = refl
none_counted (v ∷ vs) = omega (arith, one_more (up_to 0) v vs, no_number v.formal, none_counted vs)

within_all : (m n : ℕ) → n ≤ m → one_if (up_to m n) ≡ one_if (not (n == 0))
within_all m n le = grind (arith, nat_tests)

all_counted : (m : ℕ) (vs : List Variable) → AllByRecursion (λ (v : Variable). v.formal ≤ m) vs → one_of (up_to m) vs ≡ one_of (λ n. not (n == 0)) vs
all_counted m [] h = refl
all_counted m (v ∷ vs) h = omega (arith, one_more (up_to m) v vs, one_more (λ n. not (n == 0)) v vs, within_all m v.formal h.0, all_counted m vs h.1)

-- ---- numbers that stand once

abbrev Apart : List Variable → Type 0
Apart vs = (i j : ℕ) (v w : Variable) (n : ℕ) → slice_get vs i ≡ Some v → slice_get vs j ≡ Some w → v.formal ≡ suc n → w.formal ≡ suc n → i ≡ j

later_apart : (v : Variable) (vs : List Variable) → Apart (v ∷ vs) → Apart vs
later_apart v vs h i j x y n a b e f = let same = h (suc i) (suc j) x y n a b e f in omega (arith, same)

none_of : (n : ℕ) (vs : List Variable) → ((j : ℕ) (w : Variable) → slice_get vs j ≡ Some w → w.formal ≡ suc n → ⊥) → one_of (λ m. m == suc n) vs ≡ 0
none_of n [] h = refl
none_of n (v ∷ vs) h = go (v.formal == suc n) refl (none_of n vs (λ j w at e. h (suc j) w at e))
  where
    go : (b : Bool) → (v.formal == suc n) ≡ b → one_of (λ m. m == suc n) vs ≡ 0 → length (cond b (v ∷ filter (λ (v : Variable). v.formal == suc n) vs) (filter (λ (v : Variable). v.formal == suc n) vs)) ≡ 0
    go true is rest = absurd (h zero v refl (eqb-true v.formal (suc n) is))
    go false is rest = rest

at_most_one : (n : ℕ) (vs : List Variable) → Apart vs → one_of (λ m. m == suc n) vs ≤ 1
at_most_one n [] h = omega arith
at_most_one n (v ∷ vs) h = go (v.formal == suc n) refl (at_most_one n vs (later_apart v vs h))
  where
    go : (b : Bool) → (v.formal == suc n) ≡ b → one_of (λ m. m == suc n) vs ≤ 1 → length (cond b (v ∷ filter (λ (v : Variable). v.formal == suc n) vs) (filter (λ (v : Variable). v.formal == suc n) vs)) ≤ 1
    go true is rest =
        let none = none_of n vs (λ j w at e. absurd (omega (arith, h zero (suc j) v w n refl at (eqb-true v.formal (suc n) is) e))) in
        omega (arith, none)
    go false is rest = rest

module _ (vs : List Variable) (apart : Apart vs) (m : ℕ) (all : AllByRecursion (λ (v : Variable). v.formal ≤ m) vs) (many : one_of (λ n. not (n == 0)) vs ≡ m) where
  at_most : (k : ℕ) → one_of (up_to k) vs ≤ k
  at_most zero = omega (arith, none_counted vs)
  at_most (suc k) = omega (arith, next_counted k vs, at_most k, at_most_one k vs apart)

  at_least : (d k : ℕ) → k + d ≡ m → k ≤ one_of (up_to k) vs
  at_least zero k e =
      let here : k ≡ m = omega (arith, e) in
      subst (λ (j : ℕ). j ≤ one_of (up_to j) vs) (sym here) (omega (arith, all_counted m vs all, many))
  at_least (suc d) k e = omega (arith, at_least d (suc k) (omega (arith, e)), next_counted k vs, at_most_one k vs apart)

  just_one : (n : ℕ) → n < m → one_of (λ x. x == suc n) vs ≡ 1
  just_one n less = rest (m_less n less)
    where
      m_less : (n : ℕ) → n < m → (d : ℕ) × (suc n + d ≡ m)
      m_less n less = difference (suc n) m (omega (arith, less))
        where
          difference : (a b : ℕ) → a ≤ b → (d : ℕ) × (a + d ≡ b)
          difference zero b le = (b, omega arith)
          difference (suc a) zero le = absurd (omega (arith, le))
          difference (suc a) (suc b) le = let r = difference a b (omega (arith, le)) in (r.0, omega (arith, r.1))

      rest : (d : ℕ) × (suc n + d ≡ m) → one_of (λ x. x == suc n) vs ≡ 1
      rest r = omega (arith, at_least r.0 (suc n) r.1, at_most n, next_counted n vs, at_most_one n vs apart)

-- ---- the formals of a unit

-- what is found by its number has it
has_number : (base n i : ℕ) (vs : List Variable) (v : Variable) → formal_from base n vs ≡ base + i → slice_get vs i ≡ Some v → v.formal ≡ n
has_number base n i [] v e at = absurd cc
has_number base n zero (w ∷ vs) v e at = go (w.formal == n) refl e
  where
    later : (base : ℕ) (vs : List Variable) → base ≤ formal_from base n vs
    later base [] = omega arith
    later base (x ∷ vs) = more (x.formal == n) (later (suc base) vs)
      where
        more : (b : Bool) → suc base ≤ formal_from (suc base) n vs → base ≤ cond b base (formal_from (suc base) n vs)
        more true le = omega arith
        more false le = omega (arith, le)

    go : (b : Bool) → (w.formal == n) ≡ b → cond b base (formal_from (suc base) n vs) ≡ base + 0 → v.formal ≡ n
    go true is e = ap (λ (x : Variable). x.formal) (sym (the_variable w v at)) ∙ eqb-true w.formal n is
    go false is e = absurd (omega (arith, e, later (suc base) vs))
has_number base n (suc i) (w ∷ vs) v e at = go (w.formal == n) e (λ f. has_number (suc base) n i vs v f at)
  where
    go : (b : Bool) → cond b base (formal_from (suc base) n vs) ≡ base + suc i → (formal_from (suc base) n vs ≡ suc base + i → v.formal ≡ n) → v.formal ≡ n
    go true e rest = absurd (omega (arith, e))
    go false e rest = rest (omega (arith, e))

module _ (p : Program) (number : ℕ) (u : ProgramUnit) (here : unit_at p number ≡ Some u) where
  abbrev vs : List Variable
  vs = u.names.variables

  -- its place, where it is a formal
  record IsPlaced (i : ℕ) (v : Variable) : Type 0 where
    found : formal_from 0 v.formal vs ≡ i
    few : v.formal ≤ length (formals_among vs)

  placed : (i : ℕ) (v : Variable) → slice_get vs i ≡ Some v → (n : ℕ) → v.formal ≡ suc n → IsPlaced i v
  placed i v at n e =
      let h = formals_numbered p number u here v i at (ap calls.is_formal e) in
      let from : formal_from 0 (suc h.0) vs ≡ 0 + i = h.1 ∙ omega arith in
      let same : v.formal ≡ suc h.0 = has_number 0 (suc h.0) i vs v from at in
      record { found = ap (λ (n : ℕ). formal_from 0 n vs) same ∙ h.1; few = omega (arith, same, h.2) }

  apart : Apart vs
  apart i j v w n a b e f =
      let x = placed i v a n e in
      let y = placed j w b n f in
      sym x.found ∙ ap (λ (n : ℕ). formal_from 0 n vs) (e ∙ sym f) ∙ y.found

  low_at : (i : ℕ) (v : Variable) → slice_get vs i ≡ Some v → v.formal ≤ length (formals_among vs)
  low_at i v at = go v.formal refl
    where
      go : (n : ℕ) → v.formal ≡ n → v.formal ≤ length (formals_among vs)
      go zero e = omega (arith, e)
      go (suc n) e = (placed i v at n e).few

  low_all : (ws : List Variable) → ((i : ℕ) (v : Variable) → slice_get ws i ≡ Some v → v.formal ≤ length (formals_among vs)) → AllByRecursion (λ (v : Variable). v.formal ≤ length (formals_among vs)) ws
  low_all [] h = tt
  low_all (w ∷ ws) h = (h zero w refl, low_all ws (λ i v at. h (suc i) v at))

  same_test : (n : ℕ) → not (n == 0) ≡ calls.is_formal n
  same_test zero = refl
  same_test (suc n) = grind (arith, nat_tests)

  many_are : (ws : List Variable) → one_of (λ n. not (n == 0)) ws ≡ length (formals_among ws)
  many_are [] = refl
  many_are (w ∷ ws) =
      ap (λ b. length (cond b (w ∷ filter (λ (v : Variable). not (v.formal == 0)) ws) (filter (λ (v : Variable). not (v.formal == 0)) ws))) (same_test w.formal) ∙ go (calls.is_formal w.formal) (many_are ws)
    where
      go : (b : Bool) → one_of (λ n. not (n == 0)) ws ≡ length (formals_among ws)
          → length (cond b (w ∷ filter (λ (v : Variable). not (v.formal == 0)) ws) (filter (λ (v : Variable). not (v.formal == 0)) ws)) ≡ length (cond b (w ∷ formals_among ws) (formals_among ws))
      go true e = ap suc e
      go false e = e

  module _ (ts : List (List FieldImage)) where
    abbrev cells : List Cell
    cells = map (cell_image ts) vs

    pub as_many : how_many is_formal cells ≡ length (formals_among vs)
    as_many = counted_map (cell_image ts) is_formal vs ∙ many_are vs

    low_cells : (m : ℕ) (ws : List Variable) → AllByRecursion (λ (v : Variable). v.formal ≤ m) ws → AllByRecursion (λ (c : Cell). c.formal ≤ m) (map (cell_image ts) ws)
    low_cells m [] h = tt
    low_cells m (w ∷ ws) h = (h.0, low_cells m ws h.1)

    pub places : FormalsHavePlaces cells
    places =
        let m = length (formals_among vs) in
        let low = low_all vs low_at in
        record {
          low = subst (λ (k : ℕ). AllByRecursion (λ (c : Cell). c.formal ≤ k) cells) (sym as_many) (low_cells m vs low);
          once = λ n less. counted_map (cell_image ts) (λ (c : Cell). c.formal == suc n) vs ∙ just_one vs apart m low (many_are vs) n (omega (arith, less, as_many));
        }
