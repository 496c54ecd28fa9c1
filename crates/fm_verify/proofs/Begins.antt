-- The tests of entries and of joins hold exactly where they make sense.
use Rattle.std.proofs.Common.{◌≡◌, ℕ, zero, suc, ◌+◌, ◌≤◌, Bool, true, false, cond, not, Option, Some, List, [], ◌∷◌, slice_get, refl, subst, add-one, arith}
use Rattle.std.specs.Prelude.{nat_le}
use Rattle.std.specs.List.{Contains}
use Rattle.std.proofs.lemmas.Bool.{and_parts, and_from, eqb-true, eq-eqb, leb-true, le-leb, not-true, not_from_false}
use Rattle.fm_code.specs.declared.instr.Instr.{Instr}
use Rattle.fm_code_kinds.specs.Kinded.{Coded}
use Rattle.fm_code_kinds.specs.Leading.{JoinsStand, goes, is_begin, is_join}
use Rattle.fm_image_typed.specs.Typed.{BeginAt, Rise}
use Rattle.fm_verify.specs.Tests.{begin_at_first, rise_from, none_joins, join_stands, joins_from, joins_stand}

abbrev some : {A : Type 0} → A → Option A
some x = Some x

some_is : {A : Type 0} (x y : A) → some x ≡ some y → x ≡ y
some_is x y e = cc

-- ---- entries

pub begin_so : (xs : List ℕ) → begin_at_first xs ≡ true → BeginAt 0 xs
begin_so [] e = absurd cc
begin_so (a ∷ xs) e = eqb-true a 0 e

pub begin_from : (xs : List ℕ) → BeginAt 0 xs → begin_at_first xs ≡ true
begin_from [] h = absurd h
begin_from (a ∷ xs) h = eq-eqb a 0 h

pub rise_so : (low : ℕ) (xs : List ℕ) → rise_from low xs ≡ true → Rise xs
rise_so low [] e = tt
rise_so low (a ∷ []) e = tt
rise_so low (a ∷ b ∷ xs) e =
    let p = and_parts (nat_le low a) (rise_from (a + 1) (b ∷ xs)) e in
    let q = and_parts (nat_le (a + 1) b) (rise_from (b + 1) xs) p.1 in
    (omega (arith, leb-true (a + 1) b q.0), rise_so (a + 1) (b ∷ xs) p.1)

rise_back : (low a : ℕ) (xs : List ℕ) → low ≤ a → Rise (a ∷ xs) → rise_from low (a ∷ xs) ≡ true
rise_back low a [] le h = and_from (nat_le low a) true (le-leb low a le) refl
rise_back low a (b ∷ xs) le h = and_from (nat_le low a) (rise_from (a + 1) (b ∷ xs)) (le-leb low a le) (rise_back (a + 1) b xs (omega (arith, h.0)) h.1)

pub rise_back_all : (xs : List ℕ) → Rise xs → rise_from 0 xs ≡ true
rise_back_all [] h = refl
rise_back_all (a ∷ xs) h = rise_back 0 a xs (omega arith) h

-- ---- joins

none_at : (code : List Instr) (ts : List ℕ) → none_joins code ts ≡ true → (to : ℕ) → Contains ts to → is_join (slice_get code to) ≡ false
none_at code [] e to h = absurd (omega (arith, h.1))
none_at code (t ∷ ts) e to (zero, l, is) =
    let p = and_parts (not (is_join (slice_get code t))) (none_joins code ts) e in
    subst (λ (x : ℕ). is_join (slice_get code x) ≡ false) is (not-true (is_join (slice_get code t)) p.0)
none_at code (t ∷ ts) e to (suc k, l, is) =
    none_at code ts (and_parts (not (is_join (slice_get code t))) (none_joins code ts) e).1 to (k, omega (arith, l), is)

none_from : (code : List Instr) (ts : List ℕ) → ((to : ℕ) → Contains ts to → is_join (slice_get code to) ≡ false) → none_joins code ts ≡ true
none_from code [] h = refl
none_from code (t ∷ ts) h =
    and_from (not (is_join (slice_get code t))) (none_joins code ts) (not_from_false (is_join (slice_get code t)) (h t (0, omega arith, refl)))
    (none_from code ts (λ to c. h to (suc c.0, omega (arith, c.1), c.2)))

none_there : (code : List Instr) (ts : List ℕ) → none_joins code ts ≡ true → (k a : ℕ) → slice_get ts k ≡ Some a → is_join (slice_get code a) ≡ false
none_there code [] e k a f = absurd cc
none_there code (t ∷ ts) e zero a f =
    subst (λ (x : ℕ). is_join (slice_get code x) ≡ false) (some_is t a f) (not-true (is_join (slice_get code t)) (and_parts (not (is_join (slice_get code t))) (none_joins code ts) e).0)
none_there code (t ∷ ts) e (suc k) a f = none_there code ts (and_parts (not (is_join (slice_get code t))) (none_joins code ts) e).1 k a f

none_where : (code : List Instr) (ts : List ℕ) → ((k a : ℕ) → slice_get ts k ≡ Some a → is_join (slice_get code a) ≡ false) → none_joins code ts ≡ true
none_where code [] h = refl
none_where code (t ∷ ts) h =
    and_from (not (is_join (slice_get code t))) (none_joins code ts) (not_from_false (is_join (slice_get code t)) (h 0 t refl)) (none_where code ts (λ k a e. h (suc k) a e))

each_stands : (code : List Instr) (n : ℕ) (is : List Instr) → joins_from code n is ≡ true → (j : ℕ) (i : Instr) → slice_get is j ≡ Some i → join_stands code (n + j) i ≡ true
each_stands code n [] e j i f = absurd cc
each_stands code n (x ∷ xs) e zero i f =
    subst (λ (m : ℕ). join_stands code m i ≡ true) (omega arith) (subst (λ (y : Instr). join_stands code n y ≡ true) (some_is x i f) (and_parts (join_stands code n x) (joins_from code (n + 1) xs) e).0)
each_stands code n (x ∷ xs) e (suc j) i f =
    subst (λ (m : ℕ). join_stands code m i ≡ true) (omega arith) (each_stands code (n + 1) xs (and_parts (join_stands code n x) (joins_from code (n + 1) xs) e).1 j i f)

all_stand : (code : List Instr) (n : ℕ) (is : List Instr) → ((j : ℕ) (i : Instr) → slice_get is j ≡ Some i → join_stands code (n + j) i ≡ true) → joins_from code n is ≡ true
all_stand code n [] h = refl
all_stand code n (x ∷ xs) h =
    and_from (join_stands code n x) (joins_from code (n + 1) xs) (subst (λ (m : ℕ). join_stands code m x ≡ true) (omega arith) (h 0 x refl))
    (all_stand code (n + 1) xs (λ j i f. subst (λ (m : ℕ). join_stands code m i ≡ true) (omega arith) (h (suc j) i f)))

stands_from : (code : List Instr) (a : ℕ) (i : Instr) → (is_begin i ≡ true → is_join (slice_get code (suc a)) ≡ true) → (is_begin i ≡ false → none_joins code (goes a i) ≡ true) → join_stands code a i ≡ true
stands_from code a i where_so where_not = go (is_begin i) refl
  where
    go : (b : Bool) → is_begin i ≡ b → cond b (is_join (slice_get code (a + 1))) (none_joins code (goes a i)) ≡ true
    go true e = subst (λ (n : ℕ). is_join (slice_get code n) ≡ true) (omega arith) (where_so e)
    go false e = where_not e

pub joins_so : (c : Coded) → joins_stand c.code c.entries ≡ true → JoinsStand c
joins_so c e =
    let p = and_parts (joins_from c.code 0 c.code) (none_joins c.code c.entries) e in
    record { behind = behind p.0; alone = alone p.0; entries = λ k a f. none_there c.code c.entries p.1 k a f }
  where
    here : joins_from c.code 0 c.code ≡ true → (a : ℕ) (i : Instr) → slice_get c.code a ≡ Some i → join_stands c.code a i ≡ true
    here h a i f = subst (λ (m : ℕ). join_stands c.code m i ≡ true) (omega arith) (each_stands c.code 0 c.code h a i f)

    behind : joins_from c.code 0 c.code ≡ true → (a : ℕ) (i : Instr) → slice_get c.code a ≡ Some i → is_begin i ≡ true → is_join (slice_get c.code (suc a)) ≡ true
    behind h a i f b = subst (λ (n : ℕ). is_join (slice_get c.code n) ≡ true) (add-one a) (rw b at (here h a i f))

    alone : joins_from c.code 0 c.code ≡ true → (a to : ℕ) (i : Instr) → slice_get c.code a ≡ Some i → is_begin i ≡ false → Contains (goes a i) to → is_join (slice_get c.code to) ≡ false
    alone h a to i f b g = none_at c.code (goes a i) (rw b at (here h a i f)) to g

pub joins_back : (c : Coded) → JoinsStand c → joins_stand c.code c.entries ≡ true
joins_back c h =
    and_from (joins_from c.code 0 c.code) (none_joins c.code c.entries)
    (all_stand c.code 0 c.code (λ j i f. subst (λ (m : ℕ). join_stands c.code m i ≡ true) (omega arith)
    (stands_from c.code j i (h.behind j i f) (λ b. none_from c.code (goes j i) (λ to g. h.alone j to i f b g)))))
    (none_where c.code c.entries h.entries)
