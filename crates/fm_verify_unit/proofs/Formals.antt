-- Formals by their places, put there from the last variable on.
use Rattle.std.proofs.Common.{◌≡◌, ℕ, zero, suc, ◌-◌, ◌<◌, ◌≤◌, ◌==◌, Bool, true, false, Option, Some, None, List, [], ◌∷◌, length, drop, replicate, slice_get, refl, sym, ap, ◌∙◌, arith}
use Rattle.std.specs.Prelude.{slice_set}
use Rattle.std.proofs.lemmas.Bool.{eqb-true, eqb-false, eq-eqb, ne_eqb}
use Rattle.fm_code_kinds.specs.declared.sorts.Cell.{Cell}
use Rattle.fm_code_kinds.specs.Shapes.{formal_at}
use Rattle.fm_verify_unit.specs.Formals.{HasFormals, with_formal}

abbrev some : {A : Type 0} → A → Option A
some x = Some x

some_is : {A : Type 0} (x y : A) → some x ≡ some y → x ≡ y
some_is x y e = cc

abbrev nobody : Option Cell
nobody = None

-- each of so many places has the formal of these variables
pub record AreFilled (formals : List (Option Cell)) (places : ℕ) (cells : List Cell) : Type 0 where
  pub many : length formals ≡ places
  pub each : (p : ℕ) → p < length formals → slice_get formals p ≡ Some (formal_at cells (suc p))

-- ---- none

nothing : (n p : ℕ) → p < n → slice_get (replicate n nobody) p ≡ Some nobody
nothing zero p l = absurd (omega (arith, l))
nothing (suc n) zero l = refl
nothing (suc n) (suc p) l = nothing n p (omega (arith, l))

length_nothing : (n : ℕ) → length (replicate n nobody) ≡ n
length_nothing zero = refl
length_nothing (suc n) = ap suc (length_nothing n)

drop_all : {X : Type 0} (xs : List X) → drop (length xs) xs ≡ []
drop_all [] = refl
drop_all (x ∷ xs) = drop_all xs

pub none_filled : (fs : List (Option Cell)) (cs : List Cell) → fs ≡ replicate (length cs) nobody → AreFilled fs (length cs) (drop (length cs) cs)
none_filled fs cs e =
    rw (e, drop_all cs) (record { many = length_nothing (length cs); each = λ p l. nothing (length cs) p (omega (arith, l, length_nothing (length cs))) })

-- ---- a list with one item set

pub set_here : {X : Type 0} (xs : List X) (q : ℕ) (v : X) → q < length xs → slice_get (slice_set xs q v) q ≡ Some v
set_here [] q v l = absurd (omega (arith, l))
set_here (x ∷ xs) zero v l = refl
set_here (x ∷ xs) (suc q) v l = set_here xs q v (omega (arith, l))

pub set_there : {X : Type 0} (xs : List X) (q p : ℕ) (v : X) → (p ≡ q → ⊥) → slice_get (slice_set xs q v) p ≡ slice_get xs p
set_there [] q p v n = refl
set_there (x ∷ xs) zero zero v n = absurd (n refl)
set_there (x ∷ xs) zero (suc p) v n = refl
set_there (x ∷ xs) (suc q) zero v n = refl
set_there (x ∷ xs) (suc q) (suc p) v n = set_there xs q p v (λ e. n (ap suc e))

pub set_length : {X : Type 0} (xs : List X) (q : ℕ) (v : X) → length (slice_set xs q v) ≡ length xs
set_length [] q v = refl
set_length (x ∷ xs) zero v = refl
set_length (x ∷ xs) (suc q) v = ap suc (set_length xs q v)

pub set_past : {X : Type 0} (xs : List X) (q : ℕ) (v : X) → length xs ≤ q → slice_set xs q v ≡ xs
set_past [] q v l = refl
set_past (x ∷ xs) zero v l = absurd (omega (arith, l))
set_past {X = X} (x ∷ xs) (suc q) v l = ap (λ (ys : List X). x ∷ ys) (set_past xs q v (omega (arith, l)))

-- ---- one more

put_length : (fs : List (Option Cell)) (c : Cell) (place : ℕ) → length (with_formal fs c place) ≡ length fs
put_length fs c zero = refl
put_length fs c (suc q) = set_length fs q (some c)

not_placed : (c : Cell) (p : ℕ) → c.formal ≡ 0 → (c.formal == suc p) ≡ false
not_placed c p z = ne_eqb c.formal (suc p) (λ e. omega (arith, z, e))

here : (fs : List (Option Cell)) (c : Cell) (cs : List Cell) (q p : ℕ) → c.formal ≡ suc q → p ≡ q → p < length fs → slice_get (slice_set fs q (some c)) p ≡ Some (formal_at (c ∷ cs) (suc p))
here fs c cs q p is e l =
    let t : (c.formal == suc p) ≡ true = eq-eqb c.formal (suc p) (is ∙ ap suc (sym e)) in
    rw t (ap (slice_get (slice_set fs q (some c))) e ∙ set_here fs q (some c) (omega (arith, e, l)))

there : (fs : List (Option Cell)) (c : Cell) (cs : List Cell) (q p : ℕ) → c.formal ≡ suc q → (p ≡ q → ⊥) → slice_get fs p ≡ Some (formal_at cs (suc p)) → slice_get (slice_set fs q (some c)) p ≡ Some (formal_at (c ∷ cs) (suc p))
there fs c cs q p is n e =
    let f : (c.formal == suc p) ≡ false = ne_eqb c.formal (suc p) (λ g. n (omega (arith, is, g))) in
    rw f (set_there fs q p (some c) n ∙ e)

put_each : (fs : List (Option Cell)) (c : Cell) (cs : List Cell) (place : ℕ) → c.formal ≡ place
    → (p : ℕ) → p < length fs → slice_get fs p ≡ Some (formal_at cs (suc p)) → slice_get (with_formal fs c place) p ≡ Some (formal_at (c ∷ cs) (suc p))
put_each fs c cs zero is p l e = rw (not_placed c p is) e
put_each fs c cs (suc q) is p l e = go (p == q) refl
  where
    go : (b : Bool) → (p == q) ≡ b → slice_get (slice_set fs q (some c)) p ≡ Some (formal_at (c ∷ cs) (suc p))
    go true same = here fs c cs q p is (eqb-true p q same) l
    go false other = there fs c cs q p is (eqb-false p q other) e

pub filled_more : (fs : List (Option Cell)) (places : ℕ) (c : Cell) (cs : List Cell) → AreFilled fs places cs → AreFilled (with_formal fs c c.formal) places (c ∷ cs)
filled_more fs places c cs h = record {
  many = put_length fs c c.formal ∙ h.many;
  each = λ p l. put_each fs c cs c.formal refl p (omega (arith, l, put_length fs c c.formal)) (h.each p (omega (arith, l, put_length fs c c.formal)));
}

drop_there : {X : Type 0} (xs : List X) (k : ℕ) (x : X) → slice_get xs k ≡ Some x → drop k xs ≡ x ∷ drop (suc k) xs
drop_there [] k x e = absurd cc
drop_there {X = X} (y ∷ ys) zero x e = ap (λ (z : X). z ∷ ys) (some_is y x e)
drop_there (y ∷ ys) (suc k) x e = drop_there ys k x e

pub filled_before : (fs gs : List (Option Cell)) (cs : List Cell) (place : ℕ) (c : Cell) → AreFilled fs (length cs) (drop place cs) → 1 ≤ place → slice_get cs (place - 1) ≡ Some c
    → gs ≡ with_formal fs c c.formal → AreFilled gs (length cs) (drop (place - 1) cs)
filled_before fs gs cs place c h some e f =
    let up : place ≡ suc (place - 1) = omega (arith, some) in
    let there : drop (place - 1) cs ≡ c ∷ drop place cs = drop_there cs (place - 1) c e ∙ ap (λ (n : ℕ). c ∷ drop n cs) (sym up) in
    rw (f, there) (filled_more fs (length cs) c (drop place cs) h)

-- ---- all

pub all_filled : (fs : List (Option Cell)) (cs : List Cell) → AreFilled fs (length cs) cs → HasFormals fs cs
all_filled fs cs h = record { many = h.many; each = h.each }
