-- Flags of the numbers that have been met.
use Rattle.std.proofs.Common.{◌≡◌, ℕ, suc, zero, ◌+◌, ◌<◌, ◌≤◌, ◌⊎◌, inl, inr, ⊎_elim, Bool, true, false, not, ◌||◌, ◌&&◌, ◌==◌, List, [], ◌∷◌, ◌++◌, length, replicate, get_or, set, refl, sym, ap, ◌∙◌, subst, arith}
use Rattle.std.proofs.lemmas.Bool.{cases_eq, eq-eqb}
use Rattle.std.proofs.lemmas.Bool.Decides.{nat_tests}
use Rattle.std.proofs.lemmas.List.{get_or-replicate, get_or-set_same, get_or-set_other, length-replicate, length-set}
use Rattle.fm_flow_law.specs.Flow.{all_among, any_among, is_among, repeats}
use Rattle.fm_flow.specs.Marks.{all_flags, any_flag, comes_again, flag_at, marked}

-- all of them are below a number
abbrev pub AreBelow : ℕ → List ℕ → Type 0
AreBelow count [] = Unit {0}
AreBelow count (n ∷ ns) = (n < count) × AreBelow count ns

pub below_both : (count : ℕ) (ms ns : List ℕ) → AreBelow count ms → AreBelow count ns → AreBelow count (ms ++ ns)
below_both count [] ns h g = g
below_both count (m ∷ ms) ns h g = (h.0, below_both count ms ns h.1 g)

-- the flags tell which numbers have been met
pub record Tells (count : ℕ) (flags : List Bool) (met : ℕ → Bool) : Type 0 where
  pub sized : length flags ≡ count
  pub told : (i : ℕ) → i < count → flag_at flags i ≡ met i

or_false : (a : Bool) → (a || false) ≡ a
or_false true = refl
or_false false = refl

pub or_swap : (a b : Bool) → (a || b) ≡ (b || a)
or_swap true true = refl
or_swap true false = refl
or_swap false true = refl
or_swap false false = refl

or_turn : (a b c : Bool) → (a || (b || c)) ≡ ((b || a) || c)
or_turn true true c = refl
or_turn true false c = refl
or_turn false true c = refl
or_turn false false c = refl

pub among_both : (i : ℕ) (ms ns : List ℕ) → is_among i (ms ++ ns) ≡ (is_among i ms || is_among i ns)
among_both i [] ns = refl
among_both i (m ∷ ms) ns = ap (λ b. (m == i) || b) (among_both i ms ns) ∙ or_assoc (m == i) (is_among i ms) (is_among i ns)
  where
    or_assoc : (a b c : Bool) → (a || (b || c)) ≡ ((a || b) || c)
    or_assoc true b c = refl
    or_assoc false b c = refl

is_not : (n i : ℕ) → (i ≡ n → ⊥) → (n == i) ≡ false
is_not n i other = go (n == i) refl
  where
    go : (b : Bool) → (n == i) ≡ b → (n == i) ≡ false
    go false e = e
    go true e = let same : n ≡ i = grind (arith, nat_tests) in absurd (other (sym same))

pub tells_none : (count : ℕ) → Tells count (replicate count false) (λ i. is_among i [])
tells_none count = record { sized = length-replicate count false; told = λ i less. get_or-replicate count i false false less }

pub tells_same : (count : ℕ) (flags : List Bool) (met also : ℕ → Bool) → ((i : ℕ) → met i ≡ also i) → Tells count flags met → Tells count flags also
tells_same count flags met also same h = record { sized = h.sized; told = λ i less. h.told i less ∙ same i }

tells_one : (count : ℕ) (flags : List Bool) (met : ℕ → Bool) (n : ℕ) → n < count → Tells count flags met → Tells count (set flags n true) (λ i. (n == i) || met i)
tells_one count flags met n less h = record {
  sized = length-set flags n true ∙ h.sized;
  told = λ i l. ⊎_elim (λ (e : i ≡ n). at_it i e) (λ (other : i ≡ n → ⊥). get_or-set_other flags n i true false other ∙ h.told i l ∙ ap (λ b. b || met i) (sym (is_not n i other))) (cases_eq i n);
}
  where
    within : n < length flags
    within = omega (arith, h.sized, less)

    at_it : (i : ℕ) → i ≡ n → flag_at (set flags n true) i ≡ ((n == i) || met i)
    at_it i e = ap (flag_at (set flags n true)) e ∙ get_or-set_same flags n true false within ∙ ap (λ b. b || met i) (sym (eq-eqb n i (sym e)))

pub tells_more : (count : ℕ) (flags : List Bool) (met : ℕ → Bool) (ns : List ℕ) → AreBelow count ns → Tells count flags met → Tells count (marked flags ns) (λ i. is_among i ns || met i)
tells_more count flags met [] below h = h
tells_more count flags met (n ∷ ns) below h =
    tells_same count (marked (set flags n true) ns) (λ i. is_among i ns || ((n == i) || met i)) (λ i. ((n == i) || is_among i ns) || met i) (λ i. or_turn (is_among i ns) (n == i) (met i))
    (tells_more count (set flags n true) (λ i. (n == i) || met i) ns below.1 (tells_one count flags met n below.0 h))

pub any_told : (count : ℕ) (flags : List Bool) (ms ns : List ℕ) → AreBelow count ns → Tells count flags (λ i. is_among i ms) → any_flag flags ns ≡ any_among ns ms
any_told count flags ms [] below h = refl
any_told count flags ms (n ∷ ns) below h =
    ap (λ b. b || any_flag flags ns) (h.told n below.0) ∙ ap (λ b. is_among n ms || b) (any_told count flags ms ns below.1 h)

pub all_told : (count : ℕ) (flags : List Bool) (ms ns : List ℕ) → AreBelow count ns → Tells count flags (λ i. is_among i ms) → all_flags flags ns ≡ all_among ns ms
all_told count flags ms [] below h = refl
all_told count flags ms (n ∷ ns) below h =
    ap (λ b. b && all_flags flags ns) (h.told n below.0) ∙ ap (λ b. is_among n ms && b) (all_told count flags ms ns below.1 h)

again_from : (count : ℕ) (found : Bool) (flags : List Bool) (seen ns : List ℕ) → AreBelow count ns → Tells count flags (λ i. is_among i seen) → comes_again found flags ns ≡ (found || repeats seen ns)
again_from count found flags seen [] below h = sym (or_false found)
again_from count found flags seen (n ∷ ns) below h =
    again_from count (flag_at flags n || found) (set flags n true) (n ∷ seen) ns below.1 (tells_one count flags (λ i. is_among i seen) n below.0 h)
    ∙ ap (λ b. (b || found) || repeats (n ∷ seen) ns) (h.told n below.0)
    ∙ sym (or_turn found (is_among n seen) (repeats (n ∷ seen) ns))

pub again_told : (count : ℕ) (flags : List Bool) (seen ns : List ℕ) → AreBelow count ns → Tells count flags (λ i. is_among i seen) → comes_again false flags ns ≡ repeats seen ns
again_told count flags seen ns below h = again_from count false flags seen ns below h
