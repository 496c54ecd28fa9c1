-- Lists with nothing but results.
use Rattle.std.proofs.Common.{◌≡◌, ℕ, zero, suc, Bool, true, false, cond, ◌==◌, Option, Some, None, List, [], ◌∷◌, refl, ap, ◌∙◌, arith}
use Rattle.std.proofs.lemmas.Bool.{eqb-true, eq-eqb}
use Rattle.fm_code_kinds.specs.declared.kinds.Kind.{Kind}
use Rattle.fm_code_kinds.specs.declared.kinds.Kind.TheVariants as kinds
use Rattle.fm_code_kinds.specs.Effects.{only_results, results_in}
use Rattle.fm_code_kinds.specs.Kinded.{results}
use Rattle.fm_verify_unit.specs.Counts.{others_in}
use Rattle.fm_verify_unit.specs.Along.{mark_of, is_marked}

abbrev some : {A : Type 0} → A → Option A
some x = Some x

some_is : {A : Type 0} (x y : A) → some x ≡ some y → x ≡ y
some_is x y e = cc

-- ---- counts

not_none : (n : ℕ) → (suc n == 0) ≡ false
not_none n = go (suc n == 0) refl
  where
    go : (b : Bool) → (suc n == 0) ≡ b → b ≡ false
    go true e = absurd (omega (arith, eqb-true (suc n) 0 e))
    go false e = refl

-- nothing but results is there exactly where there is no other
pub others_none : (ks : List Kind) → (others_in ks == 0) ≡ only_results ks
others_none [] = refl
others_none (kinds.Returned ∷ ks) = others_none ks
others_none (kinds.Word s ∷ ks) = not_none (others_in ks)
others_none (kinds.Operand o ∷ ks) = not_none (others_in ks)
others_none (kinds.LoopOf l ∷ ks) = not_none (others_in ks)

-- ---- marks

only_there : (n : ℕ) → only_results (results n) ≡ true
only_there zero = refl
only_there (suc n) = only_there n

pub all_there : (n : ℕ) → results_in (results n) ≡ n
all_there zero = refl
all_there (suc n) = ap suc (all_there n)

pub they_are : (ks : List Kind) → only_results ks ≡ true → ks ≡ results (results_in ks)
they_are [] e = refl
they_are (kinds.Returned ∷ ks) e = ap (λ (l : List Kind). kinds.Returned ∷ l) (they_are ks e)
they_are (kinds.Word s ∷ ks) e = absurd cc
they_are (kinds.Operand o ∷ ks) e = absurd cc
they_are (kinds.LoopOf l ∷ ks) e = absurd cc

pub marked : (n : ℕ) → mark_of (results n) ≡ Some n
marked n = rw (only_there n) (ap some (all_there n))

pub mark_is : (ks : List Kind) (n : ℕ) → mark_of ks ≡ Some n → ks ≡ results n
mark_is ks n e = go (only_results ks) refl e
  where
    go : (b : Bool) → only_results ks ≡ b → cond b (some (results_in ks)) None ≡ some n → ks ≡ results n
    go true is e = they_are ks is ∙ ap results (some_is (results_in ks) n e)
    go false is e = absurd cc

-- a mark that is there is the number
pub mark_at : (n : ℕ) (o : Option (Option ℕ)) → is_marked n o ≡ true → o ≡ some (some n)
mark_at n None e = absurd cc
mark_at n (Some None) e = absurd cc
mark_at n (Some (Some k)) e = ap (λ (j : ℕ). some (some j)) (eqb-true k n e)

pub marked_at : (n : ℕ) (o : Option (Option ℕ)) → o ≡ some (some n) → is_marked n o ≡ true
marked_at n o e = rw e (eq-eqb n n refl)
