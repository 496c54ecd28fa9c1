-- Numbers that are taken out of one list and put into another.
use Rattle.std.proofs.Common.{◌≡◌, ◌⊎◌, inl, inr, ℕ, zero, suc, ◌+◌, ◌<◌, Option, Some, None, List, [], ◌∷◌, ◌++◌, length, get_or, option_to_list, refl, sym, ap, ◌∙◌, subst, arith}
use Rattle.std.proofs.lemmas.List.Elements.{Contains-append_left, Contains-push}
use Rattle.std.specs.Prelude.{Contains, IfNone}

contains_split : (xs ys : List ℕ) (n k : ℕ) → k < length (xs ++ ys) → get_or (xs ++ ys) k n ≡ n → Contains xs n ⊎ Contains ys n
contains_split [] ys n k low is = inr (k, low, is)
contains_split (x ∷ xs) ys n zero low is = inl (0, omega arith, is)
contains_split (x ∷ xs) ys n (suc k) low is = go (contains_split xs ys n k (omega arith) is)
  where
    go : Contains xs n ⊎ Contains ys n → Contains (x ∷ xs) n ⊎ Contains ys n
    go (inl j) = inl (suc j.0, omega (arith, j.1), j.2)
    go (inr j) = inr j

contains_one : (x n : ℕ) → Contains (x ∷ []) n → n ≡ x
contains_one x n k = go k.0 k.1 k.2
  where
    go : (j : ℕ) → j < length (x ∷ []) → get_or (x ∷ []) j n ≡ n → n ≡ x
    go zero low is = sym is
    go (suc j) low is = absurd (omega arith)

pub contains_more : (xs later : List ℕ) (x n : ℕ) → later ≡ xs ++ x ∷ [] → Contains xs n ⊎ (n ≡ x) → Contains later n
contains_more xs later x n is (inl k) = subst (λ (ns : List ℕ). Contains ns n) (sym is) (Contains-append_left xs (x ∷ []) n k)
contains_more xs later x n is (inr e) = subst (λ (ns : List ℕ). Contains ns n) (sym is) (subst (Contains (xs ++ x ∷ [])) (sym e) (Contains-push xs x))

-- one number goes from the end of one list to the end of another
pub moved : (all later was rest : List ℕ) (x : ℕ) → was ≡ rest ++ x ∷ [] → later ≡ all ++ x ∷ [] → (n : ℕ) → Contains all n ⊎ Contains was n → Contains later n ⊎ Contains rest n
moved all later was rest x out put n (inl k) = inl (contains_more all later x n put (inl k))
moved all later was rest x out put n (inr k) =
    let here = subst (λ (ns : List ℕ). Contains ns n) out k in
    go (contains_split rest (x ∷ []) n here.0 here.1 here.2)
  where
    go : Contains rest n ⊎ Contains (x ∷ []) n → Contains later n ⊎ Contains rest n
    go (inl j) = inr j
    go (inr j) = inl (contains_more all later x n put (inr (contains_one x n j)))

pub none_given : (o : Option ℕ) (P : Type 0) → ((n : ℕ) → o ≡ Some n → ⊥) → IfNone o P → P
none_given None P none p = p
none_given (Some n) P none p = absurd (none n refl)

pub in_none : (ns : List ℕ) (n : ℕ) → ns ≡ [] → Contains ns n → ⊥
in_none ns n none k = let here = subst (λ (ms : List ℕ). Contains ms n) none k in absurd (omega (arith, here.1))

pub left_in : (all rest : List ℕ) (n : ℕ) → rest ≡ [] → Contains all n ⊎ Contains rest n → Contains all n
left_in all rest n none (inl k) = k
left_in all rest n none (inr k) = absurd (in_none rest n none k)

-- one number is put behind the others, or none
module _ (xs later : List ℕ) (o : Option ℕ) (is : later ≡ xs ++ option_to_list o) (n : ℕ) where
  pub kept_with : Contains xs n → Contains later n
  kept_with k = subst (λ (ns : List ℕ). Contains ns n) (sym is) (Contains-append_left xs (option_to_list o) n k)

  pub there_with : o ≡ Some n → Contains later n
  there_with e = subst (λ (ns : List ℕ). Contains ns n) (sym (is ∙ ap (λ (p : Option ℕ). xs ++ option_to_list p) e)) (Contains-push xs n)

pub same_or_below : {P : Type 0} (n k m : ℕ) → m ≡ k → n < k + 1 → (n < k → P) → P ⊎ (n ≡ m)
same_or_below {P = P} n k m is low below = go (split n k low)
  where
    split : (a b : ℕ) → a < b + 1 → (a < b) ⊎ (a ≡ b)
    split a b h = grind arith

    go : (n < k) ⊎ (n ≡ k) → P ⊎ (n ≡ m)
    go (inl h) = inl (below h)
    go (inr e) = inr (e ∙ sym is)
