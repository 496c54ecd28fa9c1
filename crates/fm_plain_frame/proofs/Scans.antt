-- Lists that are looked through for what each element gives.
use Rattle.std.proofs.Common.{◌≡◌, ℕ, suc, ◌+◌, ◌<◌, ◌≤◌, ◌==◌, Bool, true, false, List, [], ◌∷◌, ◌++◌, length, drop, get_or, reverse, flat_map, refl, sym, ap, arith, ◌∙◌}
use Rattle.std.proofs.lemmas.Bool.Decides.{nat_tests}
use Rattle.std.proofs.lemmas.List.{drop_more, drop_all, length-append, reverse-append}

pub front : {X : Type 0} (xs : List X) (i : ℕ) (x : X) → i < length xs → x ≡ get_or xs i x → drop i xs ≡ x ∷ drop (i + 1) xs
front xs i x less e = drop_more xs i x less ∙ ap (λ y. y ∷ drop (i + 1) xs) (sym e)

abbrev pub is_nil : {Y : Type 0} → List Y → Bool
is_nil ys = length ys == 0

pub not_zero : (n : ℕ) → (suc n == 0) ≡ false
not_zero n = grind (arith, nat_tests)

pub true_false : (b : Bool) → b ≡ true → b ≡ false → ⊥
true_false true e f = absurd (cc)
true_false false e f = absurd (cc)

no_front : {Y : Type 0} (ys zs : List Y) → is_nil ys ≡ true → ys ++ zs ≡ zs
no_front [] zs e = refl
no_front (y ∷ ys) zs e = absurd (true_false (is_nil (y ∷ ys)) e (not_zero (length ys)))

some_front : {Y : Type 0} (ys zs : List Y) → is_nil ys ≡ false → is_nil (ys ++ zs) ≡ false
some_front [] zs e = absurd (cc)
some_front (y ∷ ys) zs e = not_zero (length (ys ++ zs))

module _ {X Y : Type 0} (F : List X → List Y) (f : X → List Y) (nothing : F [] ≡ []) (more : (x : X) (xs : List X) → F (x ∷ xs) ≡ f x ++ F xs) (xs : List X) (i : ℕ) where
  -- an element that gives nothing is passed over
  pub passes : (x : X) → i < length xs → x ≡ get_or xs i x → is_nil (f x) ≡ true → F (drop i xs) ≡ F xs → F (drop (i + 1) xs) ≡ F xs
  passes x less is none so = sym (ap F (front xs i x less is) ∙ more x (drop (i + 1) xs) ∙ no_front (f x) (F (drop (i + 1) xs)) none) ∙ so

  -- one that gives something is found
  pub finds : (x : X) → i < length xs → x ≡ get_or xs i x → is_nil (f x) ≡ false → F (drop i xs) ≡ F xs → is_nil (F xs) ≡ false
  finds x less is some so = sym (ap is_nil so) ∙ ap (λ l. is_nil (F l)) (front xs i x less is) ∙ ap is_nil (more x (drop (i + 1) xs)) ∙ some_front (f x) (F (drop (i + 1) xs)) some

  -- all were passed over
  pub passed : length xs ≤ i → F (drop i xs) ≡ F xs → is_nil (F xs) ≡ true
  passed end so = sym (ap is_nil so) ∙ ap (λ l. is_nil (F l)) (drop_all i xs end) ∙ ap is_nil nothing

is_nil_by : {A B : Type 0} (xs : List A) (ys : List B) → length xs ≡ length ys → is_nil xs ≡ is_nil ys
is_nil_by xs ys e = ap (λ (n : ℕ). n == 0) e

length_last : {A B : Type 0} (f : A → List B) (ys : List A) (x : A) → length (flat_map f (ys ++ x ∷ [])) ≡ length (f x) + length (flat_map f ys)
length_last f [] x = omega (arith, length-append (f x) [])
length_last f (y ∷ ys) x = omega (arith, length-append (f y) (flat_map f (ys ++ x ∷ [])), length-append (f y) (flat_map f ys), length_last f ys x)

length_turned : {A B : Type 0} (f : A → List B) (xs : List A) → length (flat_map f (reverse xs)) ≡ length (flat_map f xs)
length_turned f [] = refl
length_turned f (x ∷ xs) =
    ap (λ l. length (flat_map f l)) (reverse-append (x ∷ []) xs) ∙ length_last f (reverse xs) x ∙ omega (arith, length_turned f xs, length-append (f x) (flat_map f xs))

-- it doesn't matter where one begins
pub turned : {A B : Type 0} (f : A → List B) (xs : List A) → is_nil (flat_map f (reverse xs)) ≡ is_nil (flat_map f xs)
turned f xs = is_nil_by (flat_map f (reverse xs)) (flat_map f xs) (length_turned f xs)
