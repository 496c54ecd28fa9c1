-- What stands in a list.
use Rattle.std.proofs.Common.{◌≡◌, ◌⊎◌, inl, inr, ℕ, zero, suc, Bool, true, false, ◌||◌, Option, Some, None, option_map, List, [], ◌∷◌, ◌++◌, map, slice_get, refl, sym, ap, ◌∙◌, subst}
use Rattle.std.specs.List.{flat_map, list_any}
use Rattle.std.proofs.lemmas.Option.{slice_get-map}
use Rattle.fm_finmap.proofs.Keys.{nat_list_order, tie, tie_self}
use Rattle.fm_mean.specs.Names.{same_name}

abbrev pub In : {X : Type 0} → X → List X → Type 0
In x [] = ⊥
In x (y ∷ ys) = (y ≡ x) ⊎ In x ys

pub in_left : {X : Type 0} (x : X) (xs ys : List X) → In x xs → In x (xs ++ ys)
in_left x [] ys h = absurd h
in_left x (y ∷ xs) ys (inl e) = inl e
in_left x (y ∷ xs) ys (inr h) = inr (in_left x xs ys h)

pub in_right : {X : Type 0} (x : X) (xs ys : List X) → In x ys → In x (xs ++ ys)
in_right x [] ys h = h
in_right x (y ∷ xs) ys h = inr (in_right x xs ys h)

pub in_either : {X : Type 0} (x : X) (xs ys : List X) → In x (xs ++ ys) → In x xs ⊎ In x ys
in_either x [] ys h = inr h
in_either x (y ∷ xs) ys (inl e) = inl (inl e)
in_either x (y ∷ xs) ys (inr h) = go (in_either x xs ys h)
  where
    go : In x xs ⊎ In x ys → ((y ≡ x) ⊎ In x xs) ⊎ In x ys
    go (inl a) = inl (inr a)
    go (inr b) = inr b

pub in_map : {X : Type 0} {Y : Type 0} (f : X → Y) (x : X) (xs : List X) → In x xs → In (f x) (map f xs)
in_map f x [] h = absurd h
in_map f x (y ∷ xs) (inl e) = inl (ap f e)
in_map f x (y ∷ xs) (inr h) = inr (in_map f x xs h)

pub in_flat : {X : Type 0} {Y : Type 0} (f : X → List Y) (x : X) (y : Y) (xs : List X) → In x xs → In y (f x) → In y (flat_map f xs)
in_flat f x y [] h k = absurd h
in_flat {X} {Y} f x y (z ∷ xs) (inl e) k = in_left y (f z) (flat_map f xs) (moved (f x) (f z) (ap f (sym e)) k)
  where
    moved : (as' bs : List Y) → as' ≡ bs → In y as' → In y bs
    moved as' bs e k = subst (In y) e k
in_flat f x y (z ∷ xs) (inr h) k = in_right y (f z) (flat_map f xs) (in_flat f x y xs h k)

pub in_parts : {X : Type 0} {Y : Type 0} (f : X → List Y) (y : Y) (xs : List X) → In y (flat_map f xs) → (x : X) × In x xs × In y (f x)
in_parts f y [] h = absurd h
in_parts {X} f y (z ∷ xs) h = go (in_either y (f z) (flat_map f xs) h) (λ k. in_parts f y xs k)
  where
    go : In y (f z) ⊎ In y (flat_map f xs) → (In y (flat_map f xs) → (x : X) × In x xs × In y (f x)) → (x : X) × In x (z ∷ xs) × In y (f x)
    go (inl a) rest = (z, inl refl, a)
    go (inr b) rest = let r = rest b in (r.0, inr r.1, r.2)

pub got_in : {X : Type 0} (x : X) (xs : List X) (i : ℕ) → slice_get xs i ≡ Some x → In x xs
got_in x [] i e = absurd (cc)
got_in {X} x (y ∷ xs) zero e = inl (the_one y x e)
  where
    the_one : (a b : X) → Some a ≡ Some b → a ≡ b
    the_one a b e = cc
got_in x (y ∷ xs) (suc i) e = inr (got_in x xs i e)

pub from_map : {X : Type 0} {Y : Type 0} (f : X → Y) (xs : List X) (k : ℕ) (y : Y) → slice_get (map f xs) k ≡ Some y → (x : X) × (slice_get xs k ≡ Some x) × (f x ≡ y)
from_map {X} {Y} f xs k y e = go (slice_get xs k) refl (sym (slice_get-map f xs k) ∙ e)
  where
    the_one : (a b : Y) → Some a ≡ Some b → a ≡ b
    the_one a b h = cc

    go : (o : Option X) → slice_get xs k ≡ o → option_map f o ≡ Some y → (x : X) × (slice_get xs k ≡ Some x) × (f x ≡ y)
    go None is h = absurd (cc)
    go (Some x) is h = (x, is, the_one (f x) y h)

-- one passes the test
pub passes : {X : Type 0} (test : X → Bool) (x : X) (xs : List X) → In x xs → test x ≡ true → list_any test xs ≡ true
passes test x [] h e = absurd h
passes test x (y ∷ xs) (inl s) e = first (test y) (ap test s ∙ e)
  where
    first : (b : Bool) → b ≡ true → (b || list_any test xs) ≡ true
    first true e = refl
    first false e = absurd (cc e)
passes test x (y ∷ xs) (inr h) e = later (test y) (passes test x xs h e)
  where
    later : (b : Bool) → list_any test xs ≡ true → (b || list_any test xs) ≡ true
    later true e = refl
    later false e = e

pub passing : {X : Type 0} (test : X → Bool) (xs : List X) → list_any test xs ≡ true → (x : X) × In x xs × (test x ≡ true)
passing test [] e = absurd (cc)
passing {X} test (y ∷ xs) e = go (test y) refl e (λ h. passing test xs h)
  where
    go : (b : Bool) → test y ≡ b → (b || list_any test xs) ≡ true → (list_any test xs ≡ true → (x : X) × In x xs × (test x ≡ true)) → (x : X) × In x (y ∷ xs) × (test x ≡ true)
    go true is h rest = (y, inl refl, is)
    go false is h rest = let r = rest h in (r.0, inr r.1, r.2)

-- names
pub name_is : (a b : List ℕ) → same_name a b ≡ true → a ≡ b
name_is a b e = tie nat_list_order a b e

pub same_self : (a : List ℕ) → same_name a a ≡ true
same_self a = tie_self nat_list_order a

pub same_names : (a b : List ℕ) → a ≡ b → same_name a b ≡ true
same_names a b e = ap (same_name a) (sym e) ∙ same_self a
