-- A fact of all in a list, of its parts.
use Rattle.std.proofs.Common.{◌≡◌, ℕ, zero, suc, Some, List, [], ◌∷◌, ◌++◌, drop, take, replicate, slice_get, subst}
use Rattle.std.specs.List.{flat_map}
use Rattle.fm_net.specs.Typed.{AllIn}

module _ {X : Type 0} (P : X → Type 0) where
  pub all_joined : (xs ys : List X) → AllIn P xs → AllIn P ys → AllIn P (xs ++ ys)
  all_joined [] ys h k = k
  all_joined (x ∷ xs) ys h k = (h.0, all_joined xs ys h.1 k)

  pub all_left : (xs ys : List X) → AllIn P (xs ++ ys) → AllIn P xs
  all_left [] ys h = tt
  all_left (x ∷ xs) ys h = (h.0, all_left xs ys h.1)

  pub all_right : (xs ys : List X) → AllIn P (xs ++ ys) → AllIn P ys
  all_right [] ys h = h
  all_right (x ∷ xs) ys h = all_right xs ys h.1

  pub all_taken : (n : ℕ) (xs : List X) → AllIn P xs → AllIn P (take n xs)
  all_taken zero xs h = tt
  all_taken (suc n) [] h = tt
  all_taken (suc n) (x ∷ xs) h = (h.0, all_taken n xs h.1)

  pub all_dropped : (n : ℕ) (xs : List X) → AllIn P xs → AllIn P (drop n xs)
  all_dropped zero xs h = h
  all_dropped (suc n) [] h = tt
  all_dropped (suc n) (x ∷ xs) h = all_dropped n xs h.1

  pub all_copies : (n : ℕ) (x : X) → P x → AllIn P (replicate n x)
  all_copies zero x h = tt
  all_copies (suc n) x h = (h, all_copies n x h)

  pub in_all : (xs : List X) (k : ℕ) (x : X) → AllIn P xs → slice_get xs k ≡ Some x → P x
  in_all [] k x h e = absurd (cc)
  in_all (y ∷ xs) zero x h e = subst P (the_one y x e) h.0
    where
      the_one : (a b : X) → Some a ≡ Some b → a ≡ b
      the_one a b e = cc
  in_all (y ∷ xs) (suc k) x h e = in_all xs k x h.1 e

  pub all_flat : {Y : Type 0} (Q : Y → Type 0) (f : Y → List X) → ((y : Y) → Q y → AllIn P (f y)) → (ys : List Y) → AllIn Q ys → AllIn P (flat_map f ys)
  all_flat Q f each [] h = tt
  all_flat Q f each (y ∷ ys) h = all_joined (f y) (flat_map f ys) (each y h.0) (all_flat Q f each ys h.1)

pub all_so : {X : Type 0} (P Q : X → Type 0) → ((x : X) → P x → Q x) → (xs : List X) → AllIn P xs → AllIn Q xs
all_so P Q f [] h = tt
all_so P Q f (x ∷ xs) h = (f x h.0, all_so P Q f xs h.1)
