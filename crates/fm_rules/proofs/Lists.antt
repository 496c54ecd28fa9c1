-- Elements of lists.
use Rattle.std.proofs.Common.{◌≡◌, ℕ, suc, zero, ◌+◌, ◌<◌, ◌≤◌, ◌⊎◌, inl, inr, Option, Some, None, List, [], ◌∷◌, ◌++◌, length, map, drop, get_or, refl, sym, ap, ◌∙◌, arith, append_assoc}
use Rattle.std.specs.Prelude.{Contains, MatchOption}
use Rattle.std.specs.List.{HoldsAt, slice_get}
use Rattle.std.specs.Option.{option_map}
use Rattle.std.proofs.lemmas.Option.{slice_get-get_or}
use Rattle.std.proofs.lemmas.List.{drop_more, length-map}
use Rattle.std.proofs.Math.ListN as math

pub at_head : {X : Type 0} (x : X) (xs : List X) → Contains (x ∷ xs) x
at_head x xs = (0, omega arith, refl)

pub behind_head : {X : Type 0} (y x : X) (xs : List X) → Contains xs x → Contains (y ∷ xs) x
behind_head y x xs c = (suc c.0, omega (arith, c.1), c.2)

pub head_or_behind : {X : Type 0} (y x : X) (xs : List X) → Contains (y ∷ xs) x → (y ≡ x) ⊎ Contains xs x
head_or_behind y x xs c = of c.0 c.1 c.2
  where
    of : (k : ℕ) → k < length (y ∷ xs) → get_or (y ∷ xs) k x ≡ x → (y ≡ x) ⊎ Contains xs x
    of zero l e = inl e
    of (suc k) l e = inr (k, omega (arith, l), e)

pub not_in_none : {X : Type 0} (x : X) → Contains [] x → ⊥
not_in_none x c = absurd (omega (arith, c.1))

pub some_same : {X : Type 0} (x y : X) → Some x ≡ Some y → x ≡ y
some_same x y e = cc

pub in_map : {X : Type 0} {Y : Type 0} (f : X → Y) (x : X) (xs : List X) → Contains xs x → Contains (map f xs) (f x)
in_map f x xs c = let n = length-map xs f in let l = c.1 in (c.0, omega (arith, n, l), math.get_or-map f xs c.0 x ∙ ap f c.2)

-- one element more of a list that is joined behind another
pub joined_more : {X : Type 0} {Y : Type 0} (F : List X → List Y) (f : X → List Y) (before after all : List Y) (xs : List X) (i : ℕ) (d : X)
    → ((y : X) (ys : List X) → F (y ∷ ys) ≡ f y ++ F ys) → i < length xs → after ≡ before ++ f (get_or xs i d)
    → before ++ F (drop i xs) ≡ all → after ++ F (drop (i + 1) xs) ≡ all
joined_more F f before after all xs i d split l e h =
    ap (λ ys. ys ++ F (drop (i + 1) xs)) e
    ∙ append_assoc before (f (get_or xs i d)) (F (drop (i + 1) xs))
    ∙ ap (λ ys. before ++ ys) (sym (split (get_or xs i d) (drop (i + 1) xs)) ∙ ap F (sym (drop_more xs i d l)))
    ∙ h

get_past : {X : Type 0} (xs : List X) (i : ℕ) → length xs ≤ i → slice_get xs i ≡ None
get_past [] i l = refl
get_past (x ∷ xs) zero l = absurd (omega (arith, l))
get_past (x ∷ xs) (suc i) l = get_past xs i (omega (arith, l))

-- what `get` gives
pub looked_up : {B : Type 0} {X : Type 0} (r : Option B) (now : B → X) (xs : List X) (i : ℕ) → MatchOption r (length xs ≤ i) (λ b. (i < length xs) × HoldsAt (λ y. now b ≡ y) xs i) → option_map now r ≡ slice_get xs i
looked_up None now xs i h = sym (get_past xs i h)
looked_up (Some b) now xs i h = ap Some (h.1 (now b)) ∙ sym (slice_get-get_or xs i (now b) h.0)
