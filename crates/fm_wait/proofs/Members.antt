-- Elements of lists.
use Rattle.std.proofs.Common.{◌≡◌, ◌⊎◌, inl, inr, ⊎_elim, ℕ, zero, suc, ◌<◌, List, [], ◌∷◌, length, get_or, map, refl, ap, ◌∙◌, arith}
use Rattle.std.specs.Prelude.{Option, Some, None, Contains}
use Rattle.std.specs.List.{cons_option, filter_map}
use Rattle.std.specs.Option.{unwrap_or}

pub same_some : {X : Type 0} (x y : X) → Some x ≡ Some y → x ≡ y
same_some x y e = ap (λ o. unwrap_or o x) e

pub not_none : {X : Type 0} (x : X) → None ≡ Some x → ⊥
not_none x e = cc

-- x is an element of the list, by recursion
abbrev pub Has : {X : Type 0} → List X → X → Type 0
Has [] x = ⊥
Has (y ∷ ys) x = (y ≡ x) ⊎ Has ys x

pub has_at : {X : Type 0} (xs : List X) (x : X) (k : ℕ) → k < length xs → get_or xs k x ≡ x → Has xs x
has_at [] x k l e = absurd (omega arith)
has_at (y ∷ ys) x zero l e = inl e
has_at (y ∷ ys) x (suc k) l e = inr (has_at ys x k (omega arith) e)

pub has_from_contains : {X : Type 0} (xs : List X) (x : X) → Contains xs x → Has xs x
has_from_contains xs x c = has_at xs x c.0 c.1 c.2

pub contains_from_has : {X : Type 0} (xs : List X) (x : X) → Has xs x → Contains xs x
contains_from_has [] x h = absurd h
contains_from_has (y ∷ ys) x (inl e) = (0, omega arith, e)
contains_from_has (y ∷ ys) x (inr h) = let r = contains_from_has ys x h in (suc r.0, omega (arith, r.1), r.2)

pub has_map : {X Y : Type 0} (f : X → Y) (xs : List X) (x : X) → Has xs x → Has (map f xs) (f x)
has_map f [] x h = absurd h
has_map f (y ∷ ys) x (inl e) = inl (ap f e)
has_map f (y ∷ ys) x (inr h) = inr (has_map f ys x h)

pub has_from_map : {X Y : Type 0} (f : X → Y) (xs : List X) (y : Y) → Has (map f xs) y → (x : X) × Has xs x × (f x ≡ y)
has_from_map f [] y h = absurd h
has_from_map f (x ∷ xs) y (inl e) = (x, inl refl, e)
has_from_map f (x ∷ xs) y (inr h) = let r = has_from_map f xs y h in (r.0, inr r.1, r.2)

module _ {X Y : Type 0} (h : X → Option Y) where
  -- what one element gives stands first, where it gives something
  pub given_by_one : (o : Option Y) (y : Y) (ys : List Y) → Has (cons_option o ys) y → (o ≡ Some y) ⊎ Has ys y
  given_by_one None y ys k = inr k
  given_by_one (Some z) y ys (inl e) = inl (ap Some e)
  given_by_one (Some z) y ys (inr k) = inr k

  pub one_given : (o : Option Y) (y : Y) (ys : List Y) → o ≡ Some y → Has (cons_option o ys) y
  one_given None y ys e = cc
  one_given (Some z) y ys e = inl (same_some z y e)

  pub still_given : (o : Option Y) (y : Y) (ys : List Y) → Has ys y → Has (cons_option o ys) y
  still_given None y ys k = k
  still_given (Some z) y ys k = inr k

  pub has_from_given : (xs : List X) (y : Y) → Has (filter_map h xs) y → (x : X) × Has xs x × (h x ≡ Some y)
  has_from_given [] y k = absurd k
  has_from_given (x ∷ xs) y k =
      ⊎_elim (λ (e : h x ≡ Some y). (x, inl refl, e))
      (λ (m : Has (filter_map h xs) y). let r = has_from_given xs y m in (r.0, inr r.1, r.2))
      (given_by_one (h x) y (filter_map h xs) k)

  pub has_given : (xs : List X) (x : X) (y : Y) → Has xs x → h x ≡ Some y → Has (filter_map h xs) y
  has_given [] x y k e = absurd k
  has_given (z ∷ xs) x y (inl s) e = one_given (h z) y (filter_map h xs) (ap h s ∙ e)
  has_given (z ∷ xs) x y (inr k) e = still_given (h z) y (filter_map h xs) (has_given xs x y k e)
