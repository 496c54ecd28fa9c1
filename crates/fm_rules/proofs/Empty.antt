-- Lists of broken places without any.
use Rattle.std.proofs.Common.{◌≡◌, ℕ, zero, suc, Bool, true, false, ◌||◌, Some, List, [], ◌∷◌, ◌++◌, slice_get, refl, sym, ap, ◌∙◌, arith}
use Rattle.std.specs.Prelude.{Contains}
use Rattle.std.specs.List.{flat_map}
use Rattle.fm_base.specs.declared.rule.Refusal.{Refusal}
use Rattle.fm_base.specs.Verdict.{when}

pub nothing_in : {X : Type 0} (xs : List X) → ((x : X) → ¬ Contains xs x) → xs ≡ []
nothing_in [] none = refl
nothing_in (x ∷ xs) none = absurd (none x (zero, omega arith, refl))

pub left_empty : {X : Type 0} (xs ys : List X) → xs ++ ys ≡ [] → xs ≡ []
left_empty [] ys e = refl
left_empty (x ∷ xs) ys e = absurd (cc)

pub right_empty : {X : Type 0} (xs ys : List X) → xs ++ ys ≡ [] → ys ≡ []
right_empty [] ys e = e
right_empty (x ∷ xs) ys e = absurd (cc)

pub each_empty : {X : Type 0} {Y : Type 0} (f : X → List Y) (xs : List X) (k : ℕ) (x : X) → flat_map f xs ≡ [] → slice_get xs k ≡ Some x → f x ≡ []
each_empty f [] k x e is = absurd (cc)
each_empty {X} f (y ∷ ys) zero x e is = ap f (sym (the_one y x is)) ∙ left_empty (f y) (flat_map f ys) e
  where
    the_one : (a b : X) → Some a ≡ Some b → a ≡ b
    the_one a b h = cc
each_empty f (y ∷ ys) (suc k) x e is = each_empty f ys k x (right_empty (f y) (flat_map f ys) e) is

pub not_when : (b : Bool) (q : Refusal) → when b q ≡ [] → b ≡ false
not_when true q e = absurd (cc)
not_when false q e = refl

pub or_left : (a b : Bool) → (a || b) ≡ false → a ≡ false
or_left true b e = absurd (cc)
or_left false b e = refl

pub or_right : (a b : Bool) → (a || b) ≡ false → b ≡ false
or_right true b e = absurd (cc)
or_right false b e = e
