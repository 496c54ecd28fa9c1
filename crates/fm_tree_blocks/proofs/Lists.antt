-- The first of a list read backwards, and one more element.
use Rattle.std.proofs.Common.{◌≡◌, ◌-◌, Some, List, [], ◌∷◌, ◌++◌, length, reverse, drop, refl, sym, ◌∙◌, ap, arith}
use Rattle.std.specs.List.{slice_get}
use Rattle.std.proofs.lemmas.List.{reverse-append, reverse-reverse, length_push}
use Rattle.fm_tree.specs.Blocks.{head_of}

slice_get_push : {X : Type 0} (zs : List X) (y : X) → slice_get (zs ++ y ∷ []) (length zs) ≡ Some y
slice_get_push [] y = refl
slice_get_push (z ∷ zs) y = slice_get_push zs y

last_of_reverse : {X : Type 0} (ys : List X) → slice_get (reverse ys) (length (reverse ys) - 1) ≡ head_of ys
last_of_reverse [] = refl
last_of_reverse (y ∷ ys) =
    let e : reverse (y ∷ ys) ≡ reverse ys ++ y ∷ [] = reverse-append (y ∷ []) ys in
    let n : length (reverse ys ++ y ∷ []) - 1 ≡ length (reverse ys) = omega (arith, length_push (reverse ys) y) in
    ap (λ zs. slice_get zs (length zs - 1)) e ∙ ap (slice_get (reverse ys ++ y ∷ [])) n ∙ slice_get_push (reverse ys) y

-- the last element is the first one of the reversed list
pub last_first : {X : Type 0} (xs : List X) → slice_get xs (length xs - 1) ≡ head_of (reverse xs)
last_first xs = ap (λ zs. slice_get zs (length zs - 1)) (sym (reverse-reverse xs)) ∙ last_of_reverse (reverse xs)

pub first_cons : {X : Type 0} (xs : List X) (x : X) → head_of xs ≡ Some x → xs ≡ x ∷ drop 1 xs
first_cons [] x e = cc
first_cons (y ∷ ys) x e = cc

pub reverse_push : {X : Type 0} (xs : List X) (x : X) → reverse (xs ++ x ∷ []) ≡ x ∷ reverse xs
reverse_push xs x = reverse-append xs (x ∷ [])
