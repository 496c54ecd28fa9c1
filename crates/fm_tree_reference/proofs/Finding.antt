-- An element of a list, sought in one part of it after the other.
use Rattle.std.proofs.Common.{◌≡◌, ℕ, zero, suc, ◌+◌, ◌<◌, ◌≤◌, Some, List, [], ◌∷◌, ◌++◌, length, drop, get_or, sym, ap, ◌∙◌, arith}
use Rattle.std.specs.Prelude.{slice_get}
use Rattle.std.proofs.lemmas.List.{length-append, drop_more, at_drop_all}
use Rattle.fm_tree.specs.Tree.{Tree}
use Rattle.fm_tree_reference.specs.declared.walk.Found.{Found}
use Rattle.fm_tree_reference.specs.declared.walk.Found.TheVariants.{Here, Behind}
use Rattle.fm_tree_reference.specs.Found.{IsFound}

pub get_front : (xs ys : List Tree) (k : ℕ) (t : Tree) → slice_get xs k ≡ Some t → slice_get (xs ++ ys) k ≡ Some t
get_front [] ys k t e = absurd (cc)
get_front (x ∷ xs) ys zero t e = e
get_front (x ∷ xs) ys (suc k) t e = get_front xs ys k t e

pub get_behind : (xs ys : List Tree) (n k : ℕ) → k ≡ length xs + n → slice_get (xs ++ ys) k ≡ slice_get ys n
get_behind [] ys n k e = ap (slice_get ys) (omega arith)
get_behind (x ∷ xs) ys n zero e = absurd (omega arith)
get_behind (x ∷ xs) ys n (suc k) e = get_behind xs ys n k (omega arith)

-- in the second part, where it isn't in the first
pub in_second : (xs ys : List Tree) (k n : ℕ) (r : Found) → k ≡ length xs + n → IsFound ys n r → IsFound (xs ++ ys) k r
in_second xs ys k n (Here t) e h = get_behind xs ys n k e ∙ h
in_second xs ys k n (Behind m) e h = omega (arith, length-append xs ys)

-- the part that is left of a list of those that have them
pub one_more : {T : Type 0} (applied : T → List Tree) (all : List T → List Tree) (xs : List T) (i : ℕ) (x : T) (k n m : ℕ)
    → ((y : T) (ys : List T) → all (y ∷ ys) ≡ applied y ++ all ys) → i < length xs → x ≡ get_or xs i x → n ≡ length (applied x) + m
    → ((r : Found) → IsFound (all (drop i xs)) n r → IsFound (all xs) k r) → (r : Found) → IsFound (all (drop (i + 1) xs)) m r → IsFound (all xs) k r
one_more applied all xs i x k n m split l is behind h r found =
    let e : drop i xs ≡ x ∷ drop (i + 1) xs = drop_more xs i x l ∙ ap (λ y. y ∷ drop (i + 1) xs) (sym is) in
    let f : all (drop i xs) ≡ applied x ++ all (drop (i + 1) xs) = ap all e ∙ split x (drop (i + 1) xs) in
    h r (rw f (in_second (applied x) (all (drop (i + 1) xs)) n m r behind found))

pub one_here : {T : Type 0} (applied : T → List Tree) (all : List T → List Tree) (xs : List T) (i : ℕ) (x : T) (n : ℕ) (t : Tree)
    → ((y : T) (ys : List T) → all (y ∷ ys) ≡ applied y ++ all ys) → i < length xs → x ≡ get_or xs i x
    → slice_get (applied x) n ≡ Some t → slice_get (all (drop i xs)) n ≡ Some t
one_here applied all xs i x n t split l is found =
    let e : drop i xs ≡ x ∷ drop (i + 1) xs = drop_more xs i x l ∙ ap (λ y. y ∷ drop (i + 1) xs) (sym is) in
    let f : all (drop i xs) ≡ applied x ++ all (drop (i + 1) xs) = ap all e ∙ split x (drop (i + 1) xs) in
    rw f (get_front (applied x) (all (drop (i + 1) xs)) n t found)

pub none_left : {T : Type 0} (all : List T → List Tree) (xs : List T) (i n : ℕ) → all [] ≡ [] → length xs ≤ i → n ≡ length (all (drop i xs)) + n
none_left all xs i n e l = rw (at_drop_all all xs i l, e) (omega arith)
