-- Lists of port words: what is a fact of all of them, and what stands in them once.
use Rattle.std.proofs.Common.{◌≡◌, ℤ, List, [], ◌∷◌, ◌++◌, sym, subst}
use Rattle.std.proofs.lemmas.List.Elements.{filter-append}
use Rattle.fm_net.specs.Typed.{AllIn}
use Rattle.fm_code.specs.Passing.{is_port, live}
use Rattle.fm_proc_simulation.specs.SlotWords.{IsOther, AreOnce}

-- Facts of all.

pub all_first : {X : Type 0} (Fact : X → Type 0) (xs ys : List X) → AllIn Fact (xs ++ ys) → AllIn Fact xs
all_first Fact [] ys h = tt
all_first Fact (x ∷ xs) ys h = (h.0, all_first Fact xs ys h.1)

pub all_second : {X : Type 0} (Fact : X → Type 0) (xs ys : List X) → AllIn Fact (xs ++ ys) → AllIn Fact ys
all_second Fact [] ys h = h
all_second Fact (x ∷ xs) ys h = all_second Fact xs ys h.1

pub all_of : {X : Type 0} (Fact Other : X → Type 0) → ((x : X) → Fact x → Other x) → (xs : List X) → AllIn Fact xs → AllIn Other xs
all_of Fact Other of [] h = tt
all_of Fact Other of (x ∷ xs) h = (of x h.0, all_of Fact Other of xs h.1)

pub all_both : {X : Type 0} (A B C : X → Type 0) → ((x : X) → A x → B x → C x) → (xs : List X) → AllIn A xs → AllIn B xs → AllIn C xs
all_both A B C of [] a b = tt
all_both A B C of (x ∷ xs) a b = (of x a.0 b.0, all_both A B C of xs a.1 b.1)

-- the slots among the words of two parts
pub live_first : (Fact : ℤ → Type 0) (zs ys : List ℤ) → AllIn Fact (live (zs ++ ys)) → AllIn Fact (live zs)
live_first Fact zs ys h = all_first Fact (live zs) (live ys) (subst (AllIn Fact) (filter-append is_port zs ys) h)

pub live_second : (Fact : ℤ → Type 0) (zs ys : List ℤ) → AllIn Fact (live (zs ++ ys)) → AllIn Fact (live ys)
live_second Fact zs ys h = all_second Fact (live zs) (live ys) (subst (AllIn Fact) (filter-append is_port zs ys) h)

-- What stands once.

pub other_of : {X : Type 0} (x : X) (xs : List X) → AllIn (λ y. x ≡ y → ⊥) xs → IsOther x xs
other_of x [] h = tt
other_of x (y ∷ ys) h = (h.0, other_of x ys h.1)

pub all_other : {X : Type 0} (x : X) (xs : List X) → IsOther x xs → AllIn (λ y. x ≡ y → ⊥) xs
all_other x [] h = tt
all_other x (y ∷ ys) h = (h.0, all_other x ys h.1)

pub other_first : {X : Type 0} (x : X) (xs ys : List X) → IsOther x (xs ++ ys) → IsOther x xs
other_first x [] ys h = tt
other_first x (y ∷ xs) ys h = (h.0, other_first x xs ys h.1)

pub other_second : {X : Type 0} (x : X) (xs ys : List X) → IsOther x (xs ++ ys) → IsOther x ys
other_second x [] ys h = h
other_second x (y ∷ xs) ys h = other_second x xs ys h.1

pub other_both : {X : Type 0} (x : X) (xs ys : List X) → IsOther x xs → IsOther x ys → IsOther x (xs ++ ys)
other_both x [] ys h k = k
other_both x (y ∷ xs) ys h k = (h.0, other_both x xs ys h.1 k)

pub once_first : {X : Type 0} (xs ys : List X) → AreOnce (xs ++ ys) → AreOnce xs
once_first [] ys h = tt
once_first (x ∷ xs) ys h = (other_first x xs ys h.0, once_first xs ys h.1)

pub once_second : {X : Type 0} (xs ys : List X) → AreOnce (xs ++ ys) → AreOnce ys
once_second [] ys h = h
once_second (x ∷ xs) ys h = once_second xs ys h.1

-- one more comes in between
pub once_between : {X : Type 0} (x : X) (xs ys : List X) → IsOther x (xs ++ ys) → AreOnce (xs ++ ys) → AreOnce (xs ++ x ∷ ys)
once_between x [] ys other once = (other, once)
once_between x (y ∷ xs) ys other once = (
  other_both y xs (x ∷ ys) (other_first y xs ys once.0) ((λ e. other.0 (sym e)), other_second y xs ys once.0),
  once_between x xs ys other.1 once.1,
)

-- Parts.

-- a list is two others, one between the other
abbrev pub IsParted : (mine theirs all : List ℤ) → Type 1
IsParted xs ys zs = ((Fact : ℤ → Type 0) → AllIn Fact zs → AllIn Fact xs × AllIn Fact ys) × ((others : List ℤ) → AreOnce (zs ++ others) → AreOnce (xs ++ (ys ++ others)))

pub parted_none : IsParted [] [] []
parted_none = ((λ Fact h. (tt, tt)), (λ others h. h))

pub parted_mine : (z : ℤ) (xs ys zs : List ℤ) → IsParted xs ys zs → IsParted (z ∷ xs) ys (z ∷ zs)
parted_mine z xs ys zs p = (
  (λ Fact h. ((h.0, (p.0 Fact h.1).0), (p.0 Fact h.1).1)),
  (λ others h.
      let all : AllIn (λ y. z ≡ y → ⊥) (zs ++ others) = all_other z (zs ++ others) h.0 in
      let apart = p.0 (λ y. z ≡ y → ⊥) (all_first (λ y. z ≡ y → ⊥) zs others all) in
      (other_both z xs (ys ++ others) (other_of z xs apart.0) (other_both z ys others (other_of z ys apart.1) (other_second z zs others h.0)), p.1 others h.1)),
)

pub parted_theirs : (z : ℤ) (xs ys zs : List ℤ) → IsParted xs ys zs → IsParted xs (z ∷ ys) (z ∷ zs)
parted_theirs z xs ys zs p = (
  (λ Fact h. ((p.0 Fact h.1).0, (h.0, (p.0 Fact h.1).1))),
  (λ others h.
      let all : AllIn (λ y. z ≡ y → ⊥) (zs ++ others) = all_other z (zs ++ others) h.0 in
      let apart = p.0 (λ y. z ≡ y → ⊥) (all_first (λ y. z ≡ y → ⊥) zs others all) in
      once_between z xs (ys ++ others)
      (other_both z xs (ys ++ others) (other_of z xs apart.0) (other_both z ys others (other_of z ys apart.1) (other_second z zs others h.0)))
      (p.1 others h.1)),
)

pub all_mine : (ws xs ys zs : List ℤ) → IsParted xs ys zs → IsParted (ws ++ xs) ys (ws ++ zs)
all_mine [] xs ys zs p = p
all_mine (w ∷ ws) xs ys zs p = parted_mine w (ws ++ xs) ys (ws ++ zs) (all_mine ws xs ys zs p)

pub all_theirs : (ws xs ys zs : List ℤ) → IsParted xs ys zs → IsParted xs (ws ++ ys) (ws ++ zs)
all_theirs [] xs ys zs p = p
all_theirs (w ∷ ws) xs ys zs p = parted_theirs w xs (ws ++ ys) (ws ++ zs) (all_theirs ws xs ys zs p)
