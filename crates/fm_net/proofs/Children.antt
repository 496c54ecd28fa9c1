-- Places of children, the changes that a step makes at them, and the children of a block that have ended.
use Rattle.std.proofs.Common.{◌≡◌, ◌≢◌, ℕ, zero, suc, ◌+◌, ◌≤◌, ◌<◌, Option, Some, None, List, [], ◌∷◌, ◌++◌, Bool, true, false, cond, option_map, refl, sym, ap, ap₂, ◌∙◌, arith}
use Rattle.std.specs.FinMap.{get}
use Rattle.fm_base.specs.Channels.{Chans}
use Rattle.fm_finmap.specs.Changes.{Change, Off, Apart}
use Rattle.fm_finmap.proofs.Alters.{Off-append, Apart-append}
use Rattle.fm_net.specs.Machine.{Place, Procs, Need, Nothing, Event, New, Children, Reply, Onward, child, reply_with, with_child, gathered, served, start_changes, child_changes, need_changes, changes}
use native.Mathlib.Decide.{ℕ_discrete}

-- ---- places

pub pair_snoc : (p q : Place) (x y : ℕ × ℕ) → p ++ x ∷ [] ≡ q ++ y ∷ [] → p ≡ q
pair_snoc [] [] x y e = refl
pair_snoc [] (b ∷ []) x y e = absurd (cc)
pair_snoc [] (b ∷ c ∷ q) x y e = absurd (cc)
pair_snoc (a ∷ []) [] x y e = absurd (cc)
pair_snoc (a ∷ c ∷ p) [] x y e = absurd (cc)
pair_snoc (a ∷ p) (b ∷ q) x y e =
    let head : a ≡ b = cc in
    let tail : p ++ x ∷ [] ≡ q ++ y ∷ [] = cc in
    ap₂ (λ u v. u ∷ v) head (pair_snoc p q x y tail)

pub one_parent : (p q : Place) (b i d j : ℕ) → (p ≢ q) → child p b i ≢ child q d j
one_parent p q b i d j n e = n (pair_snoc p q (b, i) (d, j) e)

last_snoc : (p : Place) (x y : ℕ × ℕ) → p ++ x ∷ [] ≡ p ++ y ∷ [] → x ≡ y
last_snoc [] x y e = cc
last_snoc (a ∷ p) x y e = let tail : p ++ x ∷ [] ≡ p ++ y ∷ [] = cc in last_snoc p x y tail

pub other_child : (p : Place) (b i j : ℕ) → (i ≢ j) → child p b i ≢ child p b j
other_child p b i j n e = n (ap (λ (x : ℕ × ℕ). x.1) (last_snoc p (b, i) (b, j) e))

pub child_block : (q p : Place) (b i d j : ℕ) → child q b i ≡ child p d j → b ≡ d
child_block q p b i d j e = ap (λ (x : ℕ × ℕ). x.0) (last_snoc q (b, i) (d, j) (e ∙ ap (λ r. child r d j) (sym (pair_snoc q p (b, i) (d, j) e))))

pub not_own_child : (p : Place) (x : ℕ × ℕ) → p ≢ p ++ x ∷ []
not_own_child [] x e = cc
not_own_child (a ∷ p) x e = let tail : p ≡ p ++ x ∷ [] = cc in not_own_child p x tail

-- ---- the lists of changes

module _ {Proc : Type 0} where
  pub off_starts : (r q : Place) (b j : ℕ) (xs : List Proc) → ((i : ℕ) → j ≤ i → r ≢ child q b i) → Off r (start_changes q b j xs)
  off_starts r q b j [] n = tt
  off_starts r q b j (x ∷ xs) n = (n j (omega arith), off_starts r q b (suc j) xs (λ i l. n i (omega arith)))

  apart_starts : (p : Place) (b j : ℕ) (xs : List Proc) (ws : List (Change Place Proc)) → ((i : ℕ) → Off (child p b i) ws) → Apart (start_changes p b j xs) ws
  apart_starts p b j [] ws h = tt
  apart_starts p b j (x ∷ xs) ws h = (h j, apart_starts p b (suc j) xs ws h)

  module _ (emptied : Proc → Proc) where
    pub off_children : (r q : Place) (b i n : ℕ) → ((j : ℕ) → i ≤ j → j < n + i → r ≢ child q b j) → Off r (child_changes emptied q b i n)
    off_children r q b i zero h = tt
    off_children r q b i (suc n) h = (h i (omega arith) (omega arith), off_children r q b (suc i) n (λ j l m. h j (omega arith) (omega arith)))

    -- r is no child that is joined
    abbrev pub IsNoChild : Place → Place → Need → Type 0
    IsNoChild r q Nothing = Unit {0}
    IsNoChild r q (Event c a) = Unit {0}
    IsNoChild r q (New n w) = Unit {0}
    IsNoChild r q (Children b n) = (i : ℕ) → 1 ≤ i → i < n + 1 → r ≢ child q b i

    off_need : (r q : Place) (need : Need) → IsNoChild r q need → Off r (need_changes emptied q need)
    off_need r q Nothing h = tt
    off_need r q (Event c a) h = tt
    off_need r q (New n w) h = tt
    off_need r q (Children b n) h = off_children r q b 1 n h

    pub off_own_need : (p : Place) (need : Need) → Off p (need_changes emptied p need)
    off_own_need p Nothing = tt
    off_own_need p (Event c a) = tt
    off_own_need p (New n w) = tt
    off_own_need p (Children b n) = off_children p p b 1 n (λ i l m. not_own_child p (b, i))

    pub off_changes : (r q : Place) (need : Need) (o : Onward Proc) → (r ≢ q) → ((i : ℕ) → r ≢ child q o.block i) → IsNoChild r q need → Off r (changes emptied q need o)
    off_changes r q need o n h k = (n, Off-append r (start_changes q o.block 1 o.starts) (need_changes emptied q need) (off_starts r q o.block 1 o.starts (λ i l. h i)) (off_need r q need k))

    apart_children : (p : Place) (b i n : ℕ) (ws : List (Change Place Proc)) → ((j : ℕ) → i ≤ j → j < n + i → Off (child p b j) ws) → Apart (child_changes emptied p b i n) ws
    apart_children p b i zero ws h = tt
    apart_children p b i (suc n) ws h = (h i (omega arith) (omega arith), apart_children p b (suc i) n ws (λ j l m. h j (omega arith) (omega arith)))

    -- no change is at a child that is joined
    abbrev pub ChildrenOff : Place → Need → List (Change Place Proc) → Type 0
    ChildrenOff p Nothing ws = Unit {0}
    ChildrenOff p (Event c a) ws = Unit {0}
    ChildrenOff p (New n w) ws = Unit {0}
    ChildrenOff p (Children b n) ws = (i : ℕ) → 1 ≤ i → i < n + 1 → Off (child p b i) ws

    apart_need : (p : Place) (need : Need) (ws : List (Change Place Proc)) → ChildrenOff p need ws → Apart (need_changes emptied p need) ws
    apart_need p Nothing ws h = tt
    apart_need p (Event c a) ws h = tt
    apart_need p (New n w) ws h = tt
    apart_need p (Children b n) ws h = apart_children p b 1 n ws h

    pub apart_changes : (p : Place) (need : Need) (o : Onward Proc) (ws : List (Change Place Proc)) → Off p ws → ((i : ℕ) → Off (child p o.block i) ws) → ChildrenOff p need ws → Apart (changes emptied p need o) ws
    apart_changes p need o ws h s k = (h, Apart-append (start_changes p o.block 1 o.starts) (need_changes emptied p need) ws (apart_starts p o.block 1 o.starts ws s) (apart_need p need ws k))

  -- ---- the children that have ended

  module _ (has_ended : Proc → Bool) where
    -- the first of the children, and the others
    pub record Gathered (m : Procs Proc) (p : Place) (b i n : ℕ) (ys : List Proc) : Type 0 where
      pub head : Proc
      pub tail : List Proc
      pub is : get m (child p b i) ≡ Some head
      pub done : has_ended head ≡ true
      pub others : gathered has_ended m p b (suc i) n ≡ Some tail
      pub all : head ∷ tail ≡ ys

    pub first_gathered : (m : Procs Proc) (p : Place) (b i n : ℕ) (ys : List Proc) → gathered has_ended m p b i (suc n) ≡ Some ys → Gathered m p b i n ys
    first_gathered m p b i n ys e = go (get m (child p b i)) (gathered has_ended m p b (suc i) n) refl refl e
      where
        inner : (x : Proc) (xs : Option (List Proc)) (c : Bool) → get m (child p b i) ≡ Some x → has_ended x ≡ c → gathered has_ended m p b (suc i) n ≡ xs → cond c (option_map (λ ys. x ∷ ys) xs) None ≡ Some ys → Gathered m p b i n ys
        inner x None true is done was e' = absurd (cc e')
        inner x (Some zs) true is done was e' = record { head = x; tail = zs; is = is; done = done; others = was; all = cc e' }
        inner x xs false is done was e' = absurd (cc e')

        go : (o : Option Proc) (xs : Option (List Proc)) → get m (child p b i) ≡ o → gathered has_ended m p b (suc i) n ≡ xs → with_child has_ended o xs ≡ Some ys → Gathered m p b i n ys
        go None xs is was e' = absurd (cc e')
        go (Some x) xs is was e' = inner x xs (has_ended x) is refl was e'

    -- each child that is joined is there, and has ended
    pub child_there : (m : Procs Proc) (p : Place) (b i n : ℕ) (ys : List Proc) → gathered has_ended m p b i n ≡ Some ys → (j : ℕ) → i ≤ j → j < n + i → (x : Proc) × (get m (child p b j) ≡ Some x) × (has_ended x ≡ true)
    child_there m p b i zero ys e j l h = absurd (omega arith)
    child_there m p b i (suc n) ys e j l h =
        let g = first_gathered m p b i n ys e in
        elim (ℕ_discrete j i) [
          | yes same ↦ (g.head, ap (λ k. get m (child p b k)) same ∙ g.is, g.done)
          | no off ↦ child_there m p b (suc i) n g.tail g.others j (omega arith) (omega arith)
        ]

    -- the reply to who joins has the children that have ended
    pub served_children : (m : Procs Proc) (cs : Chans) (p : Place) (b n : ℕ) (r : Reply Proc) → served has_ended m cs p (Children b n) ≡ Some r → (ys : List Proc) × (gathered has_ended m p b 1 n ≡ Some ys) × (reply_with ys ≡ r)
    served_children m cs p b n r e = go (gathered has_ended m p b 1 n) refl e
      where
        go : (o : Option (List Proc)) → gathered has_ended m p b 1 n ≡ o → option_map reply_with o ≡ Some r → (ys : List Proc) × (gathered has_ended m p b 1 n ≡ Some ys) × (reply_with ys ≡ r)
        go None is e' = absurd (cc e')
        go (Some ys) is e' = (ys, is, cc e')

    pub joined_child : (m : Procs Proc) (cs : Chans) (p : Place) (b n : ℕ) (r : Reply Proc) → served has_ended m cs p (Children b n) ≡ Some r → (i : ℕ) → 1 ≤ i → i < n + 1 → (x : Proc) × (get m (child p b i) ≡ Some x) × (has_ended x ≡ true)
    joined_child m cs p b n r e i l h = let k = served_children m cs p b n r e in child_there m p b 1 n k.0 k.1 i l h
