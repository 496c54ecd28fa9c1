-- Counting back and counting on agree.
use Rattle.std.proofs.Common.{◌≡◌, ℕ, ◌+◌, ◌<◌, ◌≤◌, Bool, true, false, Option, Some, List, [], ◌∷◌, length, reverse, take, drop, suc, zero, get_or, refl, sym, ◌∙◌, ap, subst, arith, add-one, add-zero, ◌-◌, ◌⊎◌, inl, inr, ⊎_elim}
use Rattle.std.proofs.lemmas.Bool.{cases_lt}
use Rattle.std.specs.List.{slice_get}
use Rattle.std.proofs.lemmas.List.{drop_more, length-reverse, length-take-le}
use Rattle.fm_tree_blocks.proofs.Below.{AreBelow, open_blocks_below}
use Rattle.fm_tree.specs.declared.form.Form.{Form}
use Rattle.fm_tree.specs.declared.entry_mark.EntryMark.{EntryMark}
use Rattle.fm_tree.specs.declared.entry_mark.Open.{Open}
use Rattle.fm_tree.specs.declared.form.Bracket.{Bracket}
use Rattle.fm_tree.specs.declared.form.Bracket.TheVariants.{Opens, Closes, Parts, Stays}
use Rattle.fm_tree.specs.Structure.{bracket_of}
use Rattle.fm_tree.specs.Blocks.{behind, turned, head_of, innermost, counted_on, ends, mate_of, branch_end, PathEnds, Holds}
use Rattle.fm_tree.specs.Units.{blank_mark}
use Rattle.fm_tree_blocks.proofs.Walks.{behind_more}
use Rattle.fm_tree_blocks.proofs.Lists.{first_cons}

-- where a block, or its present branch, starts
abbrev pub begin_of : Bool → Open → ℕ
begin_of true o = o.start
begin_of false o = o.at

-- where it ends
abbrev pub end_of : Bool → List EntryMark → ℕ → Option ℕ
end_of b entries i = head_of (ends b (drop (i + 1) entries) (i + 1) zero)

slice_get_drop : {X : Type 0} (xs : List X) (m : ℕ) → slice_get (drop 1 xs) m ≡ slice_get xs (suc m)
slice_get_drop [] m = refl
slice_get_drop (x ∷ xs) m = refl

-- one step: at each depth the end looked for stays the same
step : (b : Bool) (t : Bracket) (k : ℕ) (form : Form) (rest : ℕ → List ℕ) (os : List Open) (End : ℕ → Option ℕ)
    → End k ≡ head_of (rest zero)
    → ((m : ℕ) (o : Open) → slice_get os m ≡ Some o → End (begin_of b o) ≡ head_of (counted_on b t k rest m))
    → (m : ℕ) (o : Open) → slice_get (turned t k form os) m ≡ Some o → End (begin_of b o) ≡ head_of (rest m)
step true Opens k form rest os End here h zero o e = let q : k ≡ o.start = cc in ap End (sym q) ∙ here
step false Opens k form rest os End here h zero o e = let q : k ≡ o.at = cc in ap End (sym q) ∙ here
step b Opens k form rest os End here h (suc m) o e = h m o e
step b Closes k form rest os End here h m o e = h (suc m) o (sym (slice_get_drop os m) ∙ e)
step b Parts k form rest [] End here h m o e = absurd (cc)
step true Parts k form rest (p ∷ os) End here h zero o e = let q : k ≡ o.start = cc in ap End (sym q) ∙ here
step false Parts k form rest (p ∷ os) End here h zero o e = let q : p.at ≡ o.at = cc in ap End (sym q) ∙ h zero p refl
step true Parts k form rest (p ∷ os) End here h (suc m) o e = h (suc m) o e
step false Parts k form rest (p ∷ os) End here h (suc m) o e = h (suc m) o e
step b Stays k form rest os End here h m o e = h m o e

-- the end of the m-th open block is the first end to come but for m
pub end_to_come : (b : Bool) (entries : List EntryMark) (k : ℕ) → k ≤ length entries → (m : ℕ) (o : Open) → slice_get (behind (take k entries)) m ≡ Some o
    → end_of b entries (begin_of b o) ≡ head_of (ends b (drop k entries) k m)
end_to_come b entries zero l m o e = absurd (cc)
end_to_come b entries (suc k) l m o e =
    let i : k < length entries = omega arith in
    let d = drop_more entries k blank_mark i in
    let s = step b (bracket_of (get_or entries k blank_mark).form) k (get_or entries k blank_mark).form (ends b (drop (k + 1) entries) (k + 1)) (behind (take k entries)) (end_of b entries) refl
    (λ n p f. end_to_come b entries k (omega arith) n p f ∙ ap (λ es. head_of (ends b es k n)) d) m o in
    let e' : slice_get (behind (take (k + 1) entries)) m ≡ Some o = ap (λ n. slice_get (behind (take n entries)) m) (add-one k) ∙ e in
    let r = s (sym (ap (λ os. slice_get os m) (behind_more entries k blank_mark i)) ∙ e') in
    r ∙ ap (λ n. head_of (ends b (drop n entries) n m)) (add-one k)

first_slice : {X : Type 0} (xs : List X) (x : X) → head_of xs ≡ Some x → slice_get xs 0 ≡ Some x
first_slice [] x e = absurd (cc)
first_slice (y ∷ ys) x e = e

-- a closer is the mate of the block that is innermost there
pub closer_is_mate : (entries : List EntryMark) (j : ℕ) (o : Open) → j < length entries → bracket_of (get_or entries j blank_mark).form ≡ Closes → innermost entries j ≡ Some o
    → mate_of entries o.at ≡ Some j
closer_is_mate entries j o l t e =
    end_to_come false entries j (omega arith) 0 o (first_slice (behind (take j entries)) o e)
    ∙ ap (λ es. head_of (ends false es j zero)) (drop_more entries j blank_mark l)
    ∙ ap (λ u. head_of (counted_on false u j (ends false (drop (j + 1) entries) (j + 1)) zero)) t

-- the blocks around an open block are those that were open before its opener
outer_step : (t : Bracket) (k : ℕ) (form : Form) (os : List Open) (Outer : ℕ → List Open)
    → Outer k ≡ os
    → ((m : ℕ) (o : Open) → slice_get os m ≡ Some o → Outer o.at ≡ drop (suc m) os)
    → (m : ℕ) (o : Open) → slice_get (turned t k form os) m ≡ Some o → Outer o.at ≡ drop (suc m) (turned t k form os)
outer_step Opens k form os Outer here h zero o e = let q : k ≡ o.at = cc in ap Outer (sym q) ∙ here
outer_step Opens k form os Outer here h (suc m) o e = h m o e
outer_step Closes k form [] Outer here h m o e = absurd (cc)
outer_step Closes k form (p ∷ os) Outer here h m o e = h (suc m) o e
outer_step Parts k form [] Outer here h m o e = absurd (cc)
outer_step Parts k form (p ∷ os) Outer here h zero o e = let q : p.at ≡ o.at = cc in ap Outer (sym q) ∙ h zero p refl
outer_step Parts k form (p ∷ os) Outer here h (suc m) o e = h (suc m) o e
outer_step Stays k form os Outer here h m o e = h m o e

pub outer_blocks : (entries : List EntryMark) (k : ℕ) → k ≤ length entries → (m : ℕ) (o : Open) → slice_get (behind (take k entries)) m ≡ Some o
    → behind (take o.at entries) ≡ drop (suc m) (behind (take k entries))
outer_blocks entries zero l m o e = absurd (cc)
outer_blocks entries (suc k) l m o e =
    let i : k < length entries = omega arith in
    let up : behind (take (suc k) entries) ≡ turned (bracket_of (get_or entries k blank_mark).form) k (get_or entries k blank_mark).form (behind (take k entries))
    = ap (λ n. behind (take n entries)) (sym (add-one k)) ∙ behind_more entries k blank_mark i in
    outer_step (bracket_of (get_or entries k blank_mark).form) k (get_or entries k blank_mark).form (behind (take k entries)) (λ n. behind (take n entries)) refl
    (outer_blocks entries k (omega arith)) m o (sym (ap (λ os. slice_get os m) up) ∙ e)
    ∙ ap (drop (suc m)) (sym up)

-- the block path of a place is its innermost block and the path of that block's opener
pub path_outwards : (entries : List EntryMark) (k : ℕ) (o : Open) → k ≤ length entries → innermost entries k ≡ Some o
    → behind (take k entries) ≡ o ∷ behind (take o.at entries)
path_outwards entries k o l e =
    first_cons (behind (take k entries)) o e ∙ ap (λ os. o ∷ os) (sym (outer_blocks entries k l 0 o (first_slice (behind (take k entries)) o e)))

-- a block that isn't ended is still open: what a branch that was begun becomes
abbrev Follows : List EntryMark → Open → ℕ → Type 0
Follows entries q k =
    ((m : ℕ) × (slice_get (behind (take k entries)) m ≡ Some q)) ⊎ ((j : ℕ) × (branch_end entries q.start ≡ Some j) × (j < k))

follow_step : (t : Bracket) (k : ℕ) (form : Form) (rest : ℕ → List ℕ) (os : List Open) (end : Option ℕ) (q : Open) (m : ℕ) → slice_get os m ≡ Some q
    → end ≡ head_of (counted_on true t k rest m)
    → ((n : ℕ) × (slice_get (turned t k form os) n ≡ Some q)) ⊎ ((j : ℕ) × (end ≡ Some j) × (j < suc k))
follow_step Opens k form rest os end q m e f = inl (suc m, e)
follow_step Closes k form rest os end q zero e f = inr (k, f, omega arith)
follow_step Closes k form rest os end q (suc m) e f = inl (m, slice_get_drop os m ∙ e)
follow_step Parts k form rest [] end q m e f = absurd (cc)
follow_step Parts k form rest (p ∷ os) end q zero e f = inr (k, f, omega arith)
follow_step Parts k form rest (p ∷ os) end q (suc m) e f = inl (suc m, e)
follow_step Stays k form rest os end q m e f = inl (m, e)

follow_one : (entries : List EntryMark) (q : Open) (k : ℕ) → k < length entries → Follows entries q k → Follows entries q (suc k)
follow_one entries q k l (inr s) = inr (s.0, s.1, omega arith)
follow_one entries q k l (inl s) =
    let up : behind (take (suc k) entries) ≡ turned (bracket_of (get_or entries k blank_mark).form) k (get_or entries k blank_mark).form (behind (take k entries))
    = ap (λ n. behind (take n entries)) (sym (add-one k)) ∙ behind_more entries k blank_mark l in
    let g = follow_step (bracket_of (get_or entries k blank_mark).form) k (get_or entries k blank_mark).form (ends true (drop (k + 1) entries) (k + 1)) (behind (take k entries)) (branch_end entries q.start) q s.0 s.1
    (end_to_come true entries k (omega arith) s.0 q s.1 ∙ ap (λ es. head_of (ends true es k s.0)) (drop_more entries k blank_mark l)) in
    ⊎_elim (λ x. inl (x.0, ap (λ os. slice_get os x.0) up ∙ x.1)) (λ x. inr (x.0, x.1, x.2)) g

-- from a place where a block is open, to any later place
pub follows : (entries : List EntryMark) (q : Open) (k n : ℕ) → k + n ≤ length entries → Follows entries q k → Follows entries q (k + n)
follows entries q k zero l f = subst (λ (m : ℕ). Follows entries q m) (sym (add-zero k)) f
follows entries q k (suc n) l f =
    let e : suc (k + n) ≡ k + suc n = omega arith in
    subst (λ (m : ℕ). Follows entries q m) e (follow_one entries q (k + n) (omega arith) (follows entries q k n (omega arith) f))

back_step : (t : Bracket) (k : ℕ) (form : Form) (os : List Open) (q : Open) (n : ℕ) → q.start < k → slice_get (turned t k form os) n ≡ Some q
    → (m : ℕ) × (slice_get os m ≡ Some q)
back_step Opens k form os q zero l e = let s : k ≡ q.start = cc in absurd (omega arith)
back_step Opens k form os q (suc n) l e = (n, e)
back_step Closes k form os q n l e = (suc n, sym (slice_get_drop os n) ∙ e)
back_step Parts k form [] q n l e = absurd (cc)
back_step Parts k form (p ∷ os) q zero l e = let s : k ≡ q.start = cc in absurd (omega arith)
back_step Parts k form (p ∷ os) q (suc n) l e = (suc n, e)
back_step Stays k form os q n l e = (n, e)

abbrev IsOpen : List EntryMark → Open → ℕ → Type 0
IsOpen entries q k = (m : ℕ) × (slice_get (behind (take k entries)) m ≡ Some q)

-- a branch that started before a place and is open later is open at the place
pub open_before : (entries : List EntryMark) (q : Open) (k n : ℕ) → k + n ≤ length entries → q.start < k → IsOpen entries q (k + n) → IsOpen entries q k
open_before entries q k zero l b s = subst (λ (m : ℕ). IsOpen entries q m) (add-zero k) s
open_before entries q k (suc n) l b s =
    let e : k + suc n ≡ k + n + 1 = omega arith in
    let i : k + n < length entries = omega arith in
    let up = ap (λ m. behind (take m entries)) e ∙ behind_more entries (k + n) blank_mark i in
    open_before entries q k n (omega arith) b
    (back_step (bracket_of (get_or entries (k + n) blank_mark).form) (k + n) (get_or entries (k + n) blank_mark).form (behind (take (k + n) entries)) q s.0 (omega arith)
    (sym (ap (λ os. slice_get os s.0) up) ∙ s.1))

-- where a branch is open at one place, it is open at another exactly where it has started and isn't ended before
pub open_elsewhere : (entries : List EntryMark) (q : Open) (t k : ℕ) → t ≤ length entries → k ≤ length entries → IsOpen entries q t
    → q.start < k → ((j : ℕ) → branch_end entries q.start ≡ Some j → k ≤ j) → IsOpen entries q k
open_elsewhere entries q t k lt lk s b h = ⊎_elim before behind' (cases_lt k t)
  where
    before : k < t → IsOpen entries q k
    before l = let e : t ≡ k + (t - k) = omega arith in
        open_before entries q k (t - k) (omega arith) b (subst (λ (m : ℕ). IsOpen entries q m) e s)

    behind' : t ≤ k → IsOpen entries q k
    behind' l = let e : t + (k - t) ≡ k = omega arith in
        ⊎_elim (λ x. x) (λ x. let g : k ≤ x.0 = h x.0 x.1 in let y : x.0 < k = x.2 in absurd (omega arith))
        (subst (λ (m : ℕ). Follows entries q m) e (follows entries q t (k - t) (omega arith) (inl s)))

-- the block path of a place that an open block holds ends with the block's
pub path_within : (entries : List EntryMark) (q : Open) (t k : ℕ) → t ≤ length entries → k ≤ length entries → innermost entries t ≡ Some q
    → (s : IsOpen entries q k) → drop s.0 (behind (take k entries)) ≡ behind (take t entries)
path_within entries q t k lt lk e s =
    drop_slice (behind (take k entries)) s.0 q s.1 ∙ ap (λ os. q ∷ os) (sym (outer_blocks entries k lk s.0 q s.1)) ∙ sym (path_outwards entries t q lt e)
  where
    drop_slice : {X : Type 0} (xs : List X) (m : ℕ) (x : X) → slice_get xs m ≡ Some x → drop m xs ≡ x ∷ drop (suc m) xs
    drop_slice [] m x e = absurd (cc)
    drop_slice (y ∷ ys) zero x e = cc
    drop_slice (y ∷ ys) (suc m) x e = drop_slice ys m x e

-- a branch that holds a place is open there, and one that is open there holds it
pub open_holds : (entries : List EntryMark) (q : Open) (k : ℕ) → k ≤ length entries → IsOpen entries q k → (j : ℕ) → branch_end entries q.start ≡ Some j → k ≤ j
open_holds entries q k l s j e =
    end_after true (drop k entries) k s.0 j (sym (end_to_come true entries k l s.0 q s.1) ∙ e)
  where
    first_after : (b : Bool) (t : Bracket) (at : ℕ) (rest : ℕ → List ℕ) (c n j : ℕ) → ((c : ℕ) → head_of (rest c) ≡ Some j → n ≤ j) → n ≤ at
        → head_of (counted_on b t at rest c) ≡ Some j → n ≤ j
    first_after b Opens at rest c n j h l e = h (suc c) e
    first_after b Closes at rest zero n j h l e = let q : at ≡ j = cc in omega arith
    first_after b Closes at rest (suc c) n j h l e = h c e
    first_after false Parts at rest c n j h l e = h c e
    first_after true Parts at rest zero n j h l e = let q : at ≡ j = cc in omega arith
    first_after true Parts at rest (suc c) n j h l e = h (suc c) e
    first_after b Stays at rest c n j h l e = h c e

    end_after : (b : Bool) (es : List EntryMark) (at c j : ℕ) → head_of (ends b es at c) ≡ Some j → at ≤ j
    end_after b [] at c j e = absurd (cc)
    end_after b (x ∷ es) at c j e =
        first_after b (bracket_of x.form) at (ends b es (at + 1)) c at j (λ d f. let g : at + 1 ≤ j = end_after b es (at + 1) d j f in omega arith) (omega arith) e

first_drop : {X : Type 0} (xs : List X) (m : ℕ) (x : X) (rest : List X) → drop m xs ≡ x ∷ rest → slice_get xs m ≡ Some x
first_drop [] zero x rest e = absurd (cc)
first_drop [] (suc m) x rest e = absurd (cc)
first_drop (y ∷ ys) zero x rest e = cc
first_drop (y ∷ ys) (suc m) x rest e = first_drop ys m x rest e

below_at : (n : ℕ) (os : List Open) (m : ℕ) (o : Open) → AreBelow n os → slice_get os m ≡ Some o → o.start < n
below_at n [] m o h e = absurd (cc)
below_at n (p ∷ os) zero o h e = let q : p ≡ o = cc in subst (λ (r : Open). r.start < n) q h.1
below_at n (p ∷ os) (suc m) o h e = below_at n os m o h.2 e

open_below : (entries : List EntryMark) (q : Open) (k : ℕ) → k ≤ length entries → IsOpen entries q k → q.start < k
open_below entries q k l s =
    let n : length (reverse (take k entries)) ≡ k = length-reverse (take k entries) ∙ length-take-le k entries l in
    below_at k (behind (take k entries)) s.0 q (subst (λ (m : ℕ). AreBelow m (behind (take k entries))) n (open_blocks_below (reverse (take k entries)))) s.1

-- the path of a place, innermost first, ends the path of another one exactly where its innermost branch holds the other
pub paths_agree : (entries : List EntryMark) (t k : ℕ) (q : Open) → t ≤ length entries → k ≤ length entries → innermost entries t ≡ Some q
    → (PathEnds entries t k → Holds entries q k) × (Holds entries q k → PathEnds entries t k)
paths_agree entries t k q lt lk e = (
  (λ p. let s : IsOpen entries q k = (p.0, first_drop (behind (take k entries)) p.0 q (behind (take q.at entries)) (p.1 ∙ path_outwards entries t q lt e)) in
      (open_below entries q k lk s, open_holds entries q k lk s)),
  (λ h. let s : IsOpen entries q k = open_elsewhere entries q t k lt lk (0, first_slice (behind (take t entries)) q e) h.0 h.1 in (s.0, path_within entries q t k lt lk e s)),
)
