-- The open blocks were opened, and their branches started, at earlier places.
use Rattle.std.proofs.Common.{◌≡◌, ℕ, ◌+◌, ◌<◌, ◌≤◌, Bool, true, false, Some, List, [], ◌∷◌, length, reverse, take, drop, suc, zero, sym, ◌∙◌, subst, arith}
use Rattle.std.proofs.lemmas.List.{length-reverse, length-take-le}
use Rattle.fm_tree.specs.declared.form.Form.{Form}
use Rattle.fm_tree.specs.declared.entry_mark.EntryMark.{EntryMark}
use Rattle.fm_tree.specs.declared.entry_mark.Open.{Open}
use Rattle.fm_tree.specs.declared.form.Bracket.{Bracket}
use Rattle.fm_tree.specs.declared.form.Bracket.TheVariants.{Opens, Closes, Parts, Stays}
use Rattle.fm_tree.specs.Structure.{bracket_of}
use Rattle.fm_tree.specs.Blocks.{open_blocks, behind, turned, part_first, head_of, innermost, counted_on, ends}
use Rattle.fm_tree_blocks.proofs.Counts.{open_blocks-cons}

abbrev pub AreBelow : ℕ → List Open → Type 0
AreBelow n [] = Unit {0}
AreBelow n (o ∷ os) = (o.at < n) × (o.start < n) × AreBelow n os

below_more : (n : ℕ) (os : List Open) → AreBelow n os → AreBelow (suc n) os
below_more n [] h = tt
below_more n (o ∷ os) h = (omega arith, omega arith, below_more n os h.2)

below_drop : (n : ℕ) (os : List Open) → AreBelow n os → AreBelow n (drop 1 os)
below_drop n [] h = tt
below_drop n (o ∷ os) h = h.2

below_part : (n at : ℕ) (form : Form) (os : List Open) → at < n → AreBelow n os → AreBelow n (part_first at form os)
below_part n at form [] l h = tt
below_part n at form (o ∷ os) l h = (h.0, l, h.2)

below_turned : (t : Bracket) (at : ℕ) (form : Form) (os : List Open) → AreBelow at os → AreBelow (suc at) (turned t at form os)
below_turned Opens at form os h = (omega arith, omega arith, below_more at os h)
below_turned Closes at form os h = below_drop (suc at) os (below_more at os h)
below_turned Parts at form os h = below_part (suc at) at form os (omega arith) (below_more at os h)
below_turned Stays at form os h = below_more at os h

pub open_blocks_below : (before : List EntryMark) → AreBelow (length before) (open_blocks before zero)
open_blocks_below [] = tt
open_blocks_below (e ∷ before) =
    subst (AreBelow (suc (length before))) (sym (open_blocks-cons e before)) (below_turned (bracket_of e.form) (length before) e.form (open_blocks before zero) (open_blocks_below before))

below_first : (n : ℕ) (os : List Open) (o : Open) → AreBelow n os → head_of os ≡ Some o → (o.at < n) × (o.start < n)
below_first n [] o h e = absurd (cc)
below_first n (p ∷ os) o h e = let q : p ≡ o = cc in (subst (λ (r : Open). r.at < n) q h.0, subst (λ (r : Open). r.start < n) q h.1)

pub innermost_below : (entries : List EntryMark) (k : ℕ) (o : Open) → k ≤ length entries → innermost entries k ≡ Some o → (o.at < k) × (o.start < k)
innermost_below entries k o l e =
    let n : length (reverse (take k entries)) ≡ k = length-reverse (take k entries) ∙ length-take-le k entries l in
    below_first k (behind (take k entries)) o (subst (λ (m : ℕ). AreBelow m (behind (take k entries))) n (open_blocks_below (reverse (take k entries)))) e

first_counted : (b : Bool) (t : Bracket) (at : ℕ) (rest : ℕ → List ℕ) (c n j : ℕ) → ((c : ℕ) → head_of (rest c) ≡ Some j → j < n) → at < n
    → head_of (counted_on b t at rest c) ≡ Some j → j < n
first_counted b Opens at rest c n j h l e = h (suc c) e
first_counted b Closes at rest zero n j h l e = let q : at ≡ j = cc in omega arith
first_counted b Closes at rest (suc c) n j h l e = h c e
first_counted false Parts at rest c n j h l e = h c e
first_counted true Parts at rest zero n j h l e = let q : at ≡ j = cc in omega arith
first_counted true Parts at rest (suc c) n j h l e = h (suc c) e
first_counted b Stays at rest c n j h l e = h c e

-- an end stands within the run
pub end_within : (b : Bool) (es : List EntryMark) (at c j : ℕ) → head_of (ends b es at c) ≡ Some j → j < at + length es
end_within b [] at c j e = absurd (cc)
end_within b (x ∷ es) at c j e =
    first_counted b (bracket_of x.form) at (ends b es (at + 1)) c (at + suc (length es)) j
    (λ d f. let g : j < at + 1 + length es = end_within b es (at + 1) d j f in omega arith) (omega arith) e
