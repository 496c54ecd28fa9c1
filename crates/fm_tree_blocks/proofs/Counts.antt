-- Counting back and counting on, a step at a time.
use Rattle.std.proofs.Common.{◌≡◌, ℕ, ◌+◌, Bool, true, false, List, [], ◌∷◌, ◌++◌, length, reverse, drop, suc, zero, refl, sym, ◌∙◌, ap}
use Rattle.std.proofs.lemmas.List.{reverse-append, length-reverse}
use Rattle.fm_tree.specs.declared.form.Form.{Form}
use Rattle.fm_tree.specs.declared.entry_mark.EntryMark.{EntryMark}
use Rattle.fm_tree.specs.declared.entry_mark.Open.{Open}
use Rattle.fm_tree.specs.declared.form.Bracket.{Bracket}
use Rattle.fm_tree.specs.declared.form.Bracket.TheVariants.{Opens, Closes, Parts, Stays}
use Rattle.fm_tree.specs.Structure.{bracket_of}
use Rattle.fm_tree.specs.Blocks.{counted, open_blocks, behind, counted_on, ends, turned, turned_back, part_first}

drop_one : {X : Type 0} (c : ℕ) (xs : List X) → drop c (drop 1 xs) ≡ drop (suc c) xs
drop_one zero [] = refl
drop_one (suc c) [] = refl
drop_one c (x ∷ xs) = refl

drop_nil : {X : Type 0} (c : ℕ) → drop {A = X} c [] ≡ []
drop_nil zero = refl
drop_nil (suc c) = refl

drop_parted : (c at : ℕ) (form : Form) (os : List Open) → drop (suc c) (part_first at form os) ≡ drop (suc c) os
drop_parted c at form [] = refl
drop_parted c at form (o ∷ os) = refl

-- one entry on: what it does to the open blocks
counted_turned : (t : Bracket) (at : ℕ) (form : Form) (outer : ℕ → List Open) → ((c : ℕ) → outer c ≡ drop c (outer zero))
    → (c : ℕ) → counted t at form outer c ≡ drop c (turned t at form (outer zero))
counted_turned Opens at form outer h zero = refl
counted_turned Opens at form outer h (suc c) = h c
counted_turned Closes at form outer h c = h (suc c) ∙ sym (drop_one c (outer zero))
counted_turned Parts at form outer h zero = refl
counted_turned Parts at form outer h (suc c) = h (suc c) ∙ sym (drop_parted c at form (outer zero))
counted_turned Stays at form outer h c = h c

-- passing over c blocks drops the c innermost
pub open_blocks-drop : (before : List EntryMark) (c : ℕ) → open_blocks before c ≡ drop c (open_blocks before zero)
open_blocks-drop [] c = sym (drop_nil c)
open_blocks-drop (e ∷ before) c =
    let h = counted_turned (bracket_of e.form) (length before) e.form (open_blocks before) (open_blocks-drop before) in h c ∙ ap (drop c) (sym (h zero))

pub open_blocks-cons : (e : EntryMark) (before : List EntryMark) → open_blocks (e ∷ before) zero ≡ turned (bracket_of e.form) (length before) e.form (open_blocks before zero)
open_blocks-cons e before = counted_turned (bracket_of e.form) (length before) e.form (open_blocks before) (open_blocks-drop before) zero

pub behind_push : (entries : List EntryMark) (e : EntryMark) → behind (entries ++ e ∷ []) ≡ turned (bracket_of e.form) (length entries) e.form (behind entries)
behind_push entries e =
    ap (λ es. open_blocks es zero) (reverse-append entries (e ∷ [])) ∙ open_blocks-cons e (reverse entries)
    ∙ ap (λ n. turned (bracket_of e.form) n e.form (behind entries)) (length-reverse entries)

-- one entry back: what it does to the ends to come
counted_back : (b : Bool) (t : Bracket) (at : ℕ) (rest : ℕ → List ℕ) → ((c : ℕ) → rest c ≡ drop c (rest zero)) → (c : ℕ) → counted_on b t at rest c ≡ drop c (turned_back b t at (rest zero))
counted_back b Opens at rest h c = h (suc c) ∙ sym (drop_one c (rest zero))
counted_back b Closes at rest h zero = refl
counted_back b Closes at rest h (suc c) = h c
counted_back false Parts at rest h c = h c
counted_back true Parts at rest h zero = ap (λ ms. at ∷ ms) (h (suc zero))
counted_back true Parts at rest h (suc c) = h (suc c) ∙ sym (drop_one c (rest zero))
counted_back b Stays at rest h c = h c

pub ends-drop : (b : Bool) (es : List EntryMark) (at c : ℕ) → ends b es at c ≡ drop c (ends b es at zero)
ends-drop b [] at c = sym (drop_nil c)
ends-drop b (e ∷ es) at c =
    let h = counted_back b (bracket_of e.form) at (ends b es (at + 1)) (ends-drop b es (at + 1)) in h c ∙ ap (drop c) (sym (h zero))

pub ends-cons : (b : Bool) (e : EntryMark) (es : List EntryMark) (at : ℕ) → ends b (e ∷ es) at zero ≡ turned_back b (bracket_of e.form) at (ends b es (at + 1) zero)
ends-cons b e es at = counted_back b (bracket_of e.form) at (ends b es (at + 1)) (ends-drop b es (at + 1)) zero
