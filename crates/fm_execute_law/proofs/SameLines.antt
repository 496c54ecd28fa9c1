-- Lines of object texts in front of bytes: where two are the same bytes, they say the same, and so do the bytes behind them. Of the one it
-- isn't known whether its numbers are within their ranges.
use Rattle.std.proofs.Common.{◌≡◌, ℕ, List, [], ◌∷◌, ◌++◌, length, refl, sym, ap, ap₂, ◌∙◌, append_assoc, arith}
use Rattle.std.specs.Prelude.{codes}
use Rattle.std.specs.List.{AllByRecursion, flat_map}
use Rattle.std.proofs.lemmas.List.Concat.{flat_map-cons}
use Rattle.fm_code.specs.declared.code.Entry.{Entry}
use Rattle.fm_code.specs.Parts.{Parts, parts_of}
use Rattle.fm_object.specs.declared.image.Cell.{Cell}
use Rattle.fm_object.specs.declared.image.FieldImage.{FieldImage}
use Rattle.fm_object.specs.Texts.{CellFits, EntryFits, FieldFits, InstrFits, IsName, IsShort, cell_text, entry_text, extent_text, field_text, instr_text, number, signed, word}
use Rattle.fm_object.proofs.WordLaws.{IsEnd}
use Rattle.fm_execute_law.proofs.PartsBack.{same_instr}
use Rattle.fm_execute_law.proofs.SameWords.{same_keyword, same_name, same_number, same_signed_number}

-- ---- texts

-- two texts in front of bytes are of the same, where the one is known and the other fits
abbrev pub Tells : {X : Type 0} → (text : X → List ℕ) → (Known Fits : X → Type 0) → Type 0
Tells {X} text Known Fits = (x y : X) (r s : List ℕ) → Known x → Fits y → text x ++ r ≡ text y ++ s → (x ≡ y) × (r ≡ s)

-- of which nothing need be known
abbrev pub Anything : {X : Type 0} → X → Type 0
Anything x = Unit {0}

pub any_all : {X : Type 0} (xs : List X) → AllByRecursion Anything xs
any_all [] = tt
any_all (x ∷ xs) = (tt, any_all xs)

module _ {X : Type 0} (text : X → List ℕ) (Known Fits : X → Type 0) (tells : Tells text Known Fits) where
  grouped : (x : X) (xs : List X) (r : List ℕ) → flat_map text (x ∷ xs) ++ r ≡ text x ++ (flat_map text xs ++ r)
  grouped x xs r = ap (λ (z : List ℕ). z ++ r) (flat_map-cons text x xs) ∙ append_assoc (text x) (flat_map text xs) r

  -- as many, one behind the other
  pub all_tell : (xs ys : List X) (r s : List ℕ) → length xs ≡ length ys → AllByRecursion Known xs → AllByRecursion Fits ys → flat_map text xs ++ r ≡ flat_map text ys ++ s → (xs ≡ ys) × (r ≡ s)
  all_tell [] [] r s count known fits e = (refl, e)
  all_tell [] (y ∷ ys) r s count known fits e = absurd (omega (arith, count))
  all_tell (x ∷ xs) [] r s count known fits e = absurd (omega (arith, count))
  all_tell (x ∷ xs) (y ∷ ys) r s count known fits e =
      let first = tells x y (flat_map text xs ++ r) (flat_map text ys ++ s) known.0 fits.0 (sym (grouped x xs r) ∙ e ∙ grouped y ys s) in
      let fewer : length xs ≡ length ys = omega (arith, count) in
      let others = all_tell xs ys r s fewer known.1 fits.1 first.1 in
      (ap₂ (λ (z : X) (zs : List X). z ∷ zs) first.0 others.0, others.1)

-- ---- numbers on a line

blank : IsEnd 32
blank = record { low = omega arith }

line_end : IsEnd 10
line_end = record { low = omega arith }

abbrev pub numbers_text : List ℕ → List ℕ
numbers_text [] = []
numbers_text (n ∷ []) = number n 10
numbers_text (n ∷ m ∷ ns) = number n 32 ++ numbers_text (m ∷ ns)

same_numbers : (ns ms : List ℕ) (r s : List ℕ) → length ns ≡ length ms → AllByRecursion IsShort ms → numbers_text ns ++ r ≡ numbers_text ms ++ s → (ns ≡ ms) × (r ≡ s)
same_numbers [] [] r s count short e = (refl, e)
same_numbers [] (m ∷ ms) r s count short e = absurd (omega (arith, count))
same_numbers (n ∷ ns) [] r s count short e = absurd (omega (arith, count))
same_numbers (n ∷ []) (m ∷ []) r s count short e =
    let k = same_number 10 line_end r s n m short.0 e in
    (ap (λ (z : ℕ). z ∷ []) k.0, k.1)
same_numbers (n ∷ []) (m ∷ l ∷ ms) r s count short e = absurd (omega (arith, count))
same_numbers (n ∷ k ∷ ns) (m ∷ []) r s count short e = absurd (omega (arith, count))
same_numbers (n ∷ k ∷ ns) (m ∷ l ∷ ms) r s count short e =
    let mine = numbers_text (k ∷ ns) in
    let theirs = numbers_text (l ∷ ms) in
    let first = same_number 32 blank (mine ++ r) (theirs ++ s) n m short.0 (sym (append_assoc (number n 32) mine r) ∙ e ∙ append_assoc (number m 32) theirs s) in
    let fewer : length (k ∷ ns) ≡ length (l ∷ ms) = omega (arith, count) in
    let others = same_numbers (k ∷ ns) (l ∷ ms) r s fewer short.1 first.1 in
    (ap₂ (λ (z : ℕ) (zs : List ℕ). z ∷ zs) first.0 others.0, others.1)

pub same_line : (keyword ns ms r s : List ℕ) → length ns ≡ length ms → AllByRecursion IsShort ms → (keyword ++ numbers_text ns) ++ r ≡ (keyword ++ numbers_text ms) ++ s → (ns ≡ ms) × (r ≡ s)
same_line keyword ns ms r s count short e =
    same_numbers ns ms r s count short
    (same_keyword keyword (numbers_text ns ++ r) (numbers_text ms ++ s) (sym (append_assoc keyword (numbers_text ns) r) ∙ e ∙ append_assoc keyword (numbers_text ms) s))

-- ---- single lines

abbrev field_numbers : FieldImage → List ℕ
field_numbers f = f.kind ∷ f.of ∷ f.words ∷ f.size ∷ []

same_field : (x y : FieldImage) → field_numbers x ≡ field_numbers y → x ≡ y
same_field x y e =
    let kind : x.kind ≡ y.kind = cc e in
    let type : x.of ≡ y.of = cc e in
    let words : x.words ≡ y.words = cc e in
    let size : x.size ≡ y.size = cc e in
    λ j. record { kind = kind j; of = type j; words = words j; size = size j }

pub field_tells : Tells field_text Anything FieldFits
field_tells = λ x y r s known fits e.
    let k = same_line (codes "field ") (field_numbers x) (field_numbers y) r s refl (fits.kind, (fits.of, (fits.words, (fits.size, tt)))) e in
    (same_field x y k.0, k.1)

pub extent_tells : Tells extent_text Anything IsShort
extent_tells = λ x y r s known fits e.
    let k = same_line (codes "extent ") (x ∷ []) (y ∷ []) r s refl (fits, tt) e in
    let same : x ≡ y = cc k.0 in
    (same, k.1)

abbrev cell_numbers : Cell → List ℕ
cell_numbers c = c.kind ∷ c.of ∷ c.first ∷ c.words ∷ c.formal ∷ c.back ∷ []

same_cell : (x y : Cell) → x.name ≡ y.name → cell_numbers x ≡ cell_numbers y → x ≡ y
same_cell x y name e =
    let kind : x.kind ≡ y.kind = cc e in
    let type : x.of ≡ y.of = cc e in
    let first : x.first ≡ y.first = cc e in
    let words : x.words ≡ y.words = cc e in
    let formal : x.formal ≡ y.formal = cc e in
    let back : x.back ≡ y.back = cc e in
    λ j. record { name = name j; kind = kind j; of = type j; first = first j; words = words j; formal = formal j; back = back j }

abbrev pub IsNamed : Cell → Type 0
IsNamed c = IsName c.name

pub cell_tells : Tells cell_text IsNamed CellFits
cell_tells = λ x y r s named fits e.
    let mine = numbers_text (cell_numbers x) in
    let theirs = numbers_text (cell_numbers y) in
    let own = word x.name 32 ++ mine in
    let other = word y.name 32 ++ theirs in
    let behind = same_keyword (codes "cell ") (own ++ r) (other ++ s) (sym (append_assoc (codes "cell ") own r) ∙ e ∙ append_assoc (codes "cell ") other s) in
    let name = same_name 32 blank (mine ++ r) (theirs ++ s) x.name y.name named fits.name (sym (append_assoc (word x.name 32) mine r) ∙ behind ∙ append_assoc (word y.name 32) theirs s) in
    let short : AllByRecursion IsShort (cell_numbers y) = (fits.kind, (fits.of, (fits.first, (fits.words, (fits.formal, (fits.back, tt)))))) in
    let k = same_numbers (cell_numbers x) (cell_numbers y) r s refl short name.1 in
    (same_cell x y name.0 k.0, k.1)

same_entry : (x y : Entry) → x.line.0 ∷ x.address ∷ [] ≡ y.line.0 ∷ y.address ∷ [] → x ≡ y
same_entry x y e =
    let line : x.line.0 ≡ y.line.0 = cc e in
    let address : x.address ≡ y.address = cc e in
    λ j. record { line = record { 0 = line j }; address = address j }

pub entry_tells : Tells entry_text Anything EntryFits
entry_tells = λ x y r s known fits e.
    let k = same_line (codes "entry ") (x.line.0 ∷ x.address ∷ []) (y.line.0 ∷ y.address ∷ []) r s refl (fits.line, (fits.address, tt)) e in
    (same_entry x y k.0, k.1)

same_parts : (p q : Parts) → p.0 ≡ q.0 → p.1 ≡ q.1 → p.2 ≡ q.2 → p ≡ q
same_parts p q a b c = λ j. (a j, b j, c j)

pub instr_tells : Tells instr_text Anything InstrFits
instr_tells = λ x y r s known fits e.
    let p = parts_of x in
    let q = parts_of y in
    let mine = signed p.1 32 ++ signed p.2 10 in
    let theirs = signed q.1 32 ++ signed q.2 10 in
    let own = number p.0 32 ++ mine in
    let other = number q.0 32 ++ theirs in
    let behind = same_keyword (codes "instr ") (own ++ r) (other ++ s) (sym (append_assoc (codes "instr ") own r) ∙ e ∙ append_assoc (codes "instr ") other s) in
    let operation = same_number 32 blank (mine ++ r) (theirs ++ s) p.0 q.0 fits.operation (sym (append_assoc (number p.0 32) mine r) ∙ behind ∙ append_assoc (number q.0 32) theirs s) in
    let first = same_signed_number 32 blank (signed p.2 10 ++ r) (signed q.2 10 ++ s) p.1 q.1 fits.first
    (sym (append_assoc (signed p.1 32) (signed p.2 10) r) ∙ operation.1 ∙ append_assoc (signed q.1 32) (signed q.2 10) s) in
    let second = same_signed_number 10 line_end r s p.2 q.2 fits.second first.1 in
    (same_instr x y (same_parts p q operation.0 first.0 second.0) fits.told, second.1)
