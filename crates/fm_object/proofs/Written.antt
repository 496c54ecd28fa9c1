-- What was written part by part is the text of the whole, and within its ranges.
use Rattle.std.proofs.Common.{◌≡◌, ℕ, ◌+◌, ◌<◌, List, [], ◌∷◌, ◌++◌, length, get_or, take, Result, Ok, Err, refl, sym, ap, subst, ◌∙◌, append_assoc}
use Rattle.std.specs.Prelude.{OnOk, codes}
use Rattle.std.specs.List.{All, AllByRecursion, flat_map}
use Rattle.std.proofs.lemmas.List.{flat_map_more, take_more}
use Rattle.std.proofs.lemmas.List.Elements.{recursion_from_All}
use Rattle.fm_code.specs.declared.instr.Instr.{Instr}
use Rattle.fm_object.specs.declared.image.FieldImage.{FieldImage}
use Rattle.fm_object.specs.declared.image.Cell.{Cell}
use Rattle.fm_code.specs.declared.code.Entry.{Entry}
use Rattle.fm_object.specs.declared.image.UnitImage.{UnitImage}
use Rattle.fm_object.specs.declared.image.Image.{Image}
use Rattle.fm_object.specs.Reading.{HeadFits, head_in}
use Rattle.fm_object.specs.Texts.{number, extent_text, cell_text, entry_text, instr_text, type_text, unit_line, unit_text, head_text, object_text, AreNamed, CellFits, EntryFits, FieldFits, HasNames, InstrFits, IsImage, IsName, IsShort, ListFits, UnitFits}

pub unit_written : (u : UnitImage) (a b c d e : List ℕ) (xs : List ℕ) (cs : List Cell) (ns : List Entry) (is : List Instr) → xs ≡ u.extents → cs ≡ u.cells → ns ≡ u.entries → is ≡ u.code
    → b ≡ a ++ unit_line u → c ≡ b ++ flat_map extent_text xs → d ≡ c ++ flat_map cell_text cs → e ≡ d ++ flat_map entry_text ns → e ++ flat_map instr_text is ≡ a ++ unit_text u
unit_written u a b c d e xs cs ns is x1 x2 x3 x4 h1 h2 h3 h4 = rw (h4, h3, h2, h1, x1, x2, x3, x4) (simp append_assoc)

regrouped : (h t n ts u m us : List ℕ) → ((((([] ++ (h ++ t)) ++ n) ++ ts) ++ u) ++ m) ++ us ≡ h ++ ((t ++ n) ++ (ts ++ ((u ++ m) ++ us)))
regrouped h t n ts u m us = simp append_assoc

pub image_written : (i : Image) (n a b c d e f : List ℕ) (ts : List (List FieldImage)) (us : List UnitImage) (k m : ℕ) → n ≡ [] → ts ≡ i.types → us ≡ i.units → k ≡ length i.types → m ≡ length i.units
    → a ≡ n ++ codes "fmc object 1\ntypes " → b ≡ a ++ number k 10 → c ≡ b ++ flat_map type_text ts → d ≡ c ++ codes "units " → e ≡ d ++ number m 10 → f ≡ e ++ flat_map unit_text us → f ≡ object_text i
image_written i n a b c d e f ts us k m x0 x1 x2 x3 x4 h0 h1 h2 h3 h4 h5 =
    rw (h5, h4, h3, h2, h1, h0, x0, x1, x2, x3, x4)
    (regrouped head_text (codes "types ") (number (length i.types) 10) (flat_map type_text i.types) (codes "units ") (number (length i.units) 10) (flat_map unit_text i.units))

-- one item more
pub texts_more : {X : Type 0} (text : X → List ℕ) (a b c : List ℕ) (xs : List X) (i : ℕ) (x : X) → i < length xs → x ≡ get_or xs i x → b ≡ a ++ flat_map text (take i xs) → c ≡ b ++ text x → c ≡ a ++ flat_map text (take (i + 1) xs)
texts_more text a b c xs i x low is so_far next =
    next ∙ ap (λ z. z ++ text x) so_far ∙ flat_map_more text a (take i xs) x ∙ ap (λ ys. a ++ flat_map text ys) (ap (λ y. take i xs ++ y ∷ []) is ∙ sym (take_more xs i x low))

-- ---- ranges

-- the end of a function that returns what its last call does
pub always : {T E : Type 0} {P : Type 0} (r : Result T E) → P → OnOk r P
always (Ok x) p = p
always (Err e) p = tt

pub with_last : {T E : Type 0} {P Q : Type 0} (r : Result T E) → (P → Q) → OnOk r P → OnOk r Q
with_last (Ok x) f p = f p
with_last (Err e) f p = tt

-- what holds of all that have a property holds of all, where all have it
pub given_each : {X : Type 0} (P Q : X → Type 0) (xs : List X) → AllByRecursion (λ x. P x → Q x) xs → AllByRecursion P xs → AllByRecursion Q xs
given_each P Q [] h p = tt
given_each P Q (x ∷ xs) h p = (h.0 p.0, given_each P Q xs h.1 p.1)

pub list_fits : {X : Type 0} (Fits : X → Type 0) (xs ys : List X) (n : ℕ) → ys ≡ xs → n ≡ length xs → IsShort n → All Fits ys → ListFits Fits xs
list_fits Fits xs ys n same count few each = record { few = subst IsShort count few; each = recursion_from_All Fits xs (subst (All Fits) same each) }

-- a unit with names that are names, by its line and its lists
pub unit_fits : (u : UnitImage) (xs : List ℕ) (cs : List Cell) (ns : List Entry) (is : List Instr) → xs ≡ u.extents → cs ≡ u.cells → ns ≡ u.entries → is ≡ u.code
    → HeadFits (head_in u) → All IsShort xs → All (λ (c : Cell). IsName c.name → CellFits c) cs → All EntryFits ns → All InstrFits is → AreNamed u.cells → UnitFits u
unit_fits u xs cs ns is x1 x2 x3 x4 head extents cells entries code named = record {
  heading = head.heading;
  extents = list_fits IsShort u.extents xs (length u.extents) x1 refl head.extents extents;
  cells = record { few = head.cells; each = given_each (λ (c : Cell). IsName c.name) CellFits u.cells (recursion_from_All (λ (c : Cell). IsName c.name → CellFits c) u.cells (subst (All (λ (c : Cell). IsName c.name → CellFits c)) x2 cells)) named };
  entries = list_fits EntryFits u.entries ns (length u.entries) x3 refl head.entries entries;
  code = list_fits InstrFits u.code is (length u.code) x4 refl head.code code;
}

pub image_fits : (i : Image) (ts : List (List FieldImage)) (us : List UnitImage) (k m : ℕ) → ts ≡ i.types → us ≡ i.units → k ≡ length i.types → m ≡ length i.units
    → IsShort k → All (ListFits FieldFits) ts → IsShort m → All (λ (u : UnitImage). AreNamed u.cells → UnitFits u) us → HasNames i → IsImage i
image_fits i ts us k m x1 x2 x3 x4 types each_type units each_unit named = record {
  types = list_fits (ListFits FieldFits) i.types ts k x1 x3 types each_type;
  units = record {
    few = subst IsShort x4 units;
    each = given_each (λ (u : UnitImage). AreNamed u.cells) UnitFits i.units (recursion_from_All (λ (u : UnitImage). AreNamed u.cells → UnitFits u) i.units (subst (All (λ (u : UnitImage). AreNamed u.cells → UnitFits u)) x2 each_unit)) named;
  };
}
