-- Object texts: where two are the same bytes, and one is known to be within the ranges, they are of one image.
use Rattle.std.proofs.Common.{◌≡◌, ℕ, ◌+◌, List, [], ◌∷◌, ◌++◌, length, refl, sym, subst, ◌∙◌, append_assoc, append-nil}
use Rattle.std.specs.Prelude.{codes}
use Rattle.std.specs.List.{AllByRecursion, flat_map}
use Rattle.fm_object.specs.declared.image.Cell.{Cell}
use Rattle.fm_object.specs.declared.image.Image.{Image}
use Rattle.fm_object.specs.declared.image.UnitImage.{UnitImage}
use Rattle.fm_object.specs.Texts.{AreNamed, CellFits, EntryFits, FieldFits, HasNames, InstrFits, IsImage, IsObjectText, IsShort, ListFits, UnitFits, cell_text, entry_text, extent_text, field_text, head_text, instr_text, number, object_text, type_text, types_line, unit_line, unit_text, units_line}
use Rattle.fm_image_typed.specs.Typed.{CellsAreTyped, Typed, UnitIsTyped}
use Rattle.fm_execute_law.proofs.SameLines.{Anything, IsNamed, Tells, all_tell, any_all, cell_tells, entry_tells, extent_tells, field_tells, instr_tells, same_line}
use Rattle.fm_execute_law.proofs.SameWords.{same_keyword}

type_tells : Tells type_text Anything (ListFits FieldFits)
type_tells = λ fs gs r s known fits e.
    let mine = flat_map field_text fs in
    let theirs = flat_map field_text gs in
    let line = same_line (codes "type ") (length fs ∷ []) (length gs ∷ []) (mine ++ r) (theirs ++ s) refl (fits.few, tt)
    (sym (append_assoc (codes "type " ++ number (length fs) 10) mine r) ∙ e ∙ append_assoc (codes "type " ++ number (length gs) 10) theirs s) in
    let count : length fs ≡ length gs = cc line.0 in
    all_tell field_text Anything FieldFits field_tells fs gs r s count (any_all fs) fits.each line.1

-- ---- units

abbrev unit_numbers : UnitImage → List ℕ
unit_numbers u = u.heading ∷ length u.extents ∷ length u.cells ∷ length u.entries ∷ length u.code ∷ []

-- the names of its variables are names
abbrev UnitIsNamed : UnitImage → Type 0
UnitIsNamed u = AreNamed u.cells

unit_grouped : (a b c d e r : List ℕ) → (a ++ (b ++ (c ++ (d ++ e)))) ++ r ≡ a ++ (b ++ (c ++ (d ++ (e ++ r))))
unit_grouped a b c d e r = simp append_assoc

grouped : (u : UnitImage) (r : List ℕ) → unit_text u ++ r ≡ unit_line u ++ (flat_map extent_text u.extents ++ (flat_map cell_text u.cells ++ (flat_map entry_text u.entries ++ (flat_map instr_text u.code ++ r))))
grouped u r = unit_grouped (unit_line u) (flat_map extent_text u.extents) (flat_map cell_text u.cells) (flat_map entry_text u.entries) (flat_map instr_text u.code) r

unit_tells : Tells unit_text UnitIsNamed UnitFits
unit_tells = λ u v r s named fits e.
    let u4 = flat_map instr_text u.code ++ r in
    let u3 = flat_map entry_text u.entries ++ u4 in
    let u2 = flat_map cell_text u.cells ++ u3 in
    let u1 = flat_map extent_text u.extents ++ u2 in
    let v4 = flat_map instr_text v.code ++ s in
    let v3 = flat_map entry_text v.entries ++ v4 in
    let v2 = flat_map cell_text v.cells ++ v3 in
    let v1 = flat_map extent_text v.extents ++ v2 in
    let short : AllByRecursion IsShort (unit_numbers v) = (fits.heading, (fits.extents.few, (fits.cells.few, (fits.entries.few, (fits.code.few, tt))))) in
    let line = same_line (codes "unit ") (unit_numbers u) (unit_numbers v) u1 v1 refl short (sym (grouped u r) ∙ e ∙ grouped v s) in
    let heading : u.heading ≡ v.heading = cc line.0 in
    let n1 : length u.extents ≡ length v.extents = cc line.0 in
    let n2 : length u.cells ≡ length v.cells = cc line.0 in
    let n3 : length u.entries ≡ length v.entries = cc line.0 in
    let n4 : length u.code ≡ length v.code = cc line.0 in
    let extents = all_tell extent_text Anything IsShort extent_tells u.extents v.extents u2 v2 n1 (any_all u.extents) fits.extents.each line.1 in
    let cells = all_tell cell_text IsNamed CellFits cell_tells u.cells v.cells u3 v3 n2 named fits.cells.each extents.1 in
    let entries = all_tell entry_text Anything EntryFits entry_tells u.entries v.entries u4 v4 n3 (any_all u.entries) fits.entries.each cells.1 in
    let code = all_tell instr_text Anything InstrFits instr_tells u.code v.code r s n4 (any_all u.code) fits.code.each entries.1 in
    ((λ j. record { heading = heading j; extents = extents.0 j; cells = cells.0 j; entries = entries.0 j; code = code.0 j }), code.1)

-- ---- the whole

same_image : (i j : Image) → HasNames i → IsImage j → object_text i ≡ object_text j → i ≡ j
same_image i j named fits e =
    let mine = flat_map unit_text i.units in
    let theirs = flat_map unit_text j.units in
    let own = units_line (length i.units) ++ mine in
    let other = units_line (length j.units) ++ theirs in
    let first = same_keyword head_text (types_line (length i.types) ++ (flat_map type_text i.types ++ own)) (types_line (length j.types) ++ (flat_map type_text j.types ++ other)) e in
    let line = same_line (codes "types ") (length i.types ∷ []) (length j.types ∷ []) (flat_map type_text i.types ++ own) (flat_map type_text j.types ++ other) refl (fits.types.few, tt) first in
    let n : length i.types ≡ length j.types = cc line.0 in
    let types = all_tell type_text Anything (ListFits FieldFits) type_tells i.types j.types own other n (any_all i.types) fits.types.each line.1 in
    let next = same_line (codes "units ") (length i.units ∷ []) (length j.units ∷ []) mine theirs refl (fits.units.few, tt) types.1 in
    let m : length i.units ≡ length j.units = cc next.0 in
    let units = all_tell unit_text UnitIsNamed UnitFits unit_tells i.units j.units [] [] m named fits.units.each (append-nil mine ∙ next.1 ∙ sym (append-nil theirs)) in
    λ t. record { types = types.0 t; units = units.0 t }

-- ---- of an image that makes sense

cells_named : (types word : ℕ) (cs : List Cell) → CellsAreTyped types word cs → AreNamed cs
cells_named types word [] typed = tt
cells_named types word (c ∷ cs) typed = (typed.0.name, cells_named types (word + c.words) cs typed.1)

units_named : (i : Image) (us : List UnitImage) → AllByRecursion (UnitIsTyped i) us → AllByRecursion UnitIsNamed us
units_named i [] typed = tt
units_named i (u ∷ us) typed = (cells_named (length i.types) 0 u.cells typed.0.cells, units_named i us typed.1)

pub typed_named : (i : Image) → Typed i → HasNames i
typed_named i typed = units_named i i.units typed.each

pub same_object : (bytes : List ℕ) (i j : Image) → Typed i → bytes ≡ object_text i → IsObjectText bytes j → IsObjectText bytes i
same_object bytes i j typed is object =
    let same : i ≡ j = same_image i j (typed_named i typed) object.0 (sym is ∙ object.1) in
    subst (IsObjectText bytes) (sym same) object
