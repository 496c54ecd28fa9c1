-- What is read as an image is its text, and each text is read.
use Rattle.std.proofs.Common.{◌≡◌, ℕ, Bool, true, false, ◌==◌, cond, List, [], ◌++◌, length, Option, Some, None, Result, Ok, Err, refl, sym, ap, subst, ◌∙◌, append_assoc}
use Rattle.std.specs.Prelude.{IfOk, codes, option_map}
use Rattle.std.specs.List.{flat_map}
use Rattle.std.proofs.lemmas.Bool.{eqb-true}
use Rattle.std.proofs.lemmas.List.{append-nil, nil_from_length}
use Rattle.fm_object.specs.declared.fail.ObjectFail.{ObjectFail}
use Rattle.fm_object.specs.declared.image.FieldImage.{FieldImage}
use Rattle.fm_object.specs.declared.image.UnitImage.{UnitImage}
use Rattle.fm_object.specs.declared.image.Image.{Image}
use Rattle.fm_object.specs.Texts.{number, field_text, extent_text, cell_text, entry_text, instr_text, type_text, unit_line, unit_text, head_text, types_line, units_line, object_text, IsObjectText, IsShort, FieldFits, CellFits, EntryFits, InstrFits, ListFits, UnitFits, IsImage}
use Rattle.fm_object.specs.Words.{after}
use Rattle.fm_object.specs.Reading.{◌>>◌, Place, UnitHead, HeadFits, head_line, count_line, field_line, cell_line, entry_line, unit_head_line, instr_line, one_line, many, type_read, unit_read, ended, from_first, image_read, Gives}
use Rattle.fm_object.proofs.WordLaws.{after_takes, some, some_is}
use Rattle.fm_object.proofs.LineLaws.{head_line_text, count_takes, count_again, field_takes, field_again, cell_takes, cell_again, entry_takes, entry_again, instr_takes, instr_again, unit_head_takes, unit_head_again}
use Rattle.fm_object.proofs.Exact.{IsExact, at, bind_ok, done, ok_is, one_line_exact, many_takes, many_again}

-- ---- single lines

pub counts_exact : (k : List ℕ) → IsExact (one_line (count_line k)) (λ n. k ++ number n 10) IsShort
counts_exact k = one_line_exact (count_line k) (λ n. k ++ number n 10) IsShort (count_takes k) (count_again k)

pub fields_exact : IsExact (one_line field_line) field_text FieldFits
fields_exact = one_line_exact field_line field_text FieldFits field_takes field_again

pub cells_exact : IsExact (one_line cell_line) cell_text CellFits
cells_exact = one_line_exact cell_line cell_text CellFits cell_takes cell_again

pub entries_exact : IsExact (one_line entry_line) entry_text EntryFits
entries_exact = one_line_exact entry_line entry_text EntryFits entry_takes entry_again

pub instrs_exact : IsExact (one_line instr_line) instr_text InstrFits
instrs_exact = one_line_exact instr_line instr_text InstrFits instr_takes instr_again

pub heads_exact : IsExact (one_line unit_head_line) head_line_text HeadFits
heads_exact = one_line_exact unit_head_line head_line_text HeadFits unit_head_takes unit_head_again

pub extents_exact : IsExact (one_line (count_line (codes "extent "))) extent_text IsShort
extents_exact = counts_exact (codes "extent ")

pub head_takes : (bs : List ℕ) (x : Unit {0}) (r : List ℕ) → head_line bs ≡ Some (x, r) → (bs ≡ head_text ++ r) × Unit {0}
unfolding head_line
head_takes bs x r e = go (after head_text bs) refl e
  where
    go : (o : Option (List ℕ)) → after head_text bs ≡ o → option_map {U = Unit {0} × List ℕ} (λ rest. (tt, rest)) o ≡ some {A = Unit {0} × List ℕ} (x, r) → (bs ≡ head_text ++ r) × Unit {0}
    go None is e = absurd cc
    go (Some rest) is e =
        let same : (tt, rest) ≡ (x, r) = some_is {A = Unit {0} × List ℕ} (tt, rest) (x, r) e in
        (after_takes head_text bs r (is ∙ ap (λ (p : Unit {0} × List ℕ). some p.1) same), tt)

pub head_again : (x : Unit {0}) (r : List ℕ) → Unit {0} → head_line (head_text ++ r) ≡ Some (x, r)
unfolding head_line after
head_again x r fits = refl

pub head_exact : IsExact (one_line head_line) (λ x. head_text) (λ x. Unit {0})
head_exact = one_line_exact head_line (λ x. head_text) (λ x. Unit {0}) head_takes head_again

-- ---- types

type_takes : (p : Place) (fs : List FieldImage) (q : Place) → type_read p ≡ Ok (fs, q) → (p.rest ≡ type_text fs ++ q.rest) × ListFits FieldFits fs
unfolding type_read
type_takes p fs q e =
    let a = bind_ok (one_line (count_line (codes "type ")) p) (λ n. many (one_line field_line) n.0 n.1) (fs, q) e in
    let first = (counts_exact (codes "type ")).takes p a.0.0 a.0.1 a.1 in
    let others = many_takes (one_line field_line) field_text FieldFits fields_exact a.0.0 a.0.1 fs q a.2 in
    let line : p.rest ≡ (codes "type " ++ number (length fs) 10) ++ a.0.1.rest = first.0 ∙ ap (λ (n : ℕ). (codes "type " ++ number n 10) ++ a.0.1.rest) (sym others.count) in
    let whole : p.rest ≡ type_text fs ++ q.rest = line ∙ ap (λ (z : List ℕ). (codes "type " ++ number (length fs) 10) ++ z) others.parts ∙ sym (append_assoc (codes "type " ++ number (length fs) 10) (flat_map field_text fs) q.rest) in
    (whole, record { few = subst IsShort (sym others.count) first.1; each = others.fit })

type_again : (n : ℕ) (fs : List FieldImage) (r : List ℕ) → ListFits FieldFits fs → (m : ℕ) × (type_read (at n (type_text fs ++ r)) ≡ Ok (fs, at m r))
unfolding type_read
type_again n fs r fits =
    let line = codes "type " ++ number (length fs) 10 in
    let grouped : type_text fs ++ r ≡ line ++ (flat_map field_text fs ++ r) = append_assoc line (flat_map field_text fs) r in
    let first = (counts_exact (codes "type ")).again n (length fs) (flat_map field_text fs ++ r) fits.few in
    let others = many_again (one_line field_line) field_text FieldFits fields_exact first.0 fs r fits.each in
    (others.0, ap (λ (z : List ℕ). type_read (at n z)) grouped ∙ (ap (λ (o : Result (ℕ × Place) ℕ). o >> λ k. many (one_line field_line) k.0 k.1) first.1 ∙ others.1))

pub types_exact : IsExact type_read type_text (ListFits FieldFits)
types_exact = record { takes = type_takes; again = type_again }

-- ---- units

unit_grouped : (u : UnitImage) (r : List ℕ) → unit_text u ++ r ≡ unit_line u ++ (flat_map extent_text u.extents ++ (flat_map cell_text u.cells ++ (flat_map entry_text u.entries ++ (flat_map instr_text u.code ++ r))))
unit_grouped u r =
    append_assoc (unit_line u) (flat_map extent_text u.extents ++ (flat_map cell_text u.cells ++ (flat_map entry_text u.entries ++ flat_map instr_text u.code))) r
    ∙ ap (λ (z : List ℕ). unit_line u ++ z) (append_assoc (flat_map extent_text u.extents) (flat_map cell_text u.cells ++ (flat_map entry_text u.entries ++ flat_map instr_text u.code)) r
    ∙ ap (λ (z : List ℕ). flat_map extent_text u.extents ++ z) (append_assoc (flat_map cell_text u.cells) (flat_map entry_text u.entries ++ flat_map instr_text u.code) r
    ∙ ap (λ (z : List ℕ). flat_map cell_text u.cells ++ z) (append_assoc (flat_map entry_text u.entries) (flat_map instr_text u.code) r)))

pub the_head : (h : UnitHead) (u : UnitImage) → h.extents ≡ length u.extents → h.cells ≡ length u.cells → h.entries ≡ length u.entries → h.code ≡ length u.code
    → h ≡ record { heading = h.heading; extents = length u.extents; cells = length u.cells; entries = length u.entries; code = length u.code }
the_head h u e c n k = rw (← e, ← c, ← n, ← k) refl

unit_takes : (p : Place) (u : UnitImage) (q : Place) → unit_read p ≡ Ok (u, q) → (p.rest ≡ unit_text u ++ q.rest) × UnitFits u
unfolding unit_read
unit_takes p u q e =
    let a = bind_ok (one_line unit_head_line p) (λ h. many (one_line (count_line (codes "extent "))) h.0.extents h.1 >> λ extents. many (one_line cell_line) h.0.cells extents.1 >> λ cells. many (one_line entry_line) h.0.entries cells.1 >> λ entries. many (one_line instr_line) h.0.code entries.1 >> λ code. Ok (record { heading = h.0.heading; extents = extents.0; cells = cells.0; entries = entries.0; code = code.0 }, code.1)) (u, q) e in
    let h = a.0.0 in
    let b = bind_ok (many (one_line (count_line (codes "extent "))) h.extents a.0.1) (λ extents. many (one_line cell_line) h.cells extents.1 >> λ cells. many (one_line entry_line) h.entries cells.1 >> λ entries. many (one_line instr_line) h.code entries.1 >> λ code. Ok (record { heading = h.heading; extents = extents.0; cells = cells.0; entries = entries.0; code = code.0 }, code.1)) (u, q) a.2 in
    let c = bind_ok (many (one_line cell_line) h.cells b.0.1) (λ cells. many (one_line entry_line) h.entries cells.1 >> λ entries. many (one_line instr_line) h.code entries.1 >> λ code. Ok (record { heading = h.heading; extents = b.0.0; cells = cells.0; entries = entries.0; code = code.0 }, code.1)) (u, q) b.2 in
    let d = bind_ok (many (one_line entry_line) h.entries c.0.1) (λ entries. many (one_line instr_line) h.code entries.1 >> λ code. Ok (record { heading = h.heading; extents = b.0.0; cells = c.0.0; entries = entries.0; code = code.0 }, code.1)) (u, q) c.2 in
    let f = bind_ok (many (one_line instr_line) h.code d.0.1) (λ code. Ok (record { heading = h.heading; extents = b.0.0; cells = c.0.0; entries = d.0.0; code = code.0 }, code.1)) (u, q) d.2 in
    let made : UnitImage = record { heading = h.heading; extents = b.0.0; cells = c.0.0; entries = d.0.0; code = f.0.0 } in
    let t0 = heads_exact.takes p h a.0.1 a.1 in
    let t1 = many_takes (one_line (count_line (codes "extent "))) extent_text IsShort extents_exact h.extents a.0.1 b.0.0 b.0.1 b.1 in
    let t2 = many_takes (one_line cell_line) cell_text CellFits cells_exact h.cells b.0.1 c.0.0 c.0.1 c.1 in
    let t3 = many_takes (one_line entry_line) entry_text EntryFits entries_exact h.entries c.0.1 d.0.0 d.0.1 d.1 in
    let t4 = many_takes (one_line instr_line) instr_text InstrFits instrs_exact h.code d.0.1 f.0.0 f.0.1 f.1 in
    let line : head_line_text h ≡ unit_line made =
    ap (λ (k : UnitHead). head_line_text k) (the_head h made (sym t1.count) (sym t2.count) (sym t3.count) (sym t4.count)) in
    let body : a.0.1.rest ≡ flat_map extent_text b.0.0 ++ (flat_map cell_text c.0.0 ++ (flat_map entry_text d.0.0 ++ (flat_map instr_text f.0.0 ++ f.0.1.rest))) =
    t1.parts ∙ ap (λ (z : List ℕ). flat_map extent_text b.0.0 ++ z) (t2.parts ∙ ap (λ (z : List ℕ). flat_map cell_text c.0.0 ++ z) (t3.parts ∙ ap (λ (z : List ℕ). flat_map entry_text d.0.0 ++ z) t4.parts)) in
    let whole : p.rest ≡ unit_text made ++ f.0.1.rest =
    t0.0 ∙ ap (λ (z : List ℕ). z ++ a.0.1.rest) line ∙ ap (λ (z : List ℕ). unit_line made ++ z) body ∙ sym (unit_grouped made f.0.1.rest) in
    let fits : UnitFits made = record {
      heading = t0.1.heading;
      extents = record { few = subst IsShort (sym t1.count) t0.1.extents; each = t1.fit };
      cells = record { few = subst IsShort (sym t2.count) t0.1.cells; each = t2.fit };
      entries = record { few = subst IsShort (sym t3.count) t0.1.entries; each = t3.fit };
      code = record { few = subst IsShort (sym t4.count) t0.1.code; each = t4.fit };
    } in
    subst (λ (y : UnitImage × Place). (p.rest ≡ unit_text y.0 ++ y.1.rest) × UnitFits y.0) (ok_is (made, f.0.1) (u, q) f.2) (whole, fits)

unit_again : (n : ℕ) (u : UnitImage) (r : List ℕ) → UnitFits u → (m : ℕ) × (unit_read (at n (unit_text u ++ r)) ≡ Ok (u, at m r))
unfolding unit_read
unit_again n u r fits =
    let h : UnitHead = record { heading = u.heading; extents = length u.extents; cells = length u.cells; entries = length u.entries; code = length u.code } in
    let r4 = flat_map instr_text u.code ++ r in
    let r3 = flat_map entry_text u.entries ++ r4 in
    let r2 = flat_map cell_text u.cells ++ r3 in
    let r1 = flat_map extent_text u.extents ++ r2 in
    let a0 = heads_exact.again n h r1 (record { heading = fits.heading; extents = fits.extents.few; cells = fits.cells.few; entries = fits.entries.few; code = fits.code.few }) in
    let a1 = many_again (one_line (count_line (codes "extent "))) extent_text IsShort extents_exact a0.0 u.extents r2 fits.extents.each in
    let a2 = many_again (one_line cell_line) cell_text CellFits cells_exact a1.0 u.cells r3 fits.cells.each in
    let a3 = many_again (one_line entry_line) entry_text EntryFits entries_exact a2.0 u.entries r4 fits.entries.each in
    let a4 = many_again (one_line instr_line) instr_text InstrFits instrs_exact a3.0 u.code r fits.code.each in
    (a4.0, ap (λ (z : List ℕ). unit_read (at n z)) (unit_grouped u r) ∙ rw (a0.1, a1.1, a2.1, a3.1, a4.1) refl)

pub units_exact : IsExact unit_read unit_text UnitFits
units_exact = record { takes = unit_takes; again = unit_again }

-- ---- the whole

guard_ended : {A : Type 0} (b : Bool) (n : ℕ) (x y : A) → cond b (done x) (Err n) ≡ done y → (b ≡ true) × (x ≡ y)
guard_ended true n x y e = (refl, ok_is x y e)
guard_ended false n x y e = absurd cc

pub image_takes : (bytes : List ℕ) (i : Image) → image_read bytes ≡ Ok i → (bytes ≡ object_text i) × IsImage i
unfolding image_read
image_takes bytes i e =
    let a = bind_ok (one_line head_line (from_first bytes)) (λ h. one_line (count_line (codes "types ")) h.1 >> λ a. many type_read a.0 a.1 >> λ types. one_line (count_line (codes "units ")) types.1 >> λ u. many unit_read u.0 u.1 >> λ units. ended (record { types = types.0; units = units.0 }) units.1) i e in
    let b = bind_ok (one_line (count_line (codes "types ")) a.0.1) (λ a. many type_read a.0 a.1 >> λ types. one_line (count_line (codes "units ")) types.1 >> λ u. many unit_read u.0 u.1 >> λ units. ended (record { types = types.0; units = units.0 }) units.1) i a.2 in
    let c = bind_ok (many type_read b.0.0 b.0.1) (λ types. one_line (count_line (codes "units ")) types.1 >> λ u. many unit_read u.0 u.1 >> λ units. ended (record { types = types.0; units = units.0 }) units.1) i b.2 in
    let d = bind_ok (one_line (count_line (codes "units ")) c.0.1) (λ u. many unit_read u.0 u.1 >> λ units. ended (record { types = c.0.0; units = units.0 }) units.1) i c.2 in
    let f = bind_ok (many unit_read d.0.0 d.0.1) (λ units. ended (record { types = c.0.0; units = units.0 }) units.1) i d.2 in
    let made : Image = record { types = c.0.0; units = f.0.0 } in
    let g = guard_ended (length f.0.1.rest == 0) f.0.1.line made i f.2 in
    let nothing : f.0.1.rest ≡ [] = nil_from_length f.0.1.rest (eqb-true (length f.0.1.rest) 0 g.0) in
    let t0 = head_exact.takes (from_first bytes) a.0.0 a.0.1 a.1 in
    let t1 = (counts_exact (codes "types ")).takes a.0.1 b.0.0 b.0.1 b.1 in
    let t2 = many_takes type_read type_text (ListFits FieldFits) types_exact b.0.0 b.0.1 c.0.0 c.0.1 c.1 in
    let t3 = (counts_exact (codes "units ")).takes c.0.1 d.0.0 d.0.1 d.1 in
    let t4 = many_takes unit_read unit_text UnitFits units_exact d.0.0 d.0.1 f.0.0 f.0.1 f.1 in
    let last : d.0.1.rest ≡ flat_map unit_text f.0.0 = t4.parts ∙ ap (λ (z : List ℕ). flat_map unit_text f.0.0 ++ z) nothing ∙ append-nil (flat_map unit_text f.0.0) in
    let units : c.0.1.rest ≡ units_line (length f.0.0) ++ flat_map unit_text f.0.0 = t3.0 ∙ ap (λ (z : List ℕ). units_line d.0.0 ++ z) last ∙ ap (λ (n : ℕ). units_line n ++ flat_map unit_text f.0.0) (sym t4.count) in
    let types : a.0.1.rest ≡ types_line (length c.0.0) ++ (flat_map type_text c.0.0 ++ (units_line (length f.0.0) ++ flat_map unit_text f.0.0)) =
    t1.0 ∙ ap (λ (z : List ℕ). types_line b.0.0 ++ z) (t2.parts ∙ ap (λ (z : List ℕ). flat_map type_text c.0.0 ++ z) units)
    ∙ ap (λ (n : ℕ). types_line n ++ (flat_map type_text c.0.0 ++ (units_line (length f.0.0) ++ flat_map unit_text f.0.0))) (sym t2.count) in
    let whole : bytes ≡ object_text made = t0.0 ∙ ap (λ (z : List ℕ). head_text ++ z) types in
    subst (λ (y : Image). (bytes ≡ object_text y) × IsImage y) g.1
    (whole, record { types = record { few = subst IsShort (sym t2.count) t1.1; each = t2.fit }; units = record { few = subst IsShort (sym t4.count) t3.1; each = t4.fit } })

pub image_again : (i : Image) → IsImage i → image_read (object_text i) ≡ Ok i
unfolding image_read
image_again i fits =
    let r3 = flat_map unit_text i.units in
    let r2 = units_line (length i.units) ++ r3 in
    let r1 = flat_map type_text i.types ++ r2 in
    let a0 = head_exact.again 1 tt (types_line (length i.types) ++ r1) tt in
    let a1 = (counts_exact (codes "types ")).again a0.0 (length i.types) r1 fits.types.few in
    let a2 = many_again type_read type_text (ListFits FieldFits) types_exact a1.0 i.types r2 fits.types.each in
    let a3 = (counts_exact (codes "units ")).again a2.0 (length i.units) r3 fits.units.few in
    let a4 = many_again unit_read unit_text UnitFits units_exact a3.0 i.units [] fits.units.each in
    let last : many unit_read (length i.units) (at a3.0 r3) ≡ Ok (i.units, at a4.0 []) = ap (λ (z : List ℕ). many unit_read (length i.units) (at a3.0 z)) (sym (append-nil r3)) ∙ a4.1 in
    rw (a0.1, a1.1, a2.1, a3.1, last) refl

pub is_found : (bytes : List ℕ) (r : Result Image ObjectFail) → Gives (λ i. i) r (image_read bytes) → IfOk r (IsObjectText bytes)
is_found bytes (Ok i) given = let t = image_takes bytes i given in (t.1, t.0)
is_found bytes (Err e) given = tt
