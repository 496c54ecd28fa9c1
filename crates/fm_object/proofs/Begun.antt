-- The lines before the one that is told begin some image's text.
use Rattle.std.proofs.Common.{◌≡◌, ℕ, zero, suc, pos, ◌+◌, Bool, true, false, ◌==◌, cond, List, [], ◌∷◌, ◌++◌, length, replicate, Option, Some, Result, Ok, Err, refl, sym, ap, subst, ◌∙◌, append_assoc, append-nil, arith}
use Rattle.std.specs.Prelude.{codes}
use Rattle.std.specs.List.{flat_map, AllByRecursion}
use Rattle.std.proofs.lemmas.List.{length-replicate}
use Rattle.std.proofs.lemmas.List.Concat.{flat_map-cons}
use Rattle.fm_code.specs.declared.code.Entry.{Entry}
use Rattle.fm_code.specs.declared.instr.Instr.{Instr}
use Rattle.fm_code.specs.declared.instr.Instr.TheVariants as instr
use Rattle.fm_code.specs.declared.instr.Meet.TheVariants as meet
use Rattle.fm_code.specs.Parts.{instr_of, meet_of, is_zero}
use Rattle.fm_object.specs.declared.image.FieldImage.{FieldImage}
use Rattle.fm_object.specs.declared.image.Cell.{Cell}
use Rattle.fm_object.specs.declared.image.UnitImage.{UnitImage}
use Rattle.fm_object.specs.declared.image.Image.{Image}
use Rattle.fm_object.specs.Texts.{number, field_text, extent_text, cell_text, entry_text, instr_text, type_text, unit_text, head_text, types_line, units_line, object_text, IsShort, FieldFits, CellFits, EntryFits, InstrFits, ListFits, UnitFits, IsImage, first_lines}
use Rattle.fm_object.specs.Reading.{◌>>◌, Place, UnitHead, HeadFits, head_line, count_line, field_line, cell_line, entry_line, unit_head_line, instr_line, one_line, many, type_read, unit_read, ended, from_first, image_read}
use Rattle.fm_object.proofs.WordLaws.{Avoids}
use Rattle.fm_object.proofs.LineLaws.{head_line_text}
use Rattle.fm_object.proofs.Exact.{IsExact, bind_ok, ok_is, many_takes}
use Rattle.fm_object.proofs.Images.{counts_exact, fields_exact, cells_exact, entries_exact, instrs_exact, heads_exact, extents_exact, head_exact, types_exact, units_exact, the_head}
use Rattle.fm_object.proofs.Fronts.{Closed, front_line, line_after, line_told, literal, closed_count, closed_field, closed_cell, closed_entry, closed_instr, closed_head}

-- ---- whole lines

pub record First (t : List ℕ) : Type 0 where
  pub words : List ℕ
  pub rest : List ℕ
  pub avoids : Avoids 10 words
  pub is : t ≡ words ++ 10 ∷ rest

-- so many lines, each with its line feed
abbrev pub Whole : ℕ → List ℕ → Type 0
Whole zero t = t ≡ []
Whole (suc n) t = (f : First t) × Whole n f.rest

whole_append : (n m k : ℕ) (a b : List ℕ) → n + m ≡ k → Whole n a → Whole m b → Whole k (a ++ b)
whole_append zero m k a b e x y =
    let same : m ≡ k = omega (arith, e) in
    subst (λ (j : ℕ). Whole j (a ++ b)) same (subst (λ (z : List ℕ). Whole m (z ++ b)) (sym x) y)
whole_append (suc n) m zero a b e x y = absurd (omega (arith, e))
whole_append (suc n) m (suc k) a b e x y = (
  record {
    words = x.0.words;
    rest = x.0.rest ++ b;
    avoids = x.0.avoids;
    is = ap (λ (z : List ℕ). z ++ b) x.0.is ∙ append_assoc x.0.words (10 ∷ x.0.rest) b;
  },
  whole_append n m k x.0.rest b (omega (arith, e)) x.1 y,
)

pub whole_front : (n : ℕ) (a s : List ℕ) → Whole n a → first_lines n (a ++ s) ≡ a
whole_front zero a s x = sym x
whole_front (suc n) a s x =
    ap (λ (z : List ℕ). first_lines (suc n) (z ++ s)) x.0.is
    ∙ ap (first_lines (suc n)) (append_assoc x.0.words (10 ∷ x.0.rest) s)
    ∙ front_line n x.0.words (x.0.rest ++ s) x.0.avoids
    ∙ ap (λ (z : List ℕ). x.0.words ++ 10 ∷ z) (whole_front n x.0.rest s x.1)
    ∙ sym x.0.is

-- the lines of a text lie between two places
pub record Counted (p q : Place) (t : List ℕ) : Type 0 where
  pub lines : ℕ
  pub line : p.line + lines ≡ q.line
  pub whole : Whole lines t

counted_both : (p q r : Place) (a b : List ℕ) → Counted p q a → Counted q r b → Counted p r (a ++ b)
counted_both p q r a b x y = record {
  lines = x.lines + y.lines;
  line = omega (arith, x.line, y.line);
  whole = whole_append x.lines y.lines (x.lines + y.lines) a b refl x.whole y.whole;
}

-- ---- what begins a text

-- what stands at a place begins with all lines of some such text before this one
pub record Begun (Text : List ℕ → Type 0) (p : Place) (m : ℕ) : Type 0 where
  pub lines : ℕ
  pub line : p.line + lines ≡ m
  pub done : List ℕ
  pub left : List ℕ
  pub right : List ℕ
  pub there : p.rest ≡ done ++ left
  pub told : Text (done ++ right)
  pub whole : Whole lines done

begun_here : (Text : List ℕ → Type 0) (p : Place) (m : ℕ) (t : List ℕ) → p.line ≡ m → Text t → Begun Text p m
begun_here Text p m t e told = record { lines = zero; line = omega (arith, e); done = []; left = p.rest; right = t; there = refl; told = told; whole = refl }

begun_after : (Text : List ℕ → Type 0) (p q : Place) (a : List ℕ) (m : ℕ) → p.rest ≡ a ++ q.rest → Counted p q a → Begun (λ t. Text (a ++ t)) q m → Begun Text p m
begun_after Text p q a m e c b = record {
  lines = c.lines + b.lines;
  line = omega (arith, c.line, b.line);
  done = a ++ b.done;
  left = b.left;
  right = b.right;
  there = e ∙ ap (λ (z : List ℕ). a ++ z) b.there ∙ sym (append_assoc a b.done b.left);
  told = subst Text (sym (append_assoc a b.done b.right)) b.told;
  whole = whole_append c.lines b.lines (c.lines + b.lines) a b.done refl c.whole b.whole;
}

begun_more : (T U : List ℕ → Type 0) (p : Place) (m : ℕ) (s : List ℕ) → ((t : List ℕ) → T t → U (t ++ s)) → Begun T p m → Begun U p m
begun_more T U p m s f b = record {
  lines = b.lines;
  line = b.line;
  done = b.done;
  left = b.left;
  right = b.right ++ s;
  there = b.there;
  told = subst U (append_assoc b.done b.right s) (f (b.done ++ b.right) b.told);
  whole = b.whole;
}

begun_is : (T U : List ℕ → Type 0) (p : Place) (m : ℕ) → ((t : List ℕ) → T t → U t) → Begun T p m → Begun U p m
begun_is T U p m f b = record { lines = b.lines; line = b.line; done = b.done; left = b.left; right = b.right; there = b.there; told = f (b.done ++ b.right) b.told; whole = b.whole }

-- a step fails by its own, or behind it
err_by : {A B : Type 0} (C : Type 0) (r : Result A ℕ) (f : A → Result B ℕ) (m : ℕ) → (r >> f) ≡ Err m → (r ≡ Err m → C) → ((x : A) → r ≡ Ok x → f x ≡ Err m → C) → C
err_by C (Ok x) f m e stops goes = goes x refl e
err_by C (Err d) f m e stops goes = stops (cc e)

-- ---- readers

-- the text of one that fits
pub record IsOne {X : Type 0} (text : X → List ℕ) (Fits : X → Type 0) (t : List ℕ) : Type 0 where
  pub item : X
  pub fits : Fits item
  pub is : t ≡ text item

-- the texts of so many that fit
pub record AreSome {X : Type 0} (text : X → List ℕ) (Fits : X → Type 0) (n : ℕ) (t : List ℕ) : Type 0 where
  pub items : List X
  pub count : length items ≡ n
  pub fit : AllByRecursion Fits items
  pub is : t ≡ flat_map text items

-- an exact reader that counts its lines; there is one that fits
pub record Steps {X : Type 0} (read : Place → Result (X × Place) ℕ) (text : X → List ℕ) (Fits : X → Type 0) : Type 0 where
  pub exact : IsExact read text Fits
  pub counted : (p : Place) (x : X) (q : Place) → read p ≡ Ok (x, q) → Counted p q (text x)
  pub begun : (p : Place) (m : ℕ) → read p ≡ Err m → Begun (IsOne text Fits) p m
  pub one : X
  pub one_fits : Fits one

module _ {X : Type 0} (text : X → List ℕ) (Fits : X → Type 0) where
  line_steps : (read : List ℕ → Option (X × List ℕ)) → IsExact (one_line read) text Fits → ((x : X) → Fits x → Closed (text x)) → (one : X) → Fits one → Steps (one_line read) text Fits
  line_steps read exact closed one fits = record {
    exact = exact;
    counted = λ p x q e.
        let c = closed x (exact.takes p x q e).1 in
        record {
          lines = suc zero;
          line = omega (arith, (line_after p.line (read p.rest) x q e).1);
          whole = (record { words = c.words; rest = []; avoids = c.avoids; is = c.is }, refl);
        };
    begun = λ p m e. begun_here (IsOne text Fits) p m (text one) (line_told p.line (read p.rest) m e).1 (record { item = one; fits = fits; is = refl });
    one = one;
    one_fits = fits;
  }

  module _ (read : Place → Result (X × Place) ℕ) (steps : Steps read text Fits) where
    filling_fits : (n : ℕ) → AllByRecursion Fits (replicate n steps.one)
    filling_fits zero = tt
    filling_fits (suc n) = (steps.one_fits, filling_fits n)

    many_counted : (n : ℕ) (p : Place) (xs : List X) (q : Place) → many read n p ≡ Ok (xs, q) → Counted p q (flat_map text xs)
    unfolding many
    many_counted zero p xs q e =
        let same : ([], p) ≡ (xs, q) = ok_is ([], p) (xs, q) e in
        subst (λ (z : List X × Place). Counted p z.1 (flat_map text z.0)) same (record { lines = zero; line = omega arith; whole = refl })
    many_counted (suc n) p xs q e =
        let a = bind_ok (read p) (λ x. many read n x.1 >> λ ys. Ok (x.0 ∷ ys.0, ys.1)) (xs, q) e in
        let b = bind_ok (many read n a.0.1) (λ ys. Ok (a.0.0 ∷ ys.0, ys.1)) (xs, q) a.2 in
        let both : Counted p b.0.1 (text a.0.0 ++ flat_map text b.0.0) = counted_both p a.0.1 b.0.1 (text a.0.0) (flat_map text b.0.0) (steps.counted p a.0.0 a.0.1 a.1) (many_counted n a.0.1 b.0.0 b.0.1 b.1) in
        subst (λ (z : List X × Place). Counted p z.1 (flat_map text z.0)) (ok_is (a.0.0 ∷ b.0.0, b.0.1) (xs, q) b.2)
        (subst (Counted p b.0.1) (sym (flat_map-cons text a.0.0 b.0.0)) both)

    one_more : (n : ℕ) (x : X) (fits : Fits x) (t : List ℕ) → AreSome text Fits n t → AreSome text Fits (suc n) (text x ++ t)
    one_more n x fits t i = record {
      items = x ∷ i.items;
      count = ap suc i.count;
      fit = (fits, i.fit);
      is = ap (λ (z : List ℕ). text x ++ z) i.is ∙ sym (flat_map-cons text x i.items);
    }

    filled : (n : ℕ) → AreSome text Fits n (flat_map text (replicate n steps.one))
    filled n = record { items = replicate n steps.one; count = length-replicate n steps.one; fit = filling_fits n; is = refl }

    many_begun : (n : ℕ) (p : Place) (m : ℕ) → many read n p ≡ Err m → Begun (AreSome text Fits n) p m
    unfolding many
    many_begun zero p m e = absurd (cc e)
    many_begun (suc n) p m e =
        err_by (Begun (AreSome text Fits (suc n)) p m) (read p) (λ x. many read n x.1 >> λ ys. Ok (x.0 ∷ ys.0, ys.1)) m e
        (λ stops.
        begun_more (IsOne text Fits) (AreSome text Fits (suc n)) p m (flat_map text (replicate n steps.one))
        (λ t i. subst (λ (z : List ℕ). AreSome text Fits (suc n) (z ++ flat_map text (replicate n steps.one))) (sym i.is) (one_more n i.item i.fits (flat_map text (replicate n steps.one)) (filled n)))
        (steps.begun p m stops))
        (λ x is e. err_by (Begun (AreSome text Fits (suc n)) p m) (many read n x.1) (λ ys. Ok (x.0 ∷ ys.0, ys.1)) m e
        (λ stops.
        let t = steps.exact.takes p x.0 x.1 is in
        begun_after (AreSome text Fits (suc n)) p x.1 (text x.0) m t.0 (steps.counted p x.0 x.1 is)
        (begun_is (AreSome text Fits n) (λ u. AreSome text Fits (suc n) (text x.0 ++ u)) x.1 m (one_more n x.0 t.1) (many_begun n x.1 m stops)))
        (λ y is e. absurd (cc e)))

-- ---- single lines

short_zero : IsShort 0
short_zero = omega arith

count_steps : (k : List ℕ) → Avoids 10 k → Steps (one_line (count_line k)) (λ n. k ++ number n 10) IsShort
count_steps k avoids = line_steps (λ n. k ++ number n 10) IsShort (count_line k) (counts_exact k) (closed_count k avoids) 0 short_zero

extent_steps : Steps (one_line (count_line (codes "extent "))) extent_text IsShort
extent_steps = line_steps extent_text IsShort (count_line (codes "extent ")) extents_exact (closed_count (codes "extent ") (literal (codes "extent ") refl)) 0 short_zero

field_steps : Steps (one_line field_line) field_text FieldFits
field_steps = line_steps field_text FieldFits field_line fields_exact closed_field (record { kind = 0; of = 0; words = 0; size = 0 }) (record { kind = short_zero; of = short_zero; words = short_zero; size = short_zero })

cell_steps : Steps (one_line cell_line) cell_text CellFits
cell_steps =
    line_steps cell_text CellFits cell_line cells_exact closed_cell (record { name = codes "A"; kind = 0; of = 0; first = 0; words = 0; formal = 0; back = 0 })
    (record { name = refl; kind = short_zero; of = short_zero; first = short_zero; words = short_zero; formal = short_zero; back = short_zero })

entry_steps : Steps (one_line entry_line) entry_text EntryFits
entry_steps = line_steps entry_text EntryFits entry_line entries_exact closed_entry (record { line = record { 0 = 0 }; address = 0 }) (record { line = short_zero; address = short_zero })

stop_told : instr_of 48 (pos 0) (pos 0) ≡ Some (instr.Meet meet.Stop)
unfolding meet_of is_zero
stop_told = refl

instr_steps : Steps (one_line instr_line) instr_text InstrFits
instr_steps = line_steps instr_text InstrFits instr_line instrs_exact closed_instr (instr.Meet meet.Stop) (record { operation = omega arith; first = omega arith; second = omega arith; told = stop_told })

unit_line_steps : Steps (one_line unit_head_line) head_line_text HeadFits
unit_line_steps =
    line_steps head_line_text HeadFits unit_head_line heads_exact closed_head (record { heading = 0; extents = 0; cells = 0; entries = 0; code = 0 })
    (record { heading = short_zero; extents = short_zero; cells = short_zero; entries = short_zero; code = short_zero })

first_steps : Steps (one_line head_line) (λ x. head_text) (λ x. Unit {0})
first_steps = line_steps (λ x. head_text) (λ x. Unit {0}) head_line head_exact (λ x fits. record { words = codes "fmc object 1"; is = refl; avoids = literal (codes "fmc object 1") refl }) tt tt

none_fit : {X : Type 0} (Fits : X → Type 0) → ListFits Fits []
none_fit Fits = record { few = short_zero; each = tt }

fit_all : {X : Type 0} (Fits : X → Type 0) (xs : List X) (n : ℕ) → length xs ≡ n → IsShort n → AllByRecursion Fits xs → ListFits Fits xs
fit_all Fits xs n count short each = record { few = subst IsShort (sym count) short; each = each }

-- ---- types

type_line : Steps (one_line (count_line (codes "type "))) (λ n. codes "type " ++ number n 10) IsShort
type_line = count_steps (codes "type ") (literal (codes "type ") refl)

type_counted : (p : Place) (fs : List FieldImage) (q : Place) → type_read p ≡ Ok (fs, q) → Counted p q (type_text fs)
unfolding type_read
type_counted p fs q e =
    let a = bind_ok (one_line (count_line (codes "type ")) p) (λ n. many (one_line field_line) n.0 n.1) (fs, q) e in
    let t = many_takes (one_line field_line) field_text FieldFits fields_exact a.0.0 a.0.1 fs q a.2 in
    subst (λ (n : ℕ). Counted p q ((codes "type " ++ number n 10) ++ flat_map field_text fs)) (sym t.count)
    (counted_both p a.0.1 q (codes "type " ++ number a.0.0 10) (flat_map field_text fs) (type_line.counted p a.0.0 a.0.1 a.1) (many_counted field_text FieldFits (one_line field_line) field_steps a.0.0 a.0.1 fs q a.2))

a_type : (n : ℕ) (t : List ℕ) → IsShort n → AreSome field_text FieldFits n t → IsOne type_text (ListFits FieldFits) ((codes "type " ++ number n 10) ++ t)
a_type n t short i = record {
  item = i.items;
  fits = fit_all FieldFits i.items n i.count short i.fit;
  is =
      ap (λ (z : List ℕ). (codes "type " ++ number n 10) ++ z) i.is
      ∙ ap (λ (k : ℕ). (codes "type " ++ number k 10) ++ flat_map field_text i.items) (sym i.count);
}

type_begun : (p : Place) (m : ℕ) → type_read p ≡ Err m → Begun (IsOne type_text (ListFits FieldFits)) p m
unfolding type_read
type_begun p m e =
    err_by (Begun (IsOne type_text (ListFits FieldFits)) p m) (one_line (count_line (codes "type ")) p) (λ n. many (one_line field_line) n.0 n.1) m e
    (λ stops. begun_here (IsOne type_text (ListFits FieldFits)) p m (type_text []) (line_told p.line (count_line (codes "type ") p.rest) m stops).1 (record { item = []; fits = none_fit FieldFits; is = refl }))
    (λ n is e.
    let t = type_line.exact.takes p n.0 n.1 is in
    begun_after (IsOne type_text (ListFits FieldFits)) p n.1 (codes "type " ++ number n.0 10) m t.0 (type_line.counted p n.0 n.1 is)
    (begun_is (AreSome field_text FieldFits n.0) (λ u. IsOne type_text (ListFits FieldFits) ((codes "type " ++ number n.0 10) ++ u)) n.1 m (λ u i. a_type n.0 u t.1 i)
    (many_begun field_text FieldFits (one_line field_line) field_steps n.0 n.1 m e)))

type_steps : Steps type_read type_text (ListFits FieldFits)
type_steps = record { exact = types_exact; counted = type_counted; begun = type_begun; one = []; one_fits = none_fit FieldFits }

-- ---- units

abbrev then_unit : UnitHead → List ℕ → List Cell → List Entry → List Instr × Place → Result (UnitImage × Place) ℕ
then_unit h xs cs es code = Ok (record { heading = h.heading; extents = xs; cells = cs; entries = es; code = code.0 }, code.1)

abbrev then_code : UnitHead → List ℕ → List Cell → List Entry × Place → Result (UnitImage × Place) ℕ
then_code h xs cs entries = many (one_line instr_line) h.code entries.1 >> then_unit h xs cs entries.0

abbrev then_entries : UnitHead → List ℕ → List Cell × Place → Result (UnitImage × Place) ℕ
then_entries h xs cells = many (one_line entry_line) h.entries cells.1 >> then_code h xs cells.0

abbrev then_cells : UnitHead → List ℕ × Place → Result (UnitImage × Place) ℕ
then_cells h extents = many (one_line cell_line) h.cells extents.1 >> then_entries h extents.0

abbrev then_extents : UnitHead × Place → Result (UnitImage × Place) ℕ
then_extents h = many (one_line (count_line (codes "extent "))) h.0.extents h.1 >> then_cells h.0

abbrev body_text : List ℕ → List Cell → List Entry → List Instr → List ℕ
body_text xs cs es is = flat_map extent_text xs ++ (flat_map cell_text cs ++ (flat_map entry_text es ++ flat_map instr_text is))

abbrev IsUnitText : List ℕ → Type 0
IsUnitText = IsOne unit_text UnitFits

-- the text of a unit by its parts
head_of_unit : (h : UnitHead) (xs : List ℕ) (cs : List Cell) (es : List Entry) (is : List Instr) → length xs ≡ h.extents → length cs ≡ h.cells → length es ≡ h.entries → length is ≡ h.code
    → head_line_text h ++ body_text xs cs es is ≡ unit_text (record { heading = h.heading; extents = xs; cells = cs; entries = es; code = is })
head_of_unit h xs cs es is x c e i =
    let made : UnitImage = record { heading = h.heading; extents = xs; cells = cs; entries = es; code = is } in
    ap (λ (k : UnitHead). head_line_text k ++ body_text xs cs es is) (the_head h made (sym x) (sym c) (sym e) (sym i))

a_unit : (h : UnitHead) → HeadFits h → (a b c d : List ℕ) → AreSome extent_text IsShort h.extents a → AreSome cell_text CellFits h.cells b → AreSome entry_text EntryFits h.entries c → AreSome instr_text InstrFits h.code d
    → IsUnitText (head_line_text h ++ (a ++ (b ++ (c ++ d))))
a_unit h fits a b c d x y z w = record {
  item = record { heading = h.heading; extents = x.items; cells = y.items; entries = z.items; code = w.items };
  fits = record {
    heading = fits.heading;
    extents = fit_all IsShort x.items h.extents x.count fits.extents x.fit;
    cells = fit_all CellFits y.items h.cells y.count fits.cells y.fit;
    entries = fit_all EntryFits z.items h.entries z.count fits.entries z.fit;
    code = fit_all InstrFits w.items h.code w.count fits.code w.fit;
  };
  is = rw (x.is, y.is, z.is, w.is) (head_of_unit h x.items y.items z.items w.items x.count y.count z.count w.count);
}

abbrev no_unit : UnitImage
no_unit = record { heading = 0; extents = []; cells = []; entries = []; code = [] }

no_unit_fits : UnitFits no_unit
no_unit_fits = record { heading = short_zero; extents = none_fit IsShort; cells = none_fit CellFits; entries = none_fit EntryFits; code = none_fit InstrFits }

-- the parts of a unit that are read
read_items : {X : Type 0} (read : Place → Result (X × Place) ℕ) (text : X → List ℕ) (Fits : X → Type 0) → IsExact read text Fits → (n : ℕ) (p : Place) (x : List X × Place) → many read n p ≡ Ok x → AreSome text Fits n (flat_map text x.0)
read_items read text Fits exact n p x e = let t = many_takes read text Fits exact n p x.0 x.1 e in record { items = x.0; count = t.count; fit = t.fit; is = refl }

module _ (h : UnitHead) (fits : HeadFits h) (m : ℕ) where
  extents_filled : AreSome extent_text IsShort h.extents (flat_map extent_text (replicate h.extents extent_steps.one))
  extents_filled = filled extent_text IsShort (one_line (count_line (codes "extent "))) extent_steps h.extents

  cells_filled : AreSome cell_text CellFits h.cells (flat_map cell_text (replicate h.cells cell_steps.one))
  cells_filled = filled cell_text CellFits (one_line cell_line) cell_steps h.cells

  entries_filled : AreSome entry_text EntryFits h.entries (flat_map entry_text (replicate h.entries entry_steps.one))
  entries_filled = filled entry_text EntryFits (one_line entry_line) entry_steps h.entries

  code_filled : AreSome instr_text InstrFits h.code (flat_map instr_text (replicate h.code instr_steps.one))
  code_filled = filled instr_text InstrFits (one_line instr_line) instr_steps h.code

  code_begun : (a b c : List ℕ) (q : Place) (xs : List ℕ) (cs : List Cell) (es : List Entry) → AreSome extent_text IsShort h.extents a → AreSome cell_text CellFits h.cells b → AreSome entry_text EntryFits h.entries c
      → then_code h xs cs (es, q) ≡ Err m → Begun (λ t. IsUnitText (head_line_text h ++ (a ++ (b ++ (c ++ t))))) q m
  code_begun a b c q xs cs es x y z e =
      let U : List ℕ → Type 0 = λ t. IsUnitText (head_line_text h ++ (a ++ (b ++ (c ++ t)))) in
      err_by (Begun U q m) (many (one_line instr_line) h.code q) (then_unit h xs cs es) m e
      (λ stops. begun_is (AreSome instr_text InstrFits h.code) U q m (λ t w. a_unit h fits a b c t x y z w) (many_begun instr_text InstrFits (one_line instr_line) instr_steps h.code q m stops))
      (λ w is e. absurd (cc e))

  entries_begun : (a b : List ℕ) (q : Place) (xs : List ℕ) (cs : List Cell) → AreSome extent_text IsShort h.extents a → AreSome cell_text CellFits h.cells b
      → then_entries h xs (cs, q) ≡ Err m → Begun (λ t. IsUnitText (head_line_text h ++ (a ++ (b ++ t)))) q m
  entries_begun a b q xs cs x y e =
      let U : List ℕ → Type 0 = λ t. IsUnitText (head_line_text h ++ (a ++ (b ++ t))) in
      err_by (Begun U q m) (many (one_line entry_line) h.entries q) (then_code h xs cs) m e
      (λ stops.
      begun_more (AreSome entry_text EntryFits h.entries) U q m (flat_map instr_text (replicate h.code instr_steps.one)) (λ t z. a_unit h fits a b t (flat_map instr_text (replicate h.code instr_steps.one)) x y z code_filled)
      (many_begun entry_text EntryFits (one_line entry_line) entry_steps h.entries q m stops))
      (λ z is e.
      let t = many_takes (one_line entry_line) entry_text EntryFits entries_exact h.entries q z.0 z.1 is in
      begun_after U q z.1 (flat_map entry_text z.0) m t.parts (many_counted entry_text EntryFits (one_line entry_line) entry_steps h.entries q z.0 z.1 is)
      (code_begun a b (flat_map entry_text z.0) z.1 xs cs z.0 x y (read_items (one_line entry_line) entry_text EntryFits entries_exact h.entries q z is) e))

  cells_begun : (a : List ℕ) (q : Place) (xs : List ℕ) → AreSome extent_text IsShort h.extents a → then_cells h (xs, q) ≡ Err m → Begun (λ t. IsUnitText (head_line_text h ++ (a ++ t))) q m
  cells_begun a q xs x e =
      let U : List ℕ → Type 0 = λ t. IsUnitText (head_line_text h ++ (a ++ t)) in
      let behind : List ℕ = flat_map entry_text (replicate h.entries entry_steps.one) ++ flat_map instr_text (replicate h.code instr_steps.one) in
      err_by (Begun U q m) (many (one_line cell_line) h.cells q) (then_entries h xs) m e
      (λ stops.
      begun_more (AreSome cell_text CellFits h.cells) U q m behind
      (λ t y. a_unit h fits a t (flat_map entry_text (replicate h.entries entry_steps.one)) (flat_map instr_text (replicate h.code instr_steps.one)) x y entries_filled code_filled)
      (many_begun cell_text CellFits (one_line cell_line) cell_steps h.cells q m stops))
      (λ y is e.
      let t = many_takes (one_line cell_line) cell_text CellFits cells_exact h.cells q y.0 y.1 is in
      begun_after U q y.1 (flat_map cell_text y.0) m t.parts (many_counted cell_text CellFits (one_line cell_line) cell_steps h.cells q y.0 y.1 is)
      (entries_begun a (flat_map cell_text y.0) y.1 xs y.0 x (read_items (one_line cell_line) cell_text CellFits cells_exact h.cells q y is) e))

  extents_begun : (q : Place) → then_extents (h, q) ≡ Err m → Begun (λ t. IsUnitText (head_line_text h ++ t)) q m
  extents_begun q e =
      let U : List ℕ → Type 0 = λ t. IsUnitText (head_line_text h ++ t) in
      let b : List ℕ = flat_map cell_text (replicate h.cells cell_steps.one) in
      let c : List ℕ = flat_map entry_text (replicate h.entries entry_steps.one) in
      let d : List ℕ = flat_map instr_text (replicate h.code instr_steps.one) in
      err_by (Begun U q m) (many (one_line (count_line (codes "extent "))) h.extents q) (then_cells h) m e
      (λ stops.
      begun_more (AreSome extent_text IsShort h.extents) U q m (b ++ (c ++ d)) (λ t x. a_unit h fits t b c d x cells_filled entries_filled code_filled)
      (many_begun extent_text IsShort (one_line (count_line (codes "extent "))) extent_steps h.extents q m stops))
      (λ x is e.
      let t = many_takes (one_line (count_line (codes "extent "))) extent_text IsShort extents_exact h.extents q x.0 x.1 is in
      begun_after U q x.1 (flat_map extent_text x.0) m t.parts (many_counted extent_text IsShort (one_line (count_line (codes "extent "))) extent_steps h.extents q x.0 x.1 is)
      (cells_begun (flat_map extent_text x.0) x.1 x.0 (read_items (one_line (count_line (codes "extent "))) extent_text IsShort extents_exact h.extents q x is) e))

unit_begun : (p : Place) (m : ℕ) → unit_read p ≡ Err m → Begun IsUnitText p m
unfolding unit_read
unit_begun p m e =
    err_by (Begun IsUnitText p m) (one_line unit_head_line p) then_extents m e
    (λ stops. begun_here IsUnitText p m (unit_text no_unit) (line_told p.line (unit_head_line p.rest) m stops).1 (record { item = no_unit; fits = no_unit_fits; is = refl }))
    (λ h is e.
    let t = heads_exact.takes p h.0 h.1 is in
    begun_after IsUnitText p h.1 (head_line_text h.0) m t.0 (unit_line_steps.counted p h.0 h.1 is) (extents_begun h.0 t.1 m h.1 e))

unit_counted : (p : Place) (u : UnitImage) (q : Place) → unit_read p ≡ Ok (u, q) → Counted p q (unit_text u)
unfolding unit_read
unit_counted p u q e =
    let a = bind_ok (one_line unit_head_line p) then_extents (u, q) e in
    let h = a.0.0 in
    let b = bind_ok (many (one_line (count_line (codes "extent "))) h.extents a.0.1) (then_cells h) (u, q) a.2 in
    let c = bind_ok (many (one_line cell_line) h.cells b.0.1) (then_entries h b.0.0) (u, q) b.2 in
    let d = bind_ok (many (one_line entry_line) h.entries c.0.1) (then_code h b.0.0 c.0.0) (u, q) c.2 in
    let f = bind_ok (many (one_line instr_line) h.code d.0.1) (then_unit h b.0.0 c.0.0 d.0.0) (u, q) d.2 in
    let made : UnitImage = record { heading = h.heading; extents = b.0.0; cells = c.0.0; entries = d.0.0; code = f.0.0 } in
    let t1 = many_takes (one_line (count_line (codes "extent "))) extent_text IsShort extents_exact h.extents a.0.1 b.0.0 b.0.1 b.1 in
    let t2 = many_takes (one_line cell_line) cell_text CellFits cells_exact h.cells b.0.1 c.0.0 c.0.1 c.1 in
    let t3 = many_takes (one_line entry_line) entry_text EntryFits entries_exact h.entries c.0.1 d.0.0 d.0.1 d.1 in
    let t4 = many_takes (one_line instr_line) instr_text InstrFits instrs_exact h.code d.0.1 f.0.0 f.0.1 f.1 in
    let n4 = many_counted instr_text InstrFits (one_line instr_line) instr_steps h.code d.0.1 f.0.0 f.0.1 f.1 in
    let n3 = counted_both c.0.1 d.0.1 f.0.1 (flat_map entry_text d.0.0) (flat_map instr_text f.0.0) (many_counted entry_text EntryFits (one_line entry_line) entry_steps h.entries c.0.1 d.0.0 d.0.1 d.1) n4 in
    let n2 = counted_both b.0.1 c.0.1 f.0.1 (flat_map cell_text c.0.0) (flat_map entry_text d.0.0 ++ flat_map instr_text f.0.0) (many_counted cell_text CellFits (one_line cell_line) cell_steps h.cells b.0.1 c.0.0 c.0.1 c.1) n3 in
    let n1 = counted_both a.0.1 b.0.1 f.0.1 (flat_map extent_text b.0.0) (flat_map cell_text c.0.0 ++ (flat_map entry_text d.0.0 ++ flat_map instr_text f.0.0)) (many_counted extent_text IsShort (one_line (count_line (codes "extent "))) extent_steps h.extents a.0.1 b.0.0 b.0.1 b.1) n2 in
    let n0 : Counted p f.0.1 (head_line_text h ++ body_text b.0.0 c.0.0 d.0.0 f.0.0) = counted_both p a.0.1 f.0.1 (head_line_text h) (body_text b.0.0 c.0.0 d.0.0 f.0.0) (unit_line_steps.counted p h a.0.1 a.1) n1 in
    subst (λ (y : UnitImage × Place). Counted p y.1 (unit_text y.0)) (ok_is (made, f.0.1) (u, q) f.2)
    (subst (Counted p f.0.1) (head_of_unit h b.0.0 c.0.0 d.0.0 f.0.0 t1.count t2.count t3.count t4.count) n0)

unit_steps : Steps unit_read unit_text UnitFits
unit_steps = record { exact = units_exact; counted = unit_counted; begun = unit_begun; one = no_unit; one_fits = no_unit_fits }

-- ---- the whole

abbrev then_ended : List (List FieldImage) → List UnitImage × Place → Result Image ℕ
then_ended types units = ended (record { types = types; units = units.0 }) units.1

abbrev then_units : List (List FieldImage) → ℕ × Place → Result Image ℕ
then_units types count = many unit_read count.0 count.1 >> then_ended types

abbrev then_units_line : List (List FieldImage) × Place → Result Image ℕ
then_units_line types = one_line (count_line (codes "units ")) types.1 >> then_units types.0

abbrev then_types : ℕ × Place → Result Image ℕ
then_types count = many type_read count.0 count.1 >> then_units_line

abbrev then_types_line : Unit {0} × Place → Result Image ℕ
then_types_line head = one_line (count_line (codes "types ")) head.1 >> then_types

abbrev pub IsObject : List ℕ → Type 0
IsObject = IsOne object_text IsImage

abbrev AreTypes : ℕ → List ℕ → Type 0
AreTypes = AreSome type_text (ListFits FieldFits)

abbrev AreUnits : ℕ → List ℕ → Type 0
AreUnits = AreSome unit_text UnitFits

counts_of_image : (types : List (List FieldImage)) (units : List UnitImage) (n k : ℕ) → length types ≡ n → length units ≡ k
    → head_text ++ (types_line n ++ (flat_map type_text types ++ (units_line k ++ flat_map unit_text units))) ≡ object_text (record { types = types; units = units })
counts_of_image types units n k x y = rw (← x, ← y) refl

an_image : (n k : ℕ) (a b : List ℕ) → IsShort n → IsShort k → AreTypes n a → AreUnits k b → IsObject (head_text ++ (types_line n ++ (a ++ (units_line k ++ b))))
an_image n k a b small few x y = record {
  item = record { types = x.items; units = y.items };
  fits = record { types = fit_all (ListFits FieldFits) x.items n x.count small x.fit; units = fit_all UnitFits y.items k y.count few y.fit };
  is = rw (x.is, y.is) (counts_of_image x.items y.items n k x.count y.count);
}

no_types : AreTypes 0 []
no_types = record { items = []; count = refl; fit = tt; is = refl }

no_units : AreUnits 0 []
no_units = record { items = []; count = refl; fit = tt; is = refl }

types_count : Steps (one_line (count_line (codes "types "))) (λ n. codes "types " ++ number n 10) IsShort
types_count = count_steps (codes "types ") (literal (codes "types ") refl)

units_count : Steps (one_line (count_line (codes "units "))) (λ n. codes "units " ++ number n 10) IsShort
units_count = count_steps (codes "units ") (literal (codes "units ") refl)

ended_line : {X : Type 0} (x : X) (p : Place) (m : ℕ) → ended x p ≡ Err m → p.line ≡ m
ended_line {X = X} x p m e = go (length p.rest == 0) e
  where
    go : (b : Bool) → cond b (Ok x) (Err p.line) ≡ Err m → p.line ≡ m
    go true e = absurd (cc e)
    go false e = cc e

module _ (m n : ℕ) (small : IsShort n) where
  end_begun : (k : ℕ) (a b : List ℕ) (q : Place) (types : List (List FieldImage)) (units : List UnitImage) → IsShort k → AreTypes n a → AreUnits k b → then_ended types (units, q) ≡ Err m
      → Begun (λ t. IsObject (head_text ++ (types_line n ++ (a ++ (units_line k ++ (b ++ t)))))) q m
  end_begun k a b q types units few x y e =
      begun_here (λ t. IsObject (head_text ++ (types_line n ++ (a ++ (units_line k ++ (b ++ t)))))) q m [] (ended_line (record { types = types; units = units }) q m e)
      (subst (λ (z : List ℕ). IsObject (head_text ++ (types_line n ++ (a ++ (units_line k ++ z))))) (sym (append-nil b)) (an_image n k a b small few x y))

  units_begun : (k : ℕ) (a : List ℕ) (q : Place) (types : List (List FieldImage)) → IsShort k → AreTypes n a → then_units types (k, q) ≡ Err m
      → Begun (λ t. IsObject (head_text ++ (types_line n ++ (a ++ (units_line k ++ t))))) q m
  units_begun k a q types few x e =
      let U : List ℕ → Type 0 = λ t. IsObject (head_text ++ (types_line n ++ (a ++ (units_line k ++ t)))) in
      err_by (Begun U q m) (many unit_read k q) (then_ended types) m e
      (λ stops. begun_is (AreUnits k) U q m (λ t y. an_image n k a t small few x y) (many_begun unit_text UnitFits unit_read unit_steps k q m stops))
      (λ y is e.
      let t = many_takes unit_read unit_text UnitFits units_exact k q y.0 y.1 is in
      begun_after U q y.1 (flat_map unit_text y.0) m t.parts (many_counted unit_text UnitFits unit_read unit_steps k q y.0 y.1 is)
      (end_begun k a (flat_map unit_text y.0) y.1 types y.0 few x (read_items unit_read unit_text UnitFits units_exact k q y is) e))

  units_line_begun : (a : List ℕ) (q : Place) (types : List (List FieldImage)) → AreTypes n a → then_units_line (types, q) ≡ Err m
      → Begun (λ t. IsObject (head_text ++ (types_line n ++ (a ++ t)))) q m
  units_line_begun a q types x e =
      let U : List ℕ → Type 0 = λ t. IsObject (head_text ++ (types_line n ++ (a ++ t))) in
      err_by (Begun U q m) (one_line (count_line (codes "units ")) q) (then_units types) m e
      (λ stops. begun_here U q m (units_line 0 ++ []) (line_told q.line (count_line (codes "units ") q.rest) m stops).1 (an_image n 0 a [] small short_zero x no_units))
      (λ k is e.
      let t = units_count.exact.takes q k.0 k.1 is in
      begun_after U q k.1 (units_line k.0) m t.0 (units_count.counted q k.0 k.1 is) (units_begun k.0 a k.1 types t.1 x e))

  types_begun : (q : Place) → then_types (n, q) ≡ Err m → Begun (λ t. IsObject (head_text ++ (types_line n ++ t))) q m
  types_begun q e =
      let U : List ℕ → Type 0 = λ t. IsObject (head_text ++ (types_line n ++ t)) in
      err_by (Begun U q m) (many type_read n q) then_units_line m e
      (λ stops. begun_more (AreTypes n) U q m (units_line 0 ++ []) (λ t x. an_image n 0 t [] small short_zero x no_units) (many_begun type_text (ListFits FieldFits) type_read type_steps n q m stops))
      (λ x is e.
      let t = many_takes type_read type_text (ListFits FieldFits) types_exact n q x.0 x.1 is in
      begun_after U q x.1 (flat_map type_text x.0) m t.parts (many_counted type_text (ListFits FieldFits) type_read type_steps n q x.0 x.1 is)
      (units_line_begun (flat_map type_text x.0) x.1 x.0 (read_items type_read type_text (ListFits FieldFits) types_exact n q x is) e))

types_line_begun : (m : ℕ) (q : Place) (head : Unit {0}) → then_types_line (head, q) ≡ Err m → Begun (λ t. IsObject (head_text ++ t)) q m
types_line_begun m q head e =
    let U : List ℕ → Type 0 = λ t. IsObject (head_text ++ t) in
    err_by (Begun U q m) (one_line (count_line (codes "types ")) q) then_types m e
    (λ stops. begun_here U q m (types_line 0 ++ ([] ++ (units_line 0 ++ []))) (line_told q.line (count_line (codes "types ") q.rest) m stops).1 (an_image 0 0 [] [] short_zero short_zero no_types no_units))
    (λ n is e.
    let t = types_count.exact.takes q n.0 n.1 is in
    begun_after U q n.1 (types_line n.0) m t.0 (types_count.counted q n.0 n.1 is) (types_begun m n.0 t.1 n.1 e))

pub image_begun : (bytes : List ℕ) (m : ℕ) → image_read bytes ≡ Err m → Begun IsObject (from_first bytes) m
unfolding image_read
image_begun bytes m e =
    err_by (Begun IsObject (from_first bytes) m) (one_line head_line (from_first bytes)) then_types_line m e
    (λ stops. begun_here IsObject (from_first bytes) m (head_text ++ (types_line 0 ++ ([] ++ (units_line 0 ++ [])))) (line_told 1 (head_line bytes) m stops).1 (an_image 0 0 [] [] short_zero short_zero no_types no_units))
    (λ h is e.
    let t = head_exact.takes (from_first bytes) h.0 h.1 is in
    begun_after IsObject (from_first bytes) h.1 head_text m t.0 (first_steps.counted (from_first bytes) h.0 h.1 is) (types_line_begun m h.1 h.0 e))
