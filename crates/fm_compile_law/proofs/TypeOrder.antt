-- The types of an image of a program name earlier ones alone, and their sizes and words make sense.
use Rattle.std.proofs.Common.{◌≡◌, ℕ, zero, suc, ◌+◌, ◌≤◌, Bool, true, false, cond, ◌&&◌, Option, Some, None, List, [], ◌∷◌, ◌++◌, length, slice_get, refl, subst, arith, length-append}
use Rattle.std.specs.List.{list_any}
use Rattle.fm_net.specs.Typed.{AllIn}
use Rattle.fm_tree.specs.PortFields.{PortFields, FieldKind, NoFields, FieldThen, Integer, Logical, In, Out}
use Rattle.fm_tree.specs.PortReading.{kind_of}
use Rattle.fm_tree.specs.declared.port_type.Bound.{Bound}
use Rattle.fm_symbols.specs.declared.names.UnitNames.{UnitNames}
use Rattle.fm_symbols.specs.declared.names.Variable.{Variable}
use Rattle.fm_rules.specs.PortTypes.{sizing_place}
use Rattle.fm_rules.specs.declared.program.Program.{Program}
use Rattle.fm_object.specs.declared.image.FieldImage.{FieldImage}
use Rattle.fm_image.specs.Types.{field_with, fields_image, kind_number, needed_all, needed_among, needed_by, needed_in, same_fields, type_number, types_of, with_type}
use Rattle.fm_image.proofs.Needed.{FieldsFound, KindFound, in_found, number_less}
use Rattle.fm_compile_law.specs.Sized.{is_one_integer, holds_words, is_true_at, size_stands, sizes_stand}
use Rattle.fm_image_typed.specs.Typed.{FieldsAreTyped, HasType, HasWords, IsSize, TypesAreTyped}
use Rattle.fm_compile_law.proofs.PortTypes.{AreFine, FieldHas, FieldsHave, KindIsFine}

-- ---- sizes

-- which of these fields are those of integers alone
abbrev Told : List Bool → List FieldImage → Type 0
Told es fs = (i : ℕ) → is_true_at (slice_get es i) ≡ true → (f : FieldImage) × (slice_get fs i ≡ Some f) × IsSize f

told_nothing : Told [] []
told_nothing i e = absurd cc

one_size : (k : FieldKind) (n : ℕ) (bounds : List Bound) → is_one_integer k bounds ≡ true → IsSize (field_with k n bounds (sizing_place bounds))
one_size Integer n [] e = record { kind = refl; words = refl }
one_size Integer n (b ∷ bs) e = absurd cc
one_size Logical n bounds e = absurd cc
one_size (In p) n bounds e = absurd cc
one_size (Out p) n bounds e = absurd cc

told_more : (es : List Bool) (fs : List FieldImage) (b : Bool) (f : FieldImage) → length es ≡ length fs → (b ≡ true → IsSize f) → Told es fs → Told (es ++ b ∷ []) (fs ++ f ∷ [])
told_more [] [] b f long size told zero e = (f, refl, size e)
told_more [] [] b f long size told (suc i) e = absurd cc
told_more [] (g ∷ fs) b f long size told i e = absurd (omega (arith, long))
told_more (x ∷ es) [] b f long size told i e = absurd (omega (arith, long))
told_more (x ∷ es) (g ∷ fs) b f long size told zero e = told zero e
told_more (x ∷ es) (g ∷ fs) b f long size told (suc i) e = told_more es fs b f (omega (arith, long)) size (λ j h. told (suc j) h) i e

word_kind : (k : FieldKind) → holds_words k ≡ true → kind_number k ≤ 1
word_kind Integer e = omega arith
word_kind Logical e = omega arith
word_kind (In p) e = absurd cc
word_kind (Out p) e = absurd cc

both : (a b : Bool) → (a && b) ≡ true → (a ≡ true) × (b ≡ true)
both true b e = (refl, e)
both false b e = absurd cc

has_words : (es : List Bool) (fs : List FieldImage) (k : FieldKind) (n : ℕ) (bounds : List Bound) (o : Option ℕ) → Told es fs → size_stands es k o ≡ true → FieldHas o bounds → HasWords fs (field_with k n bounds o).size (field_with k n bounds o)
has_words es fs k n bounds None told stands has = has
has_words es fs k n bounds (Some i) told stands has =
    let h = both (holds_words k) (is_true_at (slice_get es i)) stands in
    let s = told i h.1 in
    record { size = s.0; there = s.1; fits = s.2; kind = word_kind k h.0; none = refl }

-- ---- a type behind those that it needs

has_type : (ts : List (List FieldImage)) (k : FieldKind) → KindFound ts k → HasType (kind_number k) (type_number ts k) (length ts)
has_type ts Integer h = refl
has_type ts Logical h = refl
has_type ts (In p) h = number_less ts (fields_image ts p) h.0
has_type ts (Out p) h = number_less ts (fields_image ts p) h.0

with_number : (ts : List (List FieldImage)) (k : FieldKind) (bounds : List Bound) (o : Option ℕ) → KindFound ts k → HasType (field_with k (type_number ts k) bounds o).kind (field_with k (type_number ts k) bounds o).of (length ts)
with_number ts k bounds None h = has_type ts k h
with_number ts k bounds (Some i) h = has_type ts k h

fields_typed : (ts : List (List FieldImage)) (es : List Bool) (fs : List FieldImage) (t : PortFields) → length es ≡ length fs → Told es fs → FieldsFound ts t → sizes_stand es t ≡ true → FieldsHave t → FieldsAreTyped (length ts) fs (fields_image ts t)
fields_typed ts es fs NoFields long told found stands have = tt
fields_typed ts es fs (FieldThen k name bounds rest) long told found stands have =
    let o = sizing_place bounds in
    let n = type_number ts k in
    let f = field_with k n bounds o in
    let b = is_one_integer k bounds in
    let h = both (size_stands es k o) (sizes_stand (es ++ b ∷ []) rest) stands in (
      record { type = with_number ts k bounds o found.0; words = has_words es fs k n bounds o told h.0 have.0 },
      fields_typed ts (es ++ b ∷ []) (fs ++ f ∷ []) rest (omega (arith, long, length-append es (b ∷ []), length-append fs (f ∷ []))) (told_more es fs b f long (λ e. one_size k n bounds e) told) found.1 h.1 have.1,
    )

types_last : (n : ℕ) (ts : List (List FieldImage)) (t : List FieldImage) → TypesAreTyped n ts → FieldsAreTyped (n + length ts) [] t → TypesAreTyped n (ts ++ t ∷ [])
types_last n [] t h f =
    let none : n + zero ≡ n = omega arith in
    (subst (λ (m : ℕ). FieldsAreTyped m [] t) none f, tt)
types_last n (x ∷ ts) t h f =
    let one : n + suc (length ts) ≡ suc n + length ts = omega arith in
    (h.0, types_last (suc n) ts t h.1 (subst (λ (m : ℕ). FieldsAreTyped m [] t) one f))

with_typed : (ts : List (List FieldImage)) (t : List FieldImage) → TypesAreTyped 0 ts → FieldsAreTyped (length ts) [] t → TypesAreTyped 0 (with_type ts t)
with_typed ts t h f = go (list_any (same_fields t) ts)
  where
    go : (b : Bool) → TypesAreTyped 0 (cond b ts (ts ++ t ∷ []))
    go true = h
    go false =
        let all : length ts ≡ 0 + length ts = omega arith in
        types_last 0 ts t h (subst (λ (m : ℕ). FieldsAreTyped m [] t) all f)

-- ---- all types

port_typed : (ts : List (List FieldImage)) (p : PortFields) → TypesAreTyped 0 ts → FieldsFound ts p → sizes_stand [] p ≡ true → FieldsHave p → TypesAreTyped 0 (with_type ts (fields_image ts p))
port_typed ts p h found stands have = with_typed ts (fields_image ts p) h (fields_typed ts [] [] p refl told_nothing found stands have)

mutual
  in_typed : (ts : List (List FieldImage)) (p : PortFields) → TypesAreTyped 0 ts → AreFine p → TypesAreTyped 0 (needed_in ts p)
  in_typed ts NoFields h fine = h
  in_typed ts (FieldThen k name bounds rest) h fine = in_typed (needed_by ts k) rest (by_typed ts k h fine.0) fine.1

  by_typed : (ts : List (List FieldImage)) (k : FieldKind) → TypesAreTyped 0 ts → KindIsFine k → TypesAreTyped 0 (needed_by ts k)
  by_typed ts Integer h fine = h
  by_typed ts Logical h fine = h
  by_typed ts (In p) h fine = port_typed (needed_in ts p) p (in_typed ts p h fine.1) (in_found ts p) fine.0.sizes fine.0.some
  by_typed ts (Out p) h fine = port_typed (needed_in ts p) p (in_typed ts p h fine.1) (in_found ts p) fine.0.sizes fine.0.some

-- of variables, and of units
abbrev pub AllFine : List Variable → Type 0
AllFine vs = AllIn (λ (v : Variable). KindIsFine (kind_of v.kind)) vs

among_typed : (ts : List (List FieldImage)) (vs : List Variable) → TypesAreTyped 0 ts → AllFine vs → TypesAreTyped 0 (needed_among ts vs)
among_typed ts [] h fine = h
among_typed ts (v ∷ vs) h fine = among_typed (needed_by ts (kind_of v.kind)) vs (by_typed ts (kind_of v.kind) h fine.0) fine.1

all_typed : (ts : List (List FieldImage)) (us : List UnitNames) → TypesAreTyped 0 ts → AllIn (λ (n : UnitNames). AllFine n.variables) us → TypesAreTyped 0 (needed_all ts us)
all_typed ts [] h fine = h
all_typed ts (u ∷ us) h fine = all_typed (needed_among ts u.variables) us (among_typed ts u.variables h fine.0) fine.1

pub image_types : (p : Program) → AllIn (λ (n : UnitNames). AllFine n.variables) p.names.units → TypesAreTyped 0 (types_of p)
image_types p fine = all_typed [] p.names.units tt fine
