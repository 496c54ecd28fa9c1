-- The type of each port of a program stands at its number.
use Rattle.std.proofs.Common.{◌≡◌, ℕ, zero, suc, ◌<◌, Option, Some, None, List, [], ◌∷◌, map, length, slice_get, refl, ap, subst, ◌∙◌}
use Rattle.std.specs.Option.{option_map}
use Rattle.std.proofs.lemmas.Option.{slice_get-map}
use Rattle.fm_tree.specs.PortFields.{PortFields, FieldKind, NoFields, FieldThen, Integer, Logical, In, Out}
use Rattle.fm_tree.specs.PortReading.{kind_of}
use Rattle.fm_tree.specs.declared.port_type.Bound.{Bound}
use Rattle.fm_symbols.specs.declared.names.UnitNames.{UnitNames}
use Rattle.fm_symbols.specs.declared.names.Variable.{Variable}
use Rattle.fm_rules.specs.PortTypes.{sizing_place}
use Rattle.fm_rules.specs.declared.program.Program.{Program}
use Rattle.fm_mean.specs.Fits.{elements_in}
use Rattle.fm_mean.specs.Names.{ProgramUnit, unit_at}
use Rattle.fm_mean.proofs.Sizes.{parts_of}
use Rattle.fm_code_kinds.specs.Shapes.{fields_in, fields_of}
use Rattle.fm_code_kinds.specs.declared.sorts.Field.{Field}
use Rattle.fm_object.specs.declared.image.FieldImage.{FieldImage}
use Rattle.fm_image_typed.specs.Shapes.{field_of, sort_of}
use Rattle.fm_image.specs.Types.{field_with, fields_image, kind_number, needed_all, needed_among, needed_by, number_in, type_number, types_of}
use Rattle.fm_image.proofs.Needed.{Has, KindFound, all_extends, among_extends, at_number, by_found, kind_stays, number_less}
use Rattle.fm_compile_law.specs.Types.{field_by, fields_by, sort_by}
use Rattle.fm_compile_law.specs.Units.{shapes_of}

-- ---- what is said of a type's fields

pub sorts_alike : (ts : List (List FieldImage)) (k : FieldKind) → sort_of (kind_number k) (type_number ts k) ≡ sort_by ts k
sorts_alike ts Integer = refl
sorts_alike ts Logical = refl
sorts_alike ts (In p) = refl
sorts_alike ts (Out p) = refl

field_alike : (ts : List (List FieldImage)) (k : FieldKind) (bounds : List Bound) (o : Option ℕ) → field_of (field_with k (type_number ts k) bounds o) ≡ field_by ts k bounds o
field_alike ts k bounds None = λ i. record { sort = sorts_alike ts k i; words = elements_in bounds; size = 0 }
field_alike ts k bounds (Some place) = λ i. record { sort = sorts_alike ts k i; words = 0; size = suc place }

fields_alike : (ts : List (List FieldImage)) (t : PortFields) → map field_of (fields_image ts t) ≡ fields_by ts t
fields_alike ts NoFields = refl
fields_alike ts (FieldThen k name bounds rest) = λ i. field_alike ts k bounds (sizing_place bounds) i ∷ fields_alike ts rest i

-- ---- the type of each variable is there

-- the type of a port
abbrev pub IsOf : FieldKind → PortFields → Type 0
IsOf Integer t = ⊥
IsOf Logical t = ⊥
IsOf (In p) t = p ≡ t
IsOf (Out p) t = p ≡ t

has_of : (ts : List (List FieldImage)) (k : FieldKind) (t : PortFields) → IsOf k t → KindFound ts k → Has ts (fields_image ts t)
has_of ts Integer t is h = absurd is
has_of ts Logical t is h = absurd is
has_of ts (In p) t is h = subst (λ (x : PortFields). Has ts (fields_image ts x)) is h.0
has_of ts (Out p) t is h = subst (λ (x : PortFields). Has ts (fields_image ts x)) is h.0

among_found : (ts : List (List FieldImage)) (vs : List Variable) (i : ℕ) (v : Variable) → slice_get vs i ≡ Some v → KindFound (needed_among ts vs) (kind_of v.kind)
among_found ts [] i v at = absurd cc
among_found ts (w ∷ vs) zero v at =
    let now = needed_by ts (kind_of w.kind) in
    let there = kind_stays now (needed_among now vs) (kind_of w.kind) (among_extends now vs) (by_found ts (kind_of w.kind)) in
    subst (λ (x : Variable). KindFound (needed_among now vs) (kind_of x.kind)) (the_variable w v at) there.1
  where
    the_variable : (a b : Variable) → Some a ≡ Some b → a ≡ b
    the_variable a b e = cc
among_found ts (w ∷ vs) (suc i) v at = among_found (needed_by ts (kind_of w.kind)) vs i v at

all_found : (ts : List (List FieldImage)) (us : List UnitNames) (k : ℕ) (u : UnitNames) (i : ℕ) (v : Variable) → slice_get us k ≡ Some u → slice_get u.variables i ≡ Some v → KindFound (needed_all ts us) (kind_of v.kind)
all_found ts [] k u i v here at = absurd cc
all_found ts (w ∷ us) zero u i v here at =
    let now = needed_among ts w.variables in
    let there : slice_get w.variables i ≡ Some v = ap (λ (x : UnitNames). slice_get x.variables i) (the_names w u here) ∙ at in
    (kind_stays now (needed_all now us) (kind_of v.kind) (all_extends now us) (among_found ts w.variables i v there)).1
  where
    the_names : (a b : UnitNames) → Some a ≡ Some b → a ≡ b
    the_names a b e = cc
all_found ts (w ∷ us) (suc k) u i v here at = all_found (needed_among ts w.variables) us k u i v here at

has_type : (p : Program) (number : ℕ) (u : ProgramUnit) → unit_at p number ≡ Some u → (i : ℕ) (v : Variable) → slice_get u.names.variables i ≡ Some v → (t : PortFields) → IsOf (kind_of v.kind) t → Has (types_of p) (fields_image (types_of p) t)
has_type p number u here i v at t is = has_of (types_of p) (kind_of v.kind) t is (all_found [] p.names.units number u.names i v (parts_of p number u here).1 at)

-- the fields of the type with this number are those of the type
pub fields_there : (p : Program) (number : ℕ) (u : ProgramUnit) → unit_at p number ≡ Some u → (i : ℕ) (v : Variable) → slice_get u.names.variables i ≡ Some v → (t : PortFields) → IsOf (kind_of v.kind) t
    → fields_of (shapes_of p) (number_in (types_of p) t) ≡ fields_by (types_of p) t
fields_there p number u here i v at t is =
    let ts = types_of p in
    let has = has_type p number u here i v at t is in
    let fields : List FieldImage → List Field = λ fs. map field_of fs in
    ap fields_in (slice_get-map fields ts (number_in ts t) ∙ ap (option_map fields) (at_number ts (fields_image ts t) has)) ∙ fields_alike ts t

-- and there is one
pub number_there : (p : Program) (number : ℕ) (u : ProgramUnit) → unit_at p number ≡ Some u → (i : ℕ) (v : Variable) → slice_get u.names.variables i ≡ Some v → (t : PortFields) → IsOf (kind_of v.kind) t → number_in (types_of p) t < length (types_of p)
number_there p number u here i v at t is = number_less (types_of p) (fields_image (types_of p) t) (has_type p number u here i v at t is)
