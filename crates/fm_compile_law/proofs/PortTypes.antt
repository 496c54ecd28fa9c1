-- In the types of the ports of a checked program each field has an element, or an earlier field tells how many; so it is with the
-- types that stand in them.
use Rattle.std.proofs.Common.{◌≡◌, ℕ, zero, suc, ◌*◌, ◌<◌, ◌≤◌, ◌||◌, ℤ, pos, negsuc, true, false, not, Option, Some, None, List, [], ◌∷◌, ◌++◌, map, slice_get, refl, arith, suc-mul}
use Rattle.std.specs.Prelude.{is_some, int_lt, nat_lt, unsigned_abs, ◌+ℤ◌, ◌-ℤ◌, ◌≤ℤ◌}
use Rattle.std.proofs.lemmas.Int.{ints}
use Rattle.fm_values.specs.Trips.{natural}
use Rattle.fm_values.specs.Places.{Bounds, extent, size}
use Rattle.std.specs.Coded.{Unit-prop, le_prop}
use Rattle.std.specs.List.{list_any}
use Rattle.std.proofs.Math.Bool.{Bool-set}
use Rattle.fm_base.specs.Verdict.{place, when}
use Rattle.fm_base.specs.declared.rule.Rule.TheVariants.{E32, E33}
use Rattle.fm_tree.specs.PortFields.{PortFields, FieldKind, NoFields, FieldThen, Integer, Logical, In, Out}
use Rattle.fm_tree.specs.PortReading.{kind_of}
use Rattle.fm_tree.specs.declared.port_type.Bound.{Bound}
use Rattle.fm_symbols.specs.ByName.{ByName}
use Rattle.fm_symbols.specs.declared.names.Variable.{Variable}
use Rattle.fm_rules.specs.Bounds.{Dimension, all_known, count, dimension_of, is_inverted, shape_of, then_known}
use Rattle.fm_rules.specs.BrokenConstants.{broken_extent, broken_fields, broken_kind, is_bad, long_message}
use Rattle.fm_rules.specs.PortTypes.{normal_bounds, normal_fields, normal_kind, normal_type, sizing_place}
use Rattle.fm_rules.specs.SizedFields.{Sizes, size_given, sized_by}
use Rattle.fm_rules.specs.declared.constants.Known.{Known}
use Rattle.fm_rules.specs.declared.program.Program.{Program}
use Rattle.fm_mean.specs.Fits.{elements_in}
use Rattle.fm_mean.specs.Names.{ProgramUnit, unit_at}
use Rattle.fm_mean.proofs.Unbroken.{left_empty, right_empty, not_when, or_left, or_right}
use Rattle.fm_compile_law.specs.Sized.{sizes_stand}
use Rattle.fm_compile_law.proofs.Declared.{variable_holds}
use Rattle.fm_compile_law.proofs.SizedTypes.{normal_sized}

-- ---- bounds

natural_next : (z : ℤ) → pos 0 ≤ℤ z → natural (z +ℤ pos 1) ≡ suc (unsigned_abs z)
natural_next (pos n) h = omega arith
natural_next (negsuc n) h = absurd (omega (arith, ints, h))

extent_some : (b : ℤ × ℤ) → int_lt b.1 b.0 ≡ false → 0 < extent b
extent_some b e =
    let up : b.0 ≤ℤ b.1 = grind (arith, ints) in
    omega (arith, natural_next (b.1 -ℤ b.0) (omega (arith, ints, up)))

times : (a b : ℕ) → 0 < a → 0 < b → 0 < a * b
times zero b p q = absurd (omega (arith, p))
times (suc a) b p q = omega (arith, q, suc-mul a b)

elements_some : (ds : List Dimension) → list_any is_inverted ds ≡ false → not (is_some (all_known ds)) ≡ false → 0 < count (all_known ds)
elements_some [] e known = omega arith
elements_some (None ∷ ds) e known = absurd (cc)
elements_some (Some b ∷ ds) e known = go (all_known ds) (elements_some ds (or_right (is_inverted (Some b)) (list_any is_inverted ds) e)) known
  where
    go : (o : Option Bounds) → (not (is_some o) ≡ false → 0 < count o) → not (is_some (then_known (Some b) o)) ≡ false → 0 < count (then_known (Some b) o)
    go None rest k = absurd (cc)
    go (Some bs) rest k = times (extent b) (size bs) (extent_some b (or_left (is_inverted (Some b)) (list_any is_inverted ds) e)) (rest refl)

-- ---- fields

abbrev pub FieldHas : (size : Option ℕ) → List Bound → Type 0
FieldHas None bounds = 1 ≤ elements_in bounds
FieldHas (Some place) bounds = Unit {0}

abbrev pub FieldsHave : PortFields → Type 0
FieldsHave NoFields = Unit {0}
FieldsHave (FieldThen k name bounds rest) = FieldHas (sizing_place bounds) bounds × FieldsHave rest

pub record IsFine (t : PortFields) : Type 0 where
  pub sizes : sizes_stand [] t ≡ true
  pub some : FieldsHave t

-- each type in these fields is fine, and those in it
abbrev mutual
  pub AreFine : PortFields → Type 0
  AreFine NoFields = Unit {0}
  AreFine (FieldThen k name bounds rest) = KindIsFine k × AreFine rest

  pub KindIsFine : FieldKind → Type 0
  KindIsFine Integer = Unit {0}
  KindIsFine Logical = Unit {0}
  KindIsFine (In t) = IsFine t × AreFine t
  KindIsFine (Out t) = IsFine t × AreFine t

-- ---- these are propositions

has_prop : (o : Option ℕ) (bounds : List Bound) → IsProp (FieldHas o bounds)
has_prop None bounds = le_prop
has_prop (Some place) bounds = Unit-prop

have_prop : (t : PortFields) → IsProp (FieldsHave t)
have_prop NoFields = Unit-prop
have_prop (FieldThen k name bounds rest) = hlevel (has_prop (sizing_place bounds) bounds, have_prop rest)

fine_prop : (t : PortFields) → IsProp (IsFine t)
fine_prop t = hlevel (Bool-set, have_prop t)

mutual
  are_prop : (t : PortFields) → IsProp (AreFine t)
  are_prop NoFields = Unit-prop
  are_prop (FieldThen k name bounds rest) = hlevel (kind_prop k, are_prop rest)

  kind_prop : (k : FieldKind) → IsProp (KindIsFine k)
  kind_prop Integer = Unit-prop
  kind_prop Logical = Unit-prop
  kind_prop (In t) = hlevel (fine_prop t, are_prop t)
  kind_prop (Out t) = hlevel (fine_prop t, are_prop t)

-- ---- of types that are declared

module _ (known : ByName Known) (at line : ℕ) where
  extent_has : (o : Option ℕ) (bounds : List Bound) → broken_extent known at line o bounds ≡ [] → FieldHas (sizing_place (normal_bounds known at o bounds)) (normal_bounds known at o bounds)
  extent_has None [] e = omega arith
  extent_has None (b ∷ bs) e =
      let s = shape_of known at (b ∷ bs) in
      let bad = when (is_bad 7 s) (place line E32) in
      let unknown = when (not s.known) (place line E33) in
      let fine = not_when (is_bad 7 s) (place line E32) (left_empty bad unknown e) in
      let is = not_when (not s.known) (place line E33) (right_empty bad unknown e) in
      let straight = or_left s.inverted (nat_lt 65536 s.elements) (or_right (nat_lt 7 s.dimensions) (s.inverted || nat_lt 65536 s.elements) fine) in
      let some = elements_some (map (dimension_of known at) (b ∷ bs)) straight is in
      omega (arith, some)
  extent_has (Some i) bounds e = tt

  fields_have : (earlier : Sizes) (t : PortFields) → broken_fields known at line earlier t ≡ [] → FieldsHave (normal_fields known at earlier t)
  fields_have earlier NoFields e = tt
  fields_have earlier (FieldThen k name bounds rest) e =
      let one = broken_extent known at line (sized_by earlier k bounds) bounds in
      let kinds = broken_kind known at line k in
      let more = broken_fields known at line (size_given k name bounds ∷ earlier) rest in
      (extent_has (sized_by earlier k bounds) bounds (left_empty one kinds (left_empty (one ++ kinds) more e)), fields_have (size_given k name bounds ∷ earlier) rest (right_empty (one ++ kinds) more e))

  fine : (t : PortFields) → broken_fields known at line [] t ≡ [] → IsFine (normal_type known at t)
  fine t e = record { sizes = normal_sized known at t; some = fields_have [] t e }

  mutual
    are_fine : (earlier : Sizes) (t : PortFields) → broken_fields known at line earlier t ≡ [] → AreFine (normal_fields known at earlier t)
    are_fine earlier NoFields e = tt
    are_fine earlier (FieldThen k name bounds rest) e =
        let one = broken_extent known at line (sized_by earlier k bounds) bounds in
        let kinds = broken_kind known at line k in
        let more = broken_fields known at line (size_given k name bounds ∷ earlier) rest in
        (kind_fine k (right_empty one kinds (left_empty (one ++ kinds) more e)), are_fine (size_given k name bounds ∷ earlier) rest (right_empty (one ++ kinds) more e))

    kind_fine : (k : FieldKind) → broken_kind known at line k ≡ [] → KindIsFine (normal_kind known at k)
    kind_fine Integer e = tt
    kind_fine Logical e = tt
    kind_fine (In t) e = let f = right_empty (long_message known at line t) (broken_fields known at line [] t) e in (fine t f, are_fine [] t f)
    kind_fine (Out t) e = let f = right_empty (long_message known at line t) (broken_fields known at line [] t) e in (fine t f, are_fine [] t f)

-- ---- of variables

pub variable_fine : (p : Program) (n : ℕ) (u : ProgramUnit) (i : ℕ) (v : Variable) → unit_at p n ≡ Some u → slice_get u.names.variables i ≡ Some v → KindIsFine (kind_of v.kind)
variable_fine p n u i v is there =
    variable_holds KindIsFine tt tt
    (λ known at line t e. let f = right_empty (long_message known at line t) (broken_fields known at line [] t) e in ((fine known at line t f, are_fine known at line [] t f), (fine known at line t f, are_fine known at line [] t f)))
    kind_prop p n u i v is there
