-- The types of the ports of a program, each once and with a number, from 0: in order of first need over the units, their
-- variables and the fields of types, each type behind those that its fields need. Two types are one where the same is said of
-- their fields.
-- Source: the Fortran M report (typed ports and channels, message arrays whose size an earlier field gives); the order and the
-- numbers by this profile.
use Rattle.std.specs.Prelude.{ℕ, suc, ◌==◌, ◌&&◌, Bool, cond, Option, Some, None, List, [], ◌∷◌, ◌++◌}
use Rattle.std.specs.List.{list_any}
use Rattle.std.specs.Cmp.Lexicographic.{pointwise}
use Rattle.fm_tree.specs.PortFields.{PortFields, FieldKind, NoFields, FieldThen, Integer, Logical, In, Out}
use Rattle.fm_tree.specs.PortReading.{kind_of}
use Rattle.fm_tree.specs.declared.port_type.Bound.{Bound}
use Rattle.fm_symbols.specs.declared.names.UnitNames.{UnitNames}
use Rattle.fm_symbols.specs.declared.names.Variable.{Variable}
use Rattle.fm_rules.specs.PortTypes.{sizing_place}
use Rattle.fm_rules.specs.declared.program.Program.{Program}
use Rattle.fm_mean.specs.Fits.{elements_in}
use Rattle.fm_object.specs.declared.image.FieldImage.{FieldImage}

-- ---- types by what is said of their fields

abbrev pub same_field : FieldImage → FieldImage → Bool
same_field a b = (a.kind == b.kind) && ((a.of == b.of) && ((a.words == b.words) && (a.size == b.size)))

abbrev pub same_fields : List FieldImage → List FieldImage → Bool
same_fields a b = pointwise same_field a b

-- the number of a type among these
abbrev pub number_of : List (List FieldImage) → List FieldImage → ℕ
number_of [] fs = 0
number_of (t ∷ ts) fs = cond (same_fields fs t) 0 (suc (number_of ts fs))

-- these, and behind them a type that isn't among them
abbrev pub with_type : List (List FieldImage) → List FieldImage → List (List FieldImage)
with_type ts fs = cond (list_any (same_fields fs) ts) ts (ts ++ fs ∷ [])

-- ---- what is said of a field, where these types are there

abbrev pub kind_number : FieldKind → ℕ
kind_number Integer = 0
kind_number Logical = 1
kind_number (In p) = 2
kind_number (Out p) = 3

-- a field that an earlier one sizes has no words of its own
abbrev pub field_with : FieldKind → (type : ℕ) → List Bound → (size : Option ℕ) → FieldImage
field_with k n bounds None = record { kind = kind_number k; of = n; words = elements_in bounds; size = 0 }
field_with k n bounds (Some place) = record { kind = kind_number k; of = n; words = 0; size = suc place }

abbrev mutual
  pub fields_image : List (List FieldImage) → PortFields → List FieldImage
  fields_image ts NoFields = []
  fields_image ts (FieldThen k name bounds rest) = field_with k (type_number ts k) bounds (sizing_place bounds) ∷ fields_image ts rest

  -- the number of the type of a port; 0 of what is none
  pub type_number : List (List FieldImage) → FieldKind → ℕ
  type_number ts Integer = 0
  type_number ts Logical = 0
  type_number ts (In p) = number_of ts (fields_image ts p)
  type_number ts (Out p) = number_of ts (fields_image ts p)

-- the number of a type
abbrev pub number_in : List (List FieldImage) → PortFields → ℕ
number_in ts p = number_of ts (fields_image ts p)

-- ---- the types that are needed, behind those that are there

abbrev mutual
  pub needed_in : List (List FieldImage) → PortFields → List (List FieldImage)
  needed_in ts NoFields = ts
  needed_in ts (FieldThen k name bounds rest) = needed_in (needed_by ts k) rest

  pub needed_by : List (List FieldImage) → FieldKind → List (List FieldImage)
  needed_by ts Integer = ts
  needed_by ts Logical = ts
  needed_by ts (In p) = with_type (needed_in ts p) (fields_image (needed_in ts p) p)
  needed_by ts (Out p) = with_type (needed_in ts p) (fields_image (needed_in ts p) p)

abbrev pub needed_among : List (List FieldImage) → List Variable → List (List FieldImage)
needed_among ts [] = ts
needed_among ts (v ∷ vs) = needed_among (needed_by ts (kind_of v.kind)) vs

abbrev pub needed_all : List (List FieldImage) → List UnitNames → List (List FieldImage)
needed_all ts [] = ts
needed_all ts (u ∷ us) = needed_all (needed_among ts u.variables) us

abbrev pub types_of : Program → List (List FieldImage)
types_of p = needed_all [] p.names.units
