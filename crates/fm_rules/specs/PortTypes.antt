-- The types of ports with their bounds worked out.
-- Source: the Fortran M report (types of ports, message arrays whose size an earlier field gives). Two types are equal where
-- their fields agree in kind, in being scalars, arrays or sized by an earlier field, in number of elements, and in the place of
-- the field that gives the size (this profile).
use Rattle.std.specs.Prelude.{ℕ, ◌+◌, pos, true, Option, Some, None, option_and_then, List, [], ◌∷◌}
use Rattle.fm_tree.specs.Tree.{Tree, Number, Truth, Named, Ref, Paren, Signed, Not, Binary}
use Rattle.fm_tree.specs.PortFields.{PortFields, FieldKind, NoFields, FieldThen, Integer, Logical, In, Out}
use Rattle.fm_tree.specs.PortReading.{kind_of}
use Rattle.fm_tree.specs.declared.port_type.Bound.{Bound}
use Rattle.fm_tree.specs.declared.port_type.Field.{Field}
use Rattle.fm_tree.specs.declared.port_type.Kind.{Kind}
use Rattle.fm_tree.specs.declared.port_type.Kind.TheVariants as kind
use Rattle.fm_values.specs.Trips.{natural}
use Rattle.fm_symbols.specs.ByName.{ByName}
use Rattle.fm_rules.specs.declared.constants.Known.{Known}
use Rattle.fm_rules.specs.Bounds.{elements}
use Rattle.fm_rules.specs.SizedFields.{Sizes, size_given, sized_by}

-- an array of n elements
abbrev pub counted_bound : ℕ → Bound
counted_bound n = record { low = None; high = Number (pos n) }

-- an array that the field at a place sizes: it has a lower part, which no other array in a normal type has
abbrev pub sized_bound : (at : ℕ) → Bound
sized_bound at = record { low = Some (Number (pos at)); high = Truth true }

abbrev pub place_in : Tree → Option ℕ
place_in (Number n) = Some (natural n)
place_in (Truth b) = None
place_in (Named name) = None
place_in (Ref name args) = None
place_in (Paren e) = None
place_in (Signed op e) = None
place_in (Not e) = None
place_in (Binary op a b) = None

-- the place of the field that sizes an array of a normal type, where one does
abbrev pub sizing_place : List Bound → Option ℕ
sizing_place [] = None
sizing_place (b ∷ bs) = option_and_then place_in b.low

abbrev pub counted_bounds : ByName Known → (place : ℕ) → List Bound → List Bound
counted_bounds known place [] = []
counted_bounds known place (b ∷ bs) = counted_bound (elements known place (b ∷ bs)) ∷ []

abbrev pub normal_bounds : ByName Known → (place : ℕ) → (size : Option ℕ) → List Bound → List Bound
normal_bounds known place None bounds = counted_bounds known place bounds
normal_bounds known place (Some at) bounds = sized_bound at ∷ []

-- the type without names, each array by its number of elements alone, or by the place of the field that sizes it: equal types
-- are equal values
abbrev mutual
  pub normal_fields : ByName Known → (place : ℕ) → Sizes → PortFields → PortFields
  normal_fields known place earlier NoFields = NoFields
  normal_fields known place earlier (FieldThen kind name bounds rest) =
      FieldThen (normal_kind known place kind) None (normal_bounds known place (sized_by earlier kind bounds) bounds)
      (normal_fields known place (size_given kind name bounds ∷ earlier) rest)

  pub normal_kind : ByName Known → (place : ℕ) → FieldKind → FieldKind
  normal_kind known place Integer = Integer
  normal_kind known place Logical = Logical
  normal_kind known place (In fields) = In (normal_fields known place [] fields)
  normal_kind known place (Out fields) = Out (normal_fields known place [] fields)

abbrev pub normal_type : ByName Known → (place : ℕ) → PortFields → PortFields
normal_type known place fields = normal_fields known place [] fields

-- the same of a field, and of its kind, in memory
abbrev pub normal_field_kind : ByName Known → (place : ℕ) → Kind → Kind
normal_field_kind known place kind.Integer = kind.Integer
normal_field_kind known place kind.Logical = kind.Logical
normal_field_kind known place (kind.In p) = kind.In (normal_type known place p)
normal_field_kind known place (kind.Out p) = kind.Out (normal_type known place p)

abbrev pub normal_field : ByName Known → (place : ℕ) → Sizes → Field → Field
normal_field known place earlier f = record {
  kind = normal_field_kind known place f.kind;
  name = None;
  bounds = normal_bounds known place (sized_by earlier (kind_of f.kind) f.bounds) f.bounds;
}

-- the words of a field: a port counts one word, an array that an earlier field sizes none
abbrev pub field_words : ByName Known → (place : ℕ) → (size : Option ℕ) → List Bound → ℕ
field_words known place None bounds = elements known place bounds
field_words known place (Some at) bounds = 0

-- the words of a message behind these fields
abbrev pub words_behind : ByName Known → (place : ℕ) → Sizes → PortFields → ℕ
words_behind known place earlier NoFields = 0
words_behind known place earlier (FieldThen kind name bounds rest) =
    field_words known place (sized_by earlier kind bounds) bounds + words_behind known place (size_given kind name bounds ∷ earlier) rest

-- the words of a message
abbrev pub message_words : ByName Known → (place : ℕ) → PortFields → ℕ
message_words known place fields = words_behind known place [] fields
