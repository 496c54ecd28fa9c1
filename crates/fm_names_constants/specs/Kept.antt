-- Numbers of elements as they stand in memory. A rule compares them with 65,536 at most, so greater ones needn't be told apart;
-- where no rule on bounds and messages is broken, there are none.
-- Source: this profile.
use Rattle.std.specs.Prelude.{ℕ, min, pos, List, map}
use Rattle.fm_values.specs.Trips.{natural}
use Rattle.fm_tree.specs.Tree.{Tree, Number, Truth, Named, Ref, Paren, Signed, Not, Binary}
use Rattle.fm_tree.specs.PortFields.{PortFields, FieldKind, NoFields, FieldThen, Integer, Logical, In, Out}
use Rattle.fm_tree.specs.declared.port_type.Bound.{Bound}
use Rattle.fm_tree.specs.declared.port_type.Field.{Field}
use Rattle.fm_tree.specs.declared.port_type.Kind.{Kind}
use Rattle.fm_tree.specs.declared.port_type.Kind.TheVariants as kind
use Rattle.fm_rules.specs.declared.constants.Shape.{Shape}

-- a number as it is kept: itself, or 65,537 where it is greater
abbrev pub kept : ℕ → ℕ
kept n = min n 65537

abbrev pub kept_shape : Shape → Shape
kept_shape s = record { dimensions = s.dimensions; known = s.known; inverted = s.inverted; elements = kept s.elements }

-- Types of ports with their bounds worked out, in which an array has its number of elements as its upper bound.

abbrev pub kept_high : Tree → Tree
kept_high (Number n) = Number (pos (kept (natural n)))
kept_high (Truth b) = Truth b
kept_high (Named name) = Named name
kept_high (Ref name args) = Ref name args
kept_high (Paren e) = Paren e
kept_high (Signed op e) = Signed op e
kept_high (Not e) = Not e
kept_high (Binary op a b) = Binary op a b

abbrev pub kept_bound : Bound → Bound
kept_bound b = record { low = b.low; high = kept_high b.high }

abbrev pub kept_bounds : List Bound → List Bound
kept_bounds bounds = map kept_bound bounds

abbrev mutual
  pub kept_type : PortFields → PortFields
  kept_type NoFields = NoFields
  kept_type (FieldThen kind name bounds rest) = FieldThen (kept_kind kind) name (kept_bounds bounds) (kept_type rest)

  pub kept_kind : FieldKind → FieldKind
  kept_kind Integer = Integer
  kept_kind Logical = Logical
  kept_kind (In fields) = In (kept_type fields)
  kept_kind (Out fields) = Out (kept_type fields)

-- the same of a kind, and of a field, in memory
abbrev pub kept_field_kind : Kind → Kind
kept_field_kind kind.Integer = kind.Integer
kept_field_kind kind.Logical = kind.Logical
kept_field_kind (kind.In p) = kind.In (kept_type p)
kept_field_kind (kind.Out p) = kind.Out (kept_type p)

abbrev pub kept_field : Field → Field
kept_field f = record { kind = kept_field_kind f.kind; name = f.name; bounds = kept_bounds f.bounds }
