-- What is broken in constants, bounds and the types of messages.
-- Source: ANSI X3.9-1978, sections 5.1.1 (bounds, dimensions) and 8.6 (constants and their types); the Fortran M report for
-- PROCESSORS. The greatest numbers of elements, extents and words are this profile's.
use Rattle.std.specs.Prelude.{ℕ, ◌+◌, nat_lt, not, ◌||◌, Bool, true, false, Option, Some, None, List, [], ◌∷◌, ◌++◌}
use Rattle.std.specs.List.{flat_map}
use Rattle.fm_base.specs.declared.rule.Refusal.{Refusal}
use Rattle.fm_base.specs.declared.rule.Rule.TheVariants.{E32, E33, E34}
use Rattle.fm_base.specs.Verdict as verdict
use Rattle.fm_base.specs.Verdict.{when}
use Rattle.fm_tree.specs.Tree.{Tree}
use Rattle.fm_tree.specs.PortFields.{PortFields, FieldKind, NoFields, FieldThen, Integer, Logical, In, Out}
use Rattle.fm_tree.specs.PortReading.{kind_of}
use Rattle.fm_tree.specs.declared.port_type.Bound.{Bound}
use Rattle.fm_tree.specs.declared.port_type.Field.{Field}
use Rattle.fm_tree.specs.declared.program_unit.Placed.{Placed}
use Rattle.fm_tree.specs.declared.statement.Decl.{Decl}
use Rattle.fm_tree.specs.declared.statement.Defined.{Defined}
use Rattle.fm_symbols.specs.ByName.{ByName}
use Rattle.fm_symbols.specs.declared.names.Constant.{Constant}
use Rattle.fm_symbols.specs.declared.symbol.Scalar.{Scalar}
use Rattle.fm_rules.specs.declared.constants.Shape.{Shape}
use Rattle.fm_rules.specs.declared.constants.Known.{Known}
use Rattle.fm_rules.specs.declared.constants.Types.{Types}
use Rattle.fm_rules.specs.ConstantParts.{decls_of, port_type_in, definitions_in, machine_in}
use Rattle.fm_rules.specs.ConstantValues.{value_of}
use Rattle.fm_rules.specs.Constants.{constants_of}
use Rattle.fm_rules.specs.NameTypes.{types_of, scalar_of_name, is_of}
use Rattle.fm_rules.specs.Bounds.{shape_of, machine_shape}
use Rattle.fm_rules.specs.PortTypes.{message_words}
use Rattle.fm_rules.specs.SizedFields.{Sizes, size_given, sized_by}

-- bad bounds: too many dimensions, an upper bound under its lower, or over 65,536 elements
abbrev pub is_bad : (limit : ℕ) → Shape → Bool
is_bad limit s = nat_lt limit s.dimensions || (s.inverted || nat_lt 65536 s.elements)

-- an array has 7 dimensions at most, and a machine 3
abbrev pub most_dimensions : ℕ
most_dimensions = 7

abbrev pub most_extents : ℕ
most_extents = 3

-- no constant: no value, or one of another type. That a name has no type at all is another rule's
abbrev pub is_no_constant : Option Scalar → Option Constant → Bool
is_no_constant s None = true
is_no_constant None (Some c) = false
is_no_constant (Some s) (Some c) = not (is_of s c)

-- too many words in a message
abbrev pub is_long : ByName Known → (at : ℕ) → PortFields → Bool
is_long known at p = nat_lt 65536 (message_words known at p)

-- The places, with their lines.

abbrev pub broken_shape : (limit line : ℕ) → Shape → List Refusal
broken_shape limit line s = when (is_bad limit s) (verdict.place line E32) ++ when (not s.known) (verdict.place line E33)

abbrev pub broken_bounds : ByName Known → (at line : ℕ) → List Bound → List Refusal
broken_bounds known at line bounds = broken_shape most_dimensions line (shape_of known at bounds)

abbrev pub broken_decl : ByName Known → (at line : ℕ) → Decl → List Refusal
broken_decl known at line d = broken_bounds known at line d.bounds

abbrev pub broken_decls : ByName Known → (at line : ℕ) → List Decl → List Refusal
broken_decls known at line decls = flat_map (broken_decl known at line) decls

abbrev pub broken_machine : ByName Known → (at line : ℕ) → List Tree → List Refusal
broken_machine known at line extents = broken_shape most_extents line (machine_shape known at extents)

abbrev pub broken_definition : ByName Known → Types → (at line item : ℕ) → Defined → List Refusal
broken_definition known types at line item d =
    when (is_no_constant (scalar_of_name types d.name) (value_of known at item d.value)) (verdict.place line E33)

abbrev pub broken_definitions : ByName Known → Types → (at line item : ℕ) → List Defined → List Refusal
broken_definitions known types at line item [] = []
broken_definitions known types at line item (d ∷ ds) =
    broken_definition known types at line item d ++ broken_definitions known types at line (item + 1) ds

abbrev pub long_message : ByName Known → (at line : ℕ) → PortFields → List Refusal
long_message known at line p = when (is_long known at p) (verdict.place line E34)

-- the bounds of a field: the bound of one that an earlier field sizes needs no constant
abbrev pub broken_extent : ByName Known → (at line : ℕ) → (size : Option ℕ) → List Bound → List Refusal
broken_extent known at line None bounds = broken_bounds known at line bounds
broken_extent known at line (Some place) bounds = []

-- the fields of a message behind these, and those of the messages of its ports
abbrev mutual
  pub broken_fields : ByName Known → (at line : ℕ) → Sizes → PortFields → List Refusal
  broken_fields known at line earlier NoFields = []
  broken_fields known at line earlier (FieldThen kind name bounds rest) =
      (broken_extent known at line (sized_by earlier kind bounds) bounds ++ broken_kind known at line kind)
      ++ broken_fields known at line (size_given kind name bounds ∷ earlier) rest

  pub broken_kind : ByName Known → (at line : ℕ) → FieldKind → List Refusal
  broken_kind known at line Integer = []
  broken_kind known at line Logical = []
  broken_kind known at line (In fields) = long_message known at line fields ++ broken_fields known at line [] fields
  broken_kind known at line (Out fields) = long_message known at line fields ++ broken_fields known at line [] fields

-- of one field in memory
abbrev pub broken_field : ByName Known → (at line : ℕ) → Sizes → Field → List Refusal
broken_field known at line earlier f =
    broken_extent known at line (sized_by earlier (kind_of f.kind) f.bounds) f.bounds ++ broken_kind known at line (kind_of f.kind)

abbrev pub broken_type : ByName Known → (at line : ℕ) → PortFields → List Refusal
broken_type known at line p = long_message known at line p ++ broken_fields known at line [] p

abbrev pub broken_message : ByName Known → (at line : ℕ) → Option PortFields → List Refusal
broken_message known at line None = []
broken_message known at line (Some p) = broken_type known at line p

abbrev pub broken_statement : ByName Known → Types → (at : ℕ) → Placed → List Refusal
broken_statement known types at p =
    broken_decls known at p.line.0 (decls_of p.stmt)
    ++ broken_message known at p.line.0 (port_type_in p.stmt)
    ++ broken_definitions known types at p.line.0 0 (definitions_in p.stmt)
    ++ broken_machine known at p.line.0 (machine_in p.stmt)

abbrev pub broken_from : ByName Known → Types → (at : ℕ) → List Placed → List Refusal
broken_from known types at [] = []
broken_from known types at (p ∷ ps) = broken_statement known types at p ++ broken_from known types (at + 1) ps

-- the places of bad bounds, of what is no constant, and of messages with too many words in the specification statements of a unit
abbrev pub broken_constants : List Placed → List Refusal
broken_constants specs = broken_from (constants_of specs) (types_of specs) 0 specs
