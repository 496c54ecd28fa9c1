-- When ports are alike, and what fits a field of a message.
-- Two types of ports are the same where their fields agree in kind, in being arrays, in their numbers of elements, and in the
-- places of the fields that size them. The types of variables are normalised: no field has a name, and a field that is an array
-- has its number of elements as its one bound, or the place of the field that sizes it. So the same types are equal values.
-- Source: the Fortran M report (port variables, SEND and RECEIVE); this profile.
use Rattle.std.specs.Prelude.{ℕ, ℤ, pos, nat_eq, not, ◌&&◌, ◌||◌, Bool, true, false, Option, Some, None, is_some, List, [], ◌∷◌, slice_get}
use Rattle.std.specs.Option.{option_eq}
use Rattle.std.specs.Ordering.{int_eq}
use Rattle.fm_tree.specs.Tree.{Tree, Number, Truth, Named, Ref, Paren, Signed, Not, Binary}
use Rattle.fm_tree.specs.PortFields.{PortFields, FieldKind, NoFields, FieldThen, Integer, Logical, In, Out}
use Rattle.fm_tree.specs.PortReading.{kind_of}
use Rattle.fm_tree.specs.Same.{same_fields, same_kind}
use Rattle.fm_tree.specs.declared.port_type.Bound.{Bound}
use Rattle.fm_tree.specs.declared.port_type.Kind.{Kind}
use Rattle.fm_tree.specs.declared.port_type.Kind.TheVariants as kind
use Rattle.fm_symbols.specs.declared.names.Variable.{Variable}
use Rattle.fm_symbols.specs.declared.names.UnitNames.{UnitNames}
use Rattle.fm_symbols.specs.declared.symbol.Scalar.{Scalar}
use Rattle.fm_symbols.specs.declared.symbol.Scalar.TheVariants as scalar
use Rattle.fm_symbols.specs.declared.symbol.Direction.{Direction}
use Rattle.fm_symbols.specs.declared.symbol.Direction.TheVariants as direction
use Rattle.fm_symbols.specs.declared.symbol.Formal.{Formal}
use Rattle.fm_symbols.specs.declared.symbol.Formal.TheVariants as formal
use Rattle.fm_rules.specs.PortTypes.{sizing_place}
use Rattle.fm_rules.specs.declared.typing.ExprType.{ExprType}
use Rattle.fm_rules.specs.declared.typing.ExprType.TheVariants as expr_type

-- Ports.

-- the variable of a port, or of a whole array of ports
abbrev pub port_variable : UnitNames → ExprType → Option Variable
port_variable n (expr_type.Port place) = slice_get n.variables place
port_variable n (expr_type.Ports place) = slice_get n.variables place
port_variable n (expr_type.Value s) = None
port_variable n (expr_type.Array s m) = None
port_variable n expr_type.Function = None
port_variable n expr_type.Nothing = None

abbrev pub message_in : Kind → Option PortFields
message_in kind.Integer = None
message_in kind.Logical = None
message_in (kind.In p) = Some p
message_in (kind.Out p) = Some p

-- the type of the messages of a port
abbrev pub message_of : Option Variable → Option PortFields
message_of None = None
message_of (Some v) = message_in v.kind

abbrev pub goes : Direction → Kind → Bool
goes direction.In (kind.In p) = true
goes direction.In (kind.Out p) = false
goes direction.In kind.Integer = false
goes direction.In kind.Logical = false
goes direction.Out (kind.In p) = false
goes direction.Out (kind.Out p) = true
goes direction.Out kind.Integer = false
goes direction.Out kind.Logical = false

-- whether a variable is a port of a direction
abbrev pub is_port_to : Direction → Option Variable → Bool
is_port_to d None = false
is_port_to d (Some v) = goes d v.kind

-- one port, or what has no type
abbrev pub is_one_port : ExprType → Bool
is_one_port (expr_type.Port place) = true
is_one_port expr_type.Nothing = true
is_one_port (expr_type.Ports place) = false
is_one_port (expr_type.Value s) = false
is_one_port (expr_type.Array s m) = false
is_one_port expr_type.Function = false

-- whether something else stands where one port of a direction is needed. What has no type fits
abbrev pub lacks_port : Direction → UnitNames → ExprType → Bool
lacks_port d n (expr_type.Port place) = not (is_port_to d (slice_get n.variables place))
lacks_port d n (expr_type.Ports place) = true
lacks_port d n (expr_type.Value s) = true
lacks_port d n (expr_type.Array s m) = true
lacks_port d n expr_type.Function = true
lacks_port d n expr_type.Nothing = false

-- the same where a whole array of ports may stand too
abbrev pub lacks_ports : Direction → UnitNames → ExprType → Bool
lacks_ports d n (expr_type.Ports place) = not (is_port_to d (slice_get n.variables place))
lacks_ports d n (expr_type.Port place) = lacks_port d n (expr_type.Port place)
lacks_ports d n (expr_type.Value s) = true
lacks_ports d n (expr_type.Array s m) = true
lacks_ports d n expr_type.Function = true
lacks_ports d n expr_type.Nothing = false

-- two ports whose messages have different types
abbrev pub messages_differ : Option PortFields → Option PortFields → Bool
messages_differ None q = false
messages_differ (Some p) None = false
messages_differ (Some p) (Some q) = not (same_fields p q)

-- two ports of different directions or types
abbrev pub ports_differ : Option Variable → Option Variable → Bool
ports_differ None w = false
ports_differ (Some v) None = false
ports_differ (Some v) (Some w) = not (same_kind (kind_of v.kind) (kind_of w.kind))

-- Kinds and numbers of elements.

abbrev pub is_scalar_kind : Scalar → FieldKind → Bool
is_scalar_kind scalar.Integer Integer = true
is_scalar_kind scalar.Integer Logical = false
is_scalar_kind scalar.Integer (In p) = false
is_scalar_kind scalar.Integer (Out p) = false
is_scalar_kind scalar.Logical Integer = false
is_scalar_kind scalar.Logical Logical = true
is_scalar_kind scalar.Logical (In p) = false
is_scalar_kind scalar.Logical (Out p) = false

abbrev pub number_in : Tree → Option ℤ
number_in (Number m) = Some m
number_in (Truth b) = None
number_in (Named name) = None
number_in (Ref name args) = None
number_in (Paren e) = None
number_in (Signed op e) = None
number_in (Not e) = None
number_in (Binary op a b) = None

-- an array of so many elements. In a normalised type the one bound is the number of elements
abbrev pub has_elements : ℕ → List Bound → Bool
has_elements m [] = false
has_elements m (b ∷ bs) = option_eq int_eq (number_in b.high) (Some (pos m))

-- an array that an earlier field sizes
abbrev pub is_sized : List Bound → Bool
is_sized bs = is_some (sizing_place bs)

-- an array of so many elements, or one of any number
abbrev pub has_room : ℕ → List Bound → Bool
has_room m bs = is_sized bs || has_elements m bs

abbrev pub is_scalar : List Bound → Bool
is_scalar [] = true
is_scalar (b ∷ bs) = false

abbrev pub is_kind_of : Option Variable → FieldKind → Bool
is_kind_of None k = false
is_kind_of (Some v) k = same_kind (kind_of v.kind) k

abbrev pub is_array_in : Option Variable → List Bound → Bool
is_array_in None bs = false
is_array_in (Some v) bs = has_elements v.words bs

-- whether an item of this type fits a field: a value or a port of the field's kind where the field is no array, and else a
-- whole array of this kind with as many elements, or with any number where an earlier field sizes it. What has no type fits
abbrev pub fits_field : UnitNames → ExprType → FieldKind → List Bound → Bool
fits_field n (expr_type.Value s) k bs = is_scalar_kind s k && is_scalar bs
fits_field n (expr_type.Array s m) k bs = is_scalar_kind s k && has_room m bs
fits_field n (expr_type.Port place) k bs = is_kind_of (slice_get n.variables place) k && is_scalar bs
fits_field n (expr_type.Ports place) k bs = is_kind_of (slice_get n.variables place) k && is_array_in (slice_get n.variables place) bs
fits_field n expr_type.Function k bs = false
fits_field n expr_type.Nothing k bs = true

-- whether items fit the fields of a message, one after the other
abbrev pub fit_fields : UnitNames → List ExprType → PortFields → Bool
fit_fields n [] NoFields = true
fit_fields n [] (FieldThen k name bs rest) = false
fit_fields n (t ∷ ts) NoFields = false
fit_fields n (t ∷ ts) (FieldThen k name bs rest) = fits_field n t k bs && fit_fields n ts rest

-- Ports among the arguments of a call.

abbrev pub is_whole : List (ℤ × ℤ) → Bool
is_whole [] = false
is_whole (b ∷ bs) = true

abbrev pub is_as_long : Option Variable → Variable → Bool
is_as_long None f = false
is_as_long (Some v) f = is_whole f.bounds && nat_eq v.words f.words

-- whether an actual of this type fits a formal that is a port: a port of its direction and type, and for an array a whole
-- array of as many elements. What has no type fits
abbrev pub fits_formal : UnitNames → ExprType → Variable → Bool
fits_formal n (expr_type.Port place) f = is_kind_of (slice_get n.variables place) (kind_of f.kind) && not (is_whole f.bounds)
fits_formal n (expr_type.Ports place) f = is_kind_of (slice_get n.variables place) (kind_of f.kind) && is_as_long (slice_get n.variables place) f
fits_formal n (expr_type.Value s) f = false
fits_formal n (expr_type.Array s m) f = false
fits_formal n expr_type.Function f = false
fits_formal n expr_type.Nothing f = true

abbrev pub breaks_variable : UnitNames → ExprType → Option Variable → Bool
breaks_variable n t None = false
breaks_variable n t (Some f) = not (fits_formal n t f)

-- a formal that is a port, by the names of its unit, and an actual that doesn't fit it
abbrev pub breaks_formal : (callee : UnitNames) → UnitNames → ExprType → Formal → Bool
breaks_formal callee n t (formal.Value s) = false
breaks_formal callee n t (formal.Array s m) = false
breaks_formal callee n t (formal.Port place) = breaks_variable n t (slice_get callee.variables place)

-- whether one of the actuals breaks its formal
abbrev pub break_formals : (callee : UnitNames) → UnitNames → List ExprType → List Formal → Bool
break_formals callee n [] fs = false
break_formals callee n (t ∷ ts) [] = false
break_formals callee n (t ∷ ts) (f ∷ fs) = breaks_formal callee n t f || break_formals callee n ts fs
