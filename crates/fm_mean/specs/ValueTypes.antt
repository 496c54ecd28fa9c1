-- The type of an expression: integer, logical or none.
-- Source: ANSI X3.9-1978, sections 6.1 to 6.5.
use Rattle.std.specs.Prelude.{◌≡◌, ℕ, suc, Bool, true, false, Option, Some, None, List, slice_get}
use Rattle.std.specs.Option.{option_map}
use Rattle.fm_tree.specs.Tree.{Tree, Trees, NoTrees, More, Number, Truth, Named, Ref, Paren, Signed, Not, Binary}
use Rattle.fm_tree.specs.PortFields.{PortFields, FieldKind, NoFields, FieldThen, Integer, Logical, In, Out}
use Rattle.fm_values.specs.declared.value.Value.{Value}
use Rattle.fm_values.specs.declared.value.Value.TheVariants as value
use Rattle.fm_values.specs.Operations.{is_arithmetic}
use Rattle.fm_values.specs.Places.{size}
use Rattle.fm_tree.specs.declared.port_type.Bound.{Bound}
use Rattle.fm_symbols.specs.declared.names.Constant.{Constant}
use Rattle.fm_symbols.specs.declared.names.Constant.TheVariants as constant
use Rattle.fm_symbols.specs.declared.names.Variable.{Variable}
use Rattle.fm_rules.specs.PortTypes.{sizing_place}
use Rattle.fm_net.specs.Typed.{AllIn}
use Rattle.fm_mean.specs.Names.{ProgramUnit, formal_place, variable_of, constant_of, result_variable}
use Rattle.fm_mean.specs.Evaluate.{Scope, Reference, Element, Call, Built, Unknown, reference_of}
use Rattle.fm_mean.specs.Fits.{sort_of_variable, elements_in}

-- a value of a type
abbrev pub IsOf : FieldKind → Value → Type 0
IsOf Integer (value.Number n) = Unit {0}
IsOf Integer (value.Truth b) = ⊥
IsOf Logical (value.Number n) = ⊥
IsOf Logical (value.Truth b) = Unit {0}
IsOf (In t) x = ⊥
IsOf (Out t) x = ⊥

-- a port has no value
abbrev pub word_type : FieldKind → Option FieldKind
word_type Integer = Some Integer
word_type Logical = Some Logical
word_type (In t) = None
word_type (Out t) = None

abbrev pub constant_type : Option Constant → FieldKind
constant_type None = Integer
constant_type (Some (constant.Integer n)) = Integer
constant_type (Some (constant.Logical b)) = Logical

abbrev pub named_type : Scope → List ℕ → Option (ℕ × Variable) → Option FieldKind
named_type s name None = Some (constant_type (constant_of s.unit name))
named_type s name (Some v) = word_type (sort_of_variable v.1)

abbrev pub result_type : Option (ℕ × Variable) → Option FieldKind
result_type None = Some Integer
result_type (Some v) = word_type (sort_of_variable v.1)

abbrev pub ref_type : Reference → Option FieldKind
ref_type (Element i v) = word_type (sort_of_variable v)
ref_type (Call n u) = result_type (result_variable u)
ref_type (Built f) = Some Integer
ref_type Unknown = None

-- what an operator between two operands gives
abbrev pub given_by : Bool → FieldKind
given_by true = Integer
given_by false = Logical

-- of the scope the unit and the program count alone
abbrev pub type_of : Scope → Tree → Option FieldKind
type_of s (Number k) = Some Integer
type_of s (Truth b) = Some Logical
type_of s (Named name) = named_type s name (variable_of s.unit name)
type_of s (Ref name args) = ref_type (reference_of s name)
type_of s (Paren e) = type_of s e
type_of s (Signed o e) = Some Integer
type_of s (Not e) = Some Logical
type_of s (Binary o a b) = Some (given_by (is_arithmetic o))

-- Arguments and items: their type and the number of their elements.

abbrev pub alone : Option FieldKind → Option (FieldKind × ℕ)
alone o = option_map {U = FieldKind × ℕ} (λ r. (r, 1)) o

abbrev pub named_arg : Scope → List ℕ → Option (ℕ × Variable) → Option (FieldKind × ℕ)
named_arg s name None = alone (named_type s name None)
named_arg s name (Some v) = Some (sort_of_variable v.1, v.1.words)

abbrev pub ref_arg : Reference → Option (FieldKind × ℕ)
ref_arg (Element i v) = Some (sort_of_variable v, 1)
ref_arg (Call n u) = alone (ref_type (Call n u))
ref_arg (Built f) = alone (ref_type (Built f))
ref_arg Unknown = None

abbrev pub arg_type : Scope → Tree → Option (FieldKind × ℕ)
arg_type s (Number k) = Some (Integer, 1)
arg_type s (Truth b) = Some (Logical, 1)
arg_type s (Named name) = named_arg s name (variable_of s.unit name)
arg_type s (Ref name args) = ref_arg (reference_of s name)
arg_type s (Paren e) = alone (type_of s e)
arg_type s (Signed o e) = Some (Integer, 1)
arg_type s (Not e) = Some (Logical, 1)
arg_type s (Binary o a b) = alone (type_of s (Binary o a b))

-- an item is of a field's type and number of elements; any number where an earlier field sizes it
abbrev pub ItemIsOf : Scope → FieldKind → (size : Option ℕ) → List Bound → Tree → Type 0
ItemIsOf s r None bounds t = arg_type s t ≡ Some (r, elements_in bounds)
ItemIsOf s r (Some place) bounds t = (m : ℕ) × (arg_type s t ≡ Some (r, m))

-- items are of the types and sizes of the fields
abbrev pub ItemsAreOf : Scope → PortFields → Trees → Type 0
ItemsAreOf s NoFields NoTrees = Unit {0}
ItemsAreOf s NoFields (More t ts) = ⊥
ItemsAreOf s (FieldThen r a n rest) NoTrees = ⊥
ItemsAreOf s (FieldThen r a n rest) (More t ts) = ItemIsOf s r (sizing_place n) n t × ItemsAreOf s rest ts

-- each variable has as many elements as its bounds say
abbrev pub AreSized : List Variable → Type 0
AreSized = AllIn (λ v. v.words ≡ size v.bounds)

-- the formal with this number is of a type and has so many elements
pub record IsFormal (u : ProgramUnit) (n : ℕ) (r : FieldKind) (m : ℕ) : Type 0 where
  pub variable : Variable
  pub there : slice_get u.names.variables (formal_place u n) ≡ Some variable
  pub sort : sort_of_variable variable ≡ r
  pub words : variable.words ≡ m

-- arguments are of the types and sizes of the formals from this number on
abbrev pub ArgumentsAreOf : Scope → ProgramUnit → ℕ → Trees → Type 0
ArgumentsAreOf s u n NoTrees = Unit {0}
ArgumentsAreOf s u n (More t ts) = (r : FieldKind) × (m : ℕ) × (arg_type s t ≡ Some (r, m)) × IsFormal u n r m × ArgumentsAreOf s u (suc n) ts
