-- Types of expressions, and what fits where.
-- Source: ANSI X3.9-1978, sections 5, 6 and 15.9.3 (actual and dummy arguments); this profile for ports, which fit every type
-- here and are judged when all types are known.
use Rattle.std.specs.Prelude.{ℕ, nat_eq, not, ◌&&◌, Bool, true, false, Option, Some, None, slice_get}
use Rattle.fm_base.specs.declared.token.Op.{Op}
use Rattle.fm_base.specs.declared.token.Op.TheVariants as op
use Rattle.fm_symbols.specs.declared.symbol.Scalar.{Scalar}
use Rattle.fm_symbols.specs.declared.symbol.Scalar.TheVariants.{Integer, Logical}
use Rattle.fm_symbols.specs.declared.symbol.Symbol.{Symbol}
use Rattle.fm_symbols.specs.declared.symbol.Symbol.TheVariants as symbol
use Rattle.fm_symbols.specs.declared.symbol.Formal.{Formal}
use Rattle.fm_symbols.specs.declared.symbol.Formal.TheVariants as formal
use Rattle.fm_symbols.specs.declared.context.Scope.{Scope}
use Rattle.fm_symbols.specs.declared.context.Context.{Context}
use Rattle.fm_rules.specs.declared.flags.Flags.{Flags}
use Rattle.fm_rules.specs.declared.typing.ExprType.{ExprType}
use Rattle.fm_rules.specs.declared.typing.ExprType.TheVariants.{Value, Array, Port, Ports, Function, Nothing}
use Rattle.fm_rules.specs.declared.typing.Judgement.{Judgement}
use Rattle.fm_rules.specs.declared.typing.OperatorKind.{OperatorKind}
use Rattle.fm_rules.specs.declared.typing.OperatorKind.TheVariants as kind
use Rattle.fm_rules.specs.Flags.{both, e40, e50, no_flags}

abbrev pub same_scalar : Scalar → Scalar → Bool
same_scalar Integer Integer = true
same_scalar Integer Logical = false
same_scalar Logical Integer = false
same_scalar Logical Logical = true

-- nothing is broken
abbrev pub plain : ExprType → Judgement
plain t = record { expr_type = t; flags = no_flags }

abbrev pub with_flags : ExprType → Flags → Flags → Judgement
with_flags t f g = record { expr_type = t; flags = both f g }

-- what is broken where one value of this type is needed
abbrev pub needed : Scalar → ExprType → Flags
needed s (Value t) = e40 (not (same_scalar t s))
needed s (Array t n) = e40 true
needed s (Port place) = e50 true
needed s (Ports place) = e50 true
needed s Function = e40 true
needed s Nothing = no_flags

-- what is broken where one value of any type is needed
abbrev pub needed_value : ExprType → Flags
needed_value (Value s) = no_flags
needed_value (Array s n) = e40 true
needed_value (Port place) = e50 true
needed_value (Ports place) = e50 true
needed_value Function = e40 true
needed_value Nothing = no_flags

-- an operand, where one value of this type is needed
abbrev pub operand : Scalar → Judgement → Flags
operand s j = both j.flags (needed s j.expr_type)

abbrev pub is_port : ExprType → Bool
is_port (Value s) = false
is_port (Array s n) = false
is_port (Port place) = true
is_port (Ports place) = true
is_port Function = false
is_port Nothing = false

abbrev pub fits_value : Scalar → ExprType → Bool
fits_value s (Value t) = same_scalar t s
fits_value s (Array t n) = false
fits_value s (Port place) = true
fits_value s (Ports place) = true
fits_value s Function = false
fits_value s Nothing = true

abbrev pub fits_array : Scalar → ℕ → ExprType → Bool
fits_array s m (Value t) = false
fits_array s m (Array t n) = same_scalar t s && nat_eq n m
fits_array s m (Port place) = true
fits_array s m (Ports place) = true
fits_array s m Function = false
fits_array s m Nothing = true

-- whether an actual argument of this type fits a formal
abbrev pub fits : Formal → ExprType → Bool
fits (formal.Value s) t = fits_value s t
fits (formal.Array s n) t = fits_array s n t
fits (formal.Port place) t = true

abbrev pub operator_kind : Op → OperatorKind
operator_kind op.Add = kind.Arithmetic
operator_kind op.Sub = kind.Arithmetic
operator_kind op.Mul = kind.Arithmetic
operator_kind op.Div = kind.Arithmetic
operator_kind op.Pow = kind.Arithmetic
operator_kind op.Eq = kind.Relational
operator_kind op.Ne = kind.Relational
operator_kind op.Lt = kind.Relational
operator_kind op.Le = kind.Relational
operator_kind op.Gt = kind.Relational
operator_kind op.Ge = kind.Relational
operator_kind op.And = kind.Logical
operator_kind op.Or = kind.Logical
operator_kind op.Eqv = kind.Logical
operator_kind op.Neqv = kind.Logical
operator_kind op.Not = kind.Logical

-- the type of a name that stands alone
abbrev pub symbol_type : Option Symbol → ExprType
symbol_type None = Nothing
symbol_type (Some (symbol.Constant s)) = Value s
symbol_type (Some (symbol.Variable s place)) = Value s
symbol_type (Some (symbol.Array s place x)) = Array s x.elements
symbol_type (Some (symbol.Port d place)) = Port place
symbol_type (Some (symbol.Ports d place x)) = Ports place
symbol_type (Some (symbol.Function k)) = Function

abbrev pub value_type : Option Scalar → ExprType
value_type None = Nothing
value_type (Some s) = Value s

abbrev pub result_in : Option Scope → ExprType
result_in None = Nothing
result_in (Some s) = value_type s.result

-- the type of the value of the FUNCTION with this number
abbrev pub result_of : Context → ℕ → ExprType
result_of c k = result_in (slice_get c.scopes k)
