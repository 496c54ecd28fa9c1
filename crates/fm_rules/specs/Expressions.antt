-- The judgement of expressions: their types, and the rules that they break.
-- Source: ANSI X3.9-1978, sections 5.4 (subscripts), 6 (expressions) and 15 (functions); this profile for the intrinsics.
use Rattle.std.specs.Prelude.{ℕ, suc, ◌+◌, nat_eq, not, ◌&&◌, Bool, true, false, Option, Some, None, List, length, slice_get}
use Rattle.std.specs.FinMap.{get}
use Rattle.fm_values.specs.declared.intrinsic.Intrinsic.{Intrinsic}
use Rattle.fm_values.specs.Intrinsics.{intrinsic_named, takes}
use Rattle.fm_tree.specs.Tree.{Tree, Trees, Number, Truth, Named, Ref, Paren, Signed, Not, Binary, NoTrees, More}
use Rattle.fm_symbols.specs.declared.symbol.Scalar.TheVariants.{Integer, Logical}
use Rattle.fm_symbols.specs.declared.symbol.Symbol.{Symbol}
use Rattle.fm_symbols.specs.declared.symbol.Symbol.TheVariants as symbol
use Rattle.fm_symbols.specs.declared.symbol.Formal.{Formal}
use Rattle.fm_symbols.specs.declared.symbol.Formal.TheVariants as formal
use Rattle.fm_symbols.specs.declared.context.Scope.{Scope}
use Rattle.fm_symbols.specs.declared.context.Context.{Context}
use Rattle.fm_symbols.specs.Context.{function_named, symbol_in}
use Rattle.fm_rules.specs.declared.flags.Flags.{Flags}
use Rattle.fm_rules.specs.declared.typing.ExprType.{ExprType}
use Rattle.fm_rules.specs.declared.typing.ExprType.TheVariants.{Value, Array, Port, Ports, Function, Nothing}
use Rattle.fm_rules.specs.declared.typing.Judgement.{Judgement}
use Rattle.fm_rules.specs.declared.typing.OperatorKind.{OperatorKind}
use Rattle.fm_rules.specs.declared.typing.OperatorKind.TheVariants as kind
use Rattle.fm_rules.specs.declared.typing.Referent.{Referent}
use Rattle.fm_rules.specs.declared.typing.Referent.TheVariants as referent
use Rattle.fm_rules.specs.declared.typing.Arguments.{Arguments}
use Rattle.fm_rules.specs.Flags.{both, e40, e41, e42, e43, e50, no_flags}
use Rattle.fm_rules.specs.Typing.{fits, is_port, operand, operator_kind, plain, result_of, symbol_type, with_flags}

abbrev pub intrinsic_or : Option Intrinsic → Referent → Referent
intrinsic_or None other = other
intrinsic_or (Some i) other = referent.Intrinsic i

abbrev pub function_referent : Option Symbol → Referent
function_referent None = referent.Unknown
function_referent (Some (symbol.Constant s)) = referent.Unknown
function_referent (Some (symbol.Variable s place)) = referent.Unknown
function_referent (Some (symbol.Array s place x)) = referent.Unknown
function_referent (Some (symbol.Port d place)) = referent.Unknown
function_referent (Some (symbol.Ports d place x)) = referent.Unknown
function_referent (Some (symbol.Function k)) = referent.Unit k

abbrev pub array_or : Option Symbol → Referent → Referent
array_or None other = other
array_or (Some (symbol.Constant s)) other = other
array_or (Some (symbol.Variable s place)) other = other
array_or (Some (symbol.Array s place x)) other = referent.Element s x.dimensions
array_or (Some (symbol.Port d place)) other = other
array_or (Some (symbol.Ports d place x)) other = referent.PortElement place x.dimensions
array_or (Some (symbol.Function k)) other = other

-- what a name means before a list in parentheses: an array hides the intrinsic of its name; a FUNCTION is meant also where
-- its name is a variable, as it is inside the FUNCTION itself
abbrev pub referent_of : Context → Scope → List ℕ → Referent
referent_of c s name = array_or (get s.symbols name) (intrinsic_or (intrinsic_named name) (function_referent (function_named c name)))

abbrev pub formal_in : Option Scope → ℕ → Option Formal
formal_in None i = None
formal_in (Some s) i = slice_get s.formals i

-- what the argument at a place is to be
abbrev pub wanted : Context → Referent → ℕ → Option Formal
wanted c (referent.Element s n) i = Some (formal.Value Integer)
wanted c (referent.PortElement place n) i = Some (formal.Value Integer)
wanted c (referent.Intrinsic f) i = Some (formal.Value Integer)
wanted c (referent.Unit k) i = formal_in (slice_get c.scopes k) i
wanted c referent.Unknown i = None

abbrev pub fits_wanted : Option Formal → ExprType → Bool
fits_wanted None t = true
fits_wanted (Some f) t = fits f t

-- a port stands where a value is wanted
abbrev pub is_stray_port : Option Formal → ExprType → Bool
is_stray_port None t = false
is_stray_port (Some (formal.Value s)) t = is_port t
is_stray_port (Some (formal.Array s n)) t = is_port t
is_stray_port (Some (formal.Port place)) t = false

abbrev pub no_arguments : Arguments
no_arguments = record { flags = no_flags; fit = true; count = 0 }

-- with one more in front
abbrev pub with_argument : Option Formal → Judgement → Arguments → Arguments
with_argument w j a = record { flags = both (both j.flags (e50 (is_stray_port w j.expr_type))) a.flags; fit = fits_wanted w j.expr_type && a.fit; count = suc a.count }

abbrev pub formals_in : Option Scope → ℕ
formals_in None = 0
formals_in (Some s) = length s.formals

-- a name with a list whose items are judged; its type is that of the array or the function also where the list is wrong
abbrev pub reference_judged : Context → Referent → Arguments → Judgement
reference_judged c (referent.Element s n) a = with_flags (Value s) a.flags (e41 (not (a.fit && nat_eq a.count n)))
reference_judged c (referent.PortElement place n) a = with_flags (Port place) a.flags (e41 (not (a.fit && nat_eq a.count n)))
reference_judged c (referent.Intrinsic i) a = with_flags (Value Integer) a.flags (e42 (not (a.fit && takes i a.count)))
reference_judged c (referent.Unit k) a = with_flags (result_of c k) a.flags (e42 (not (a.fit && nat_eq a.count (formals_in (slice_get c.scopes k)))))
reference_judged c referent.Unknown a = with_flags Nothing a.flags (e43 true)

-- in parentheses stands one value
abbrev pub in_parentheses : ExprType → Flags → Judgement
in_parentheses (Value s) f = record { expr_type = Value s; flags = f }
in_parentheses (Array s n) f = with_flags Nothing f (e40 true)
in_parentheses (Port place) f = with_flags Nothing f (e50 true)
in_parentheses (Ports place) f = with_flags Nothing f (e50 true)
in_parentheses Function f = with_flags Nothing f (e40 true)
in_parentheses Nothing f = record { expr_type = Nothing; flags = f }

abbrev pub operated : OperatorKind → Judgement → Judgement → Judgement
operated kind.Arithmetic a b = with_flags (Value Integer) (operand Integer a) (operand Integer b)
operated kind.Relational a b = with_flags (Value Logical) (operand Integer a) (operand Integer b)
operated kind.Logical a b = with_flags (Value Logical) (operand Logical a) (operand Logical b)

abbrev mutual
  -- an expression in the unit of a scope
  pub judged : Context → Scope → Tree → Judgement
  judged c s (Number n) = plain (Value Integer)
  judged c s (Truth b) = plain (Value Logical)
  judged c s (Named name) = plain (symbol_type (symbol_in c s name))
  judged c s (Ref name args) = reference_judged c (referent_of c s name) (arguments_judged c s (referent_of c s name) 0 args)
  judged c s (Paren e) = in_parentheses (judged c s e).expr_type (judged c s e).flags
  judged c s (Signed o e) = record { expr_type = Value Integer; flags = operand Integer (judged c s e) }
  judged c s (Not e) = record { expr_type = Value Logical; flags = operand Logical (judged c s e) }
  judged c s (Binary o a b) = operated (operator_kind o) (judged c s a) (judged c s b)

  -- the list behind a name, from the item at place i on
  pub arguments_judged : Context → Scope → Referent → ℕ → Trees → Arguments
  arguments_judged c s r i NoTrees = no_arguments
  arguments_judged c s r i (More t ts) = with_argument (wanted c r i) (judged c s t) (arguments_judged c s r (i + 1) ts)
