-- The values of constant expressions.
-- Source: ANSI X3.9-1978, section 6.7 (constant expressions) and table 2 of section 6.1 (types of operands). Neither references
-- nor faults give a value (this profile).
use Rattle.std.specs.Prelude.{ℕ, ℤ, nat_eq, nat_lt, not, ◌&&◌, ◌||◌, Bool, true, false, if◌then◌else◌, Result, Ok, Err, Option, Some, None}
use Rattle.std.specs.FinMap.{get}
use Rattle.fm_base.specs.declared.fault.Fault.{Fault}
use Rattle.fm_base.specs.declared.token.Op.{Op}
use Rattle.fm_base.specs.declared.token.Op.TheVariants as op
use Rattle.fm_values.specs.declared.value.Value.{Value}
use Rattle.fm_values.specs.declared.value.Value.TheVariants as value
use Rattle.fm_values.specs.Operations.{applied, with_sign}
use Rattle.fm_tree.specs.Tree.{Tree, Number, Truth, Named, Ref, Paren, Signed, Not, Binary}
use Rattle.fm_symbols.specs.ByName.{ByName}
use Rattle.fm_symbols.specs.declared.names.Constant.{Constant}
use Rattle.fm_symbols.specs.declared.names.Constant.TheVariants.{Integer, Logical}
use Rattle.fm_rules.specs.declared.constants.Known.{Known}

abbrev pub as_value : Constant → Value
as_value (Integer n) = value.Number n
as_value (Logical b) = value.Truth b

abbrev pub as_constant : Value → Constant
as_constant (value.Number n) = Integer n
as_constant (value.Truth b) = Logical b

-- a fault is no value
abbrev pub outcome : Result Value Fault → Option Constant
outcome (Ok v) = Some (as_constant v)
outcome (Err fault) = None

abbrev pub integer_outcome : Result ℤ Fault → Option Constant
integer_outcome (Ok n) = Some (Integer n)
integer_outcome (Err fault) = None

-- what has logical operands; the other operators have integers
abbrev pub is_logical : Op → Bool
is_logical op.Eqv = true
is_logical op.Neqv = true
is_logical op.Or = true
is_logical op.And = true
is_logical op.Not = true
is_logical o = false

-- whether a value may be an operand
abbrev pub fits : Op → Constant → Bool
fits o (Integer n) = not (is_logical o)
fits o (Logical b) = is_logical o

abbrev pub computed : Op → Constant → Constant → Option Constant
computed o x y = if fits o x && fits o y then outcome (applied o (as_value x) (as_value y)) else None

abbrev pub both_computed : Op → Option Constant → Option Constant → Option Constant
both_computed o None y = None
both_computed o (Some x) None = None
both_computed o (Some x) (Some y) = computed o x y

abbrev pub signed : Op → Option Constant → Option Constant
signed o None = None
signed o (Some (Integer n)) = integer_outcome (with_sign o n)
signed o (Some (Logical b)) = None

abbrev pub negated : Option Constant → Option Constant
negated None = None
negated (Some (Integer n)) = None
negated (Some (Logical b)) = Some (Logical (not b))

-- defined in an earlier statement, or earlier in the list of the same one
abbrev pub is_before : Known → (place item : ℕ) → Bool
is_before k place item = nat_lt k.place place || nat_eq k.place place && nat_lt k.item item

abbrev pub value_seen : Option Known → (place item : ℕ) → Option Constant
value_seen None place item = None
value_seen (Some k) place item = if is_before k place item then k.value else None

-- the value of an expression at an item of a statement, made of literals, constants that are defined before, and operators
abbrev pub value_of : ByName Known → (place item : ℕ) → Tree → Option Constant
value_of known place item (Number n) = Some (Integer n)
value_of known place item (Truth b) = Some (Logical b)
value_of known place item (Named name) = value_seen (get known name) place item
value_of known place item (Ref name args) = None
value_of known place item (Paren e) = value_of known place item e
value_of known place item (Signed o e) = signed o (value_of known place item e)
value_of known place item (Not e) = negated (value_of known place item e)
value_of known place item (Binary o a b) = both_computed o (value_of known place item a) (value_of known place item b)

-- the number that a value is
abbrev pub integer_in : Option Constant → Option ℤ
integer_in None = None
integer_in (Some (Integer n)) = Some n
integer_in (Some (Logical b)) = None

-- the number that an expression of a statement has as its value, outside PARAMETER
abbrev pub integer_of : ByName Known → (place : ℕ) → Tree → Option ℤ
integer_of known place e = integer_in (value_of known place 0 e)
