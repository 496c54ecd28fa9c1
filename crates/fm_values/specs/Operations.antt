-- What an operator makes of its operands.
-- Source: ANSI X3.9-1978, sections 6.1.1 and 6.1.4 (arithmetic), 6.3.1 and 6.3.3 (relations), 6.4.1 and 6.4.3 (logical
-- operators). Of an operand of another type than the operator's its word counts, and `.NOT.` between two operands is
-- that of the right one (this profile); no checked program has these.
use Rattle.std.specs.Prelude.{ℤ, int_lt, int_le, Bool, true, false, not, ◌&&◌, ◌||◌, Result, Ok, Err}
use Rattle.std.specs.Bool.{beq}
use Rattle.std.specs.Ordering.{int_eq}
use Rattle.fm_base.specs.declared.fault.Fault.{Fault}
use Rattle.fm_base.specs.declared.token.Op.{Op}
use Rattle.fm_base.specs.declared.token.Op.TheVariants as op
use Rattle.fm_values.specs.declared.value.Value.{Value}
use Rattle.fm_values.specs.declared.value.Value.TheVariants.{Number, Truth}
use Rattle.fm_values.specs.Values.{sum, difference, product, opposite, quotient, power, word_of, is_true}

abbrev pub number : Result ℤ Fault → Result Value Fault
number (Ok n) = Ok (Number n)
number (Err fault) = Err fault

abbrev pub truth : Bool → Result Value Fault
truth b = Ok (Truth b)

-- an operator between two operands, both of which have a value
abbrev pub applied : Op → Value → Value → Result Value Fault
applied op.Add v w = number (sum (word_of v) (word_of w))
applied op.Sub v w = number (difference (word_of v) (word_of w))
applied op.Mul v w = number (product (word_of v) (word_of w))
applied op.Div v w = number (quotient (word_of v) (word_of w))
applied op.Pow v w = number (power (word_of v) (word_of w))
applied op.Eq v w = truth (int_eq (word_of v) (word_of w))
applied op.Ne v w = truth (not (int_eq (word_of v) (word_of w)))
applied op.Lt v w = truth (int_lt (word_of v) (word_of w))
applied op.Le v w = truth (int_le (word_of v) (word_of w))
applied op.Gt v w = truth (int_lt (word_of w) (word_of v))
applied op.Ge v w = truth (int_le (word_of w) (word_of v))
applied op.Eqv v w = truth (beq (is_true v) (is_true w))
applied op.Neqv v w = truth (not (beq (is_true v) (is_true w)))
applied op.Or v w = truth (is_true v || is_true w)
applied op.And v w = truth (is_true v && is_true w)
applied op.Not v w = truth (not (is_true w))

-- a sign before an operand; another operator there leaves it as it is
abbrev pub with_sign : Op → ℤ → Result ℤ Fault
with_sign op.Sub x = opposite x
with_sign o x = Ok x

abbrev pub word : Result Value Fault → Result ℤ Fault
word (Ok v) = Ok (word_of v)
word (Err fault) = Err fault

-- the same on words
abbrev pub applied_words : Op → ℤ → ℤ → Result ℤ Fault
applied_words o x y = word (applied o (Number x) (Number y))

-- what gives a number
abbrev pub is_arithmetic : Op → Bool
is_arithmetic op.Add = true
is_arithmetic op.Sub = true
is_arithmetic op.Mul = true
is_arithmetic op.Div = true
is_arithmetic op.Pow = true
is_arithmetic o = false
