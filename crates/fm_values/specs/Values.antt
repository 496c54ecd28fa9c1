-- The results of operations on INTEGER, their faults, and how a value is kept as a word.
-- Source: ANSI X3.9-1978, sections 6.1.4 and 6.1.5 (integer arithmetic), over 64 bits with Overflow and ZeroDivide
-- (this profile).
use Rattle.std.specs.Prelude.{ℤ, pos, negsuc, suc, neg_ℤ, ◌+ℤ◌, ◌-ℤ◌, ◌*ℤ◌, int_div, Bool, true, false, not, cond, Result, Ok, Err}
use Rattle.std.specs.Ordering.{int_eq}
use Rattle.std.specs.Int.{int_pow}
use Rattle.fm_base.specs.Integers.{is_integer}
use Rattle.fm_base.specs.declared.fault.Fault.{Fault}
use Rattle.fm_base.specs.declared.fault.Fault.TheVariants.{Overflow, ZeroDivide}
use Rattle.fm_values.specs.declared.value.Value.{Value}
use Rattle.fm_values.specs.declared.value.Value.TheVariants.{Number, Truth}

-- an operation is taken over whole numbers, and a result out of range is Overflow
abbrev pub in_range : ℤ → Result ℤ Fault
in_range z = cond (is_integer z) (Ok z) (Err Overflow)

abbrev pub sum : ℤ → ℤ → Result ℤ Fault
sum x y = in_range (x +ℤ y)

abbrev pub difference : ℤ → ℤ → Result ℤ Fault
difference x y = in_range (x -ℤ y)

abbrev pub product : ℤ → ℤ → Result ℤ Fault
product x y = in_range (x *ℤ y)

abbrev pub opposite : ℤ → Result ℤ Fault
opposite x = in_range (neg_ℤ x)

-- what is to be divided by a number
abbrev pub unless_zero : ℤ → Result ℤ Fault → Result ℤ Fault
unless_zero y r = cond (int_eq y (pos 0)) (Err ZeroDivide) r

-- rounded toward zero
abbrev pub quotient : ℤ → ℤ → Result ℤ Fault
quotient x y = unless_zero y (in_range (int_div x y))

-- a negative exponent divides 1 by the power
abbrev pub power : ℤ → ℤ → Result ℤ Fault
power x (pos n) = in_range (int_pow x n)
power x (negsuc n) = quotient (pos 1) (int_pow x (suc n))

-- a logical is kept as 0 or 1
abbrev pub truth_word : Bool → ℤ
truth_word true = pos 1
truth_word false = pos 0

-- a word that is kept for a logical
abbrev pub is_truth : ℤ → Bool
is_truth n = not (int_eq n (pos 0))

abbrev pub word_of : Value → ℤ
word_of (Number n) = n
word_of (Truth b) = truth_word b

-- a number counts as the logical that its word is
abbrev pub is_true : Value → Bool
is_true (Number n) = is_truth n
is_true (Truth b) = b
