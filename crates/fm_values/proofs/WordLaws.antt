-- Operations on values and on the words that they are kept as.
use Rattle.std.proofs.Common.{◌≡◌, ℤ, Bool, true, false, not, ◌&&◌, ◌||◌, refl, ap, sym, ◌∙◌, Ok, Err}
use Rattle.std.specs.Prelude.{Result, int_lt, int_le}
use Rattle.std.specs.Bool.{beq}
use Rattle.std.specs.Ordering.{int_eq}
use Rattle.fm_base.specs.declared.fault.Fault.{Fault}
use Rattle.fm_base.specs.declared.token.Op.{Op}
use Rattle.fm_base.specs.declared.token.Op.TheVariants as op
use Rattle.fm_values.specs.declared.value.Value.{Value}
use Rattle.fm_values.specs.declared.value.Value.TheVariants.{Number, Truth}
use Rattle.fm_values.specs.Values.{sum, difference, product, quotient, power, word_of, is_true, is_truth}
use Rattle.fm_values.specs.Operations.{number, truth, word, applied, applied_words, is_arithmetic}

pub truth_kept : (v : Value) → is_truth (word_of v) ≡ is_true v
truth_kept (Number n) = refl
truth_kept (Truth true) = refl
truth_kept (Truth false) = refl

logical : (f : Bool → Bool → Bool) (v w : Value) → word (truth (f (is_true v) (is_true w))) ≡ word (truth (f (is_truth (word_of v)) (is_truth (word_of w))))
logical f v w = ap (λ a. word (truth (f a (is_true w)))) (sym (truth_kept v)) ∙ ap (λ b. word (truth (f (is_truth (word_of v)) b))) (sym (truth_kept w))

-- an operator may be applied to the words of its operands
pub words_do : (o : Op) (v w : Value) → word (applied o v w) ≡ applied_words o (word_of v) (word_of w)
words_do op.Add v w = refl
words_do op.Sub v w = refl
words_do op.Mul v w = refl
words_do op.Div v w = refl
words_do op.Pow v w = refl
words_do op.Eq v w = refl
words_do op.Ne v w = refl
words_do op.Lt v w = refl
words_do op.Le v w = refl
words_do op.Gt v w = refl
words_do op.Ge v w = refl
words_do op.Eqv v w = logical beq v w
words_do op.Neqv v w = logical (λ a b. not (beq a b)) v w
words_do op.Or v w = logical (λ a b. a || b) v w
words_do op.And v w = logical (λ a b. a && b) v w
words_do op.Not v w = logical (λ a b. not b) v w

-- the value of a word
abbrev pub typed : Bool → ℤ → Value
typed true n = Number n
typed false n = Truth (is_truth n)

abbrev typed_result : Bool → Result ℤ Fault → Result Value Fault
typed_result t (Ok n) = Ok (typed t n)
typed_result t (Err fault) = Err fault

number_typed : (r : Result ℤ Fault) → typed_result true (word (number r)) ≡ number r
number_typed (Ok n) = refl
number_typed (Err fault) = refl

truth_typed : (b : Bool) → typed_result false (word (truth b)) ≡ truth b
truth_typed true = refl
truth_typed false = refl

-- an operation on words gives the value by the type of its result
values_do : (o : Op) (v w : Value) → typed_result (is_arithmetic o) (word (applied o v w)) ≡ applied o v w
values_do op.Add v w = number_typed (sum (word_of v) (word_of w))
values_do op.Sub v w = number_typed (difference (word_of v) (word_of w))
values_do op.Mul v w = number_typed (product (word_of v) (word_of w))
values_do op.Div v w = number_typed (quotient (word_of v) (word_of w))
values_do op.Pow v w = number_typed (power (word_of v) (word_of w))
values_do op.Eq v w = truth_typed (int_eq (word_of v) (word_of w))
values_do op.Ne v w = truth_typed (not (int_eq (word_of v) (word_of w)))
values_do op.Lt v w = truth_typed (int_lt (word_of v) (word_of w))
values_do op.Le v w = truth_typed (int_le (word_of v) (word_of w))
values_do op.Gt v w = truth_typed (int_lt (word_of w) (word_of v))
values_do op.Ge v w = truth_typed (int_le (word_of w) (word_of v))
values_do op.Eqv v w = truth_typed (beq (is_true v) (is_true w))
values_do op.Neqv v w = truth_typed (not (beq (is_true v) (is_true w)))
values_do op.Or v w = truth_typed (is_true v || is_true w)
values_do op.And v w = truth_typed (is_true v && is_true w)
values_do op.Not v w = truth_typed (not (is_true w))

value_from : (o : Op) (v w : Value) (r : Result ℤ Fault) → r ≡ applied_words o (word_of v) (word_of w) → typed_result (is_arithmetic o) r ≡ applied o v w
value_from o v w r e = ap (typed_result (is_arithmetic o)) (e ∙ sym (words_do o v w)) ∙ values_do o v w

-- the same, where the type of the result is known
pub number_from : (o : Op) (v w : Value) (n : ℤ) → Ok n ≡ applied_words o (word_of v) (word_of w) → is_arithmetic o ≡ true → Ok (Number n) ≡ applied o v w
number_from o v w n e t = ap (λ b. Ok (typed b n)) (sym t) ∙ value_from o v w (Ok n) e

pub truth_from : (o : Op) (v w : Value) (n : ℤ) (b : Bool) → Ok n ≡ applied_words o (word_of v) (word_of w) → is_arithmetic o ≡ false → b ≡ is_truth n → Ok (Truth b) ≡ applied o v w
truth_from o v w n b e t f = ap (λ a. Ok (Truth a)) f ∙ ap (λ a. Ok (typed a n)) (sym t) ∙ value_from o v w (Ok n) e

pub fault_from : (o : Op) (v w : Value) (fault : Fault) → Err fault ≡ applied_words o (word_of v) (word_of w) → Err fault ≡ applied o v w
fault_from o v w fault e = value_from o v w (Err fault) e
