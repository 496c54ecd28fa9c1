-- Where the words of a frame are of 64 bits, so are those of values, arguments and items.
use Rattle.std.proofs.Common.{◌≡◌, ℕ, zero, suc, ℤ, pos, negsuc, ◌+◌, Bool, true, false, cond, Option, Some, None, List, [], ◌∷◌, ◌++◌, slice_get, Result, Ok, Err, refl}
use Rattle.std.specs.Prelude.{unwrap_or, neg_ℤ, ◌+ℤ◌, ◌-ℤ◌, ◌*ℤ◌, int_div, int_lt}
use Rattle.std.specs.Int.{int_max, int_min, int_pow}
use Rattle.std.specs.List.{fold}
use Rattle.std.specs.Ordering.{int_eq}
use Rattle.fm_base.specs.Integers.{is_integer}
use Rattle.fm_base.specs.declared.fault.Fault.{Fault}
use Rattle.fm_base.specs.declared.fault.Fault.TheVariants.{Overflow, ZeroDivide}
use Rattle.fm_base.specs.declared.token.Op.{Op}
use Rattle.fm_base.specs.declared.token.Op.TheVariants as op
use Rattle.fm_base.specs.declared.token.Token.TheVariants as token
use Rattle.fm_tree.specs.Tree.{Tree, Trees, NoTrees, More, Number, Truth, Named, Ref, Paren, Signed, Not, Binary}
use Rattle.fm_tree.specs.Spelling.{spelling}
use Rattle.fm_tree.specs.declared.port_type.Kind.{Kind}
use Rattle.fm_tree.specs.declared.port_type.Kind.TheVariants as kind
use Rattle.fm_values.specs.declared.intrinsic.Intrinsic.{Intrinsic}
use Rattle.fm_values.specs.declared.intrinsic.Intrinsic.TheVariants.{Abs, Mod, Sign, Dim, Max, Min}
use Rattle.fm_values.specs.declared.value.Value.{Value}
use Rattle.fm_values.specs.declared.value.Value.TheVariants as value
use Rattle.fm_values.specs.Intrinsics.{argument, magnitude, intrinsic_value}
use Rattle.fm_values.specs.Operations.{number, applied, with_sign}
use Rattle.fm_values.specs.Places.{element_place}
use Rattle.fm_values.specs.Values.{in_range, unless_zero, sum, difference, product, quotient, power, truth_word, word_of}
use Rattle.fm_symbols.specs.declared.names.Constant.{Constant}
use Rattle.fm_symbols.specs.declared.names.Constant.TheVariants as constant
use Rattle.fm_symbols.specs.declared.names.Variable.{Variable}
use Rattle.fm_net.specs.Typed.{AllIn}
use Rattle.fm_mean.specs.Operands.{◌>>=◌}
use Rattle.fm_mean.specs.Names.{ProgramUnit, same_name, variable_of, constant_in, result_variable}
use Rattle.fm_mean.specs.declared.place.Span.{Span}
use Rattle.fm_mean.specs.Places.{word_at}
use Rattle.fm_mean.specs.Evaluate.{Scope, Reference, Element, Call, Built, Unknown, reference_of, refs_in, refs_in_all, value_by, whole, single, element_value, constant_by, named_by, result_by, result_of, ref_value, value_of, numbers_of, number_of, actual_at, value_alone, named_actual, ref_actual, actual_of, actuals_of}
use Rattle.fm_cost_law.specs.Words.{IsWord, HaveWords}
use Rattle.fm_cost_law.proofs.Kept.{ActualHasWords, span_words, word_here}
use Rattle.fm_cost_law.proofs.Spelled.{TreeIsSmall, TreesAreSmall, left_small, behind_small, arguments_small}

-- ---- what comes of an operand

-- where there is no fault
abbrev pub Fine : {A : Type 0} → (A → Type 0) → Result A Fault → Type 0
Fine P (Ok x) = P x
Fine P (Err fault) = Unit {0}

pub then_fine : {A B : Type 0} (P : A → Type 0) (Q : B → Type 0) (r : Result A Fault) (f : A → Result B Fault) → Fine P r → ((x : A) → P x → Fine Q (f x)) → Fine Q (r >>= f)
then_fine P Q (Ok x) f h g = g x h
then_fine P Q (Err fault) f h g = tt

abbrev pub Any : {A : Type 0} → A → Type 0
Any x = Unit {0}

pub any_fine : {A : Type 0} (r : Result A Fault) → Fine Any r
any_fine (Ok x) = tt
any_fine (Err fault) = tt

-- ---- operations

pub in_range_word : (z : ℤ) → Fine IsWord (in_range z)
in_range_word z = go (is_integer z) refl
  where
    go : (b : Bool) → is_integer z ≡ b → Fine IsWord (cond b (Ok z) (Err Overflow))
    go true e = e
    go false e = tt

unless_zero_word : (y : ℤ) (r : Result ℤ Fault) → Fine IsWord r → Fine IsWord (unless_zero y r)
unless_zero_word y r h = go (int_eq y (pos 0))
  where
    go : (b : Bool) → Fine IsWord (cond b (Err ZeroDivide) r)
    go true = tt
    go false = h

quotient_word : (x y : ℤ) → Fine IsWord (quotient x y)
quotient_word x y = unless_zero_word y (in_range (int_div x y)) (in_range_word (int_div x y))

power_word : (x y : ℤ) → Fine IsWord (power x y)
power_word x (pos n) = in_range_word (int_pow x n)
power_word x (negsuc n) = quotient_word (pos 1) (int_pow x (suc n))

abbrev pub ValueHasWord : Value → Type 0
ValueHasWord (value.Number n) = IsWord n
ValueHasWord (value.Truth b) = Unit {0}

pub truth_is_word : (b : Bool) → IsWord (truth_word b)
truth_is_word true = refl
truth_is_word false = refl

pub value_word : (v : Value) → ValueHasWord v → IsWord (word_of v)
value_word (value.Number n) h = h
value_word (value.Truth b) h = truth_is_word b

number_word : (r : Result ℤ Fault) → Fine IsWord r → Fine ValueHasWord (number r)
number_word (Ok n) h = h
number_word (Err fault) h = tt

pub applied_word : (o : Op) (v w : Value) → Fine ValueHasWord (applied o v w)
applied_word op.Add v w = number_word (sum (word_of v) (word_of w)) (in_range_word (word_of v +ℤ word_of w))
applied_word op.Sub v w = number_word (difference (word_of v) (word_of w)) (in_range_word (word_of v -ℤ word_of w))
applied_word op.Mul v w = number_word (product (word_of v) (word_of w)) (in_range_word (word_of v *ℤ word_of w))
applied_word op.Div v w = number_word (quotient (word_of v) (word_of w)) (quotient_word (word_of v) (word_of w))
applied_word op.Pow v w = number_word (power (word_of v) (word_of w)) (power_word (word_of v) (word_of w))
applied_word op.Eq v w = tt
applied_word op.Ne v w = tt
applied_word op.Lt v w = tt
applied_word op.Le v w = tt
applied_word op.Gt v w = tt
applied_word op.Ge v w = tt
applied_word op.Eqv v w = tt
applied_word op.Neqv v w = tt
applied_word op.Or v w = tt
applied_word op.And v w = tt
applied_word op.Not v w = tt

pub sign_word : (o : Op) (x : ℤ) → IsWord x → Fine IsWord (with_sign o x)
sign_word op.Sub x h = in_range_word (neg_ℤ x)
sign_word o x h = h

-- ---- intrinsics

argument_word : (i : ℕ) (xs : List ℤ) → AllIn IsWord xs → IsWord (argument i xs)
argument_word i [] h = refl
argument_word zero (x ∷ xs) h = h.0
argument_word (suc i) (x ∷ xs) h = argument_word i xs h.1

max_word : (x y : ℤ) → IsWord x → IsWord y → IsWord (int_max x y)
max_word x y h g = go (int_lt y x)
  where
    go : (b : Bool) → IsWord (cond b x y)
    go true = h
    go false = g

min_word : (x y : ℤ) → IsWord x → IsWord y → IsWord (int_min x y)
min_word x y h g = go (int_lt y x)
  where
    go : (b : Bool) → IsWord (cond b y x)
    go true = g
    go false = h

fold_word : (f : ℤ → ℤ → ℤ) → ((x y : ℤ) → IsWord x → IsWord y → IsWord (f x y)) → (x : ℤ) (ys : List ℤ) → IsWord x → AllIn IsWord ys → IsWord (fold f x ys)
fold_word f each x [] h g = h
fold_word f each x (y ∷ ys) h g = fold_word f each (f x y) ys (each x y h g.0) g.1

intrinsic_word : (f : Intrinsic) (xs : List ℤ) → AllIn IsWord xs → Fine IsWord (intrinsic_value f xs)
intrinsic_word Abs xs h = in_range_word (magnitude (argument 0 xs))
intrinsic_word Mod xs h =
    let x = argument 0 xs in
    let y = argument 1 xs in
    unless_zero_word y (in_range (x -ℤ int_div x y *ℤ y)) (in_range_word (x -ℤ int_div x y *ℤ y))
intrinsic_word Sign xs h = in_range_word (cond (int_lt (argument 1 xs) (pos 0)) (neg_ℤ (magnitude (argument 0 xs))) (magnitude (argument 0 xs)))
intrinsic_word Dim xs h = in_range_word (int_max (argument 0 xs -ℤ argument 1 xs) (pos 0))
intrinsic_word Max xs h = fold_word int_max max_word (argument 0 xs) xs (argument_word 0 xs h) h
intrinsic_word Min xs h = fold_word int_min min_word (argument 0 xs) xs (argument_word 0 xs h) h

-- ---- expressions

abbrev pub ConstantHasWord : Constant → Type 0
ConstantHasWord (constant.Integer n) = IsWord n
ConstantHasWord (constant.Logical b) = Unit {0}

abbrev pub ConstantsHaveWords : ProgramUnit → Type 0
ConstantsHaveWords u = AllIn (λ (c : List ℕ × Constant). ConstantHasWord c.1) u.names.constants

pub record ScopeHasWords (s : Scope) : Type 0 where
  pub values : HaveWords s.values
  pub results : AllIn IsWord s.results
  pub constants : ConstantsHaveWords s.unit

by_word : (k : Kind) (n : ℤ) → IsWord n → ValueHasWord (value_by k n)
by_word kind.Integer n h = h
by_word kind.Logical n h = tt
by_word (kind.In t) n h = h
by_word (kind.Out t) n h = h

module _ (s : Scope) (fine : ScopeHasWords s) where
  element_word : (i : ℕ) (v : Variable) (k : ℕ) → ValueHasWord (element_value s i v k)
  element_word i v k = by_word v.kind (word_at s.values (single i k)) (word_here s.values (single i k) fine.values)

  constant_word : (name : List ℕ) (cs : List (List ℕ × Constant)) → AllIn (λ (c : List ℕ × Constant). ConstantHasWord c.1) cs → ValueHasWord (constant_by (constant_in name cs))
  constant_word name [] h = refl
  constant_word name (c ∷ cs) h = go (same_name name c.0) (constant_word name cs h.1)
    where
      one : (c : Constant) → ConstantHasWord c → ValueHasWord (constant_by (Some c))
      one (constant.Integer n) h = h
      one (constant.Logical b) h = tt

      go : (b : Bool) → ValueHasWord (constant_by (constant_in name cs)) → ValueHasWord (constant_by (cond b (Some c.1) (constant_in name cs)))
      go true rest = one c.1 h.0
      go false rest = rest

  pub named_word : (name : List ℕ) (o : Option (ℕ × Variable)) → ValueHasWord (named_by s name o)
  named_word name None = constant_word name s.unit.names.constants fine.constants
  named_word name (Some v) = element_word v.0 v.1 0

  result_word : (callee : ProgramUnit) (n : ℕ) → ValueHasWord (result_of s callee n)
  result_word callee n = go (result_variable callee) (unwrap_or (slice_get s.results n) (pos 0)) (there n s.results fine.results)
    where
      there : (n : ℕ) (ws : List ℤ) → AllIn IsWord ws → IsWord (unwrap_or (slice_get ws n) (pos 0))
      there n [] h = refl
      there zero (w ∷ ws) h = h.0
      there (suc n) (w ∷ ws) h = there n ws h.1

      go : (o : Option (ℕ × Variable)) (n : ℤ) → IsWord n → ValueHasWord (result_by o n)
      go None n h = h
      go (Some v) n h = by_word v.1.kind n h

  ref_word : (r : Reference) (xs : Result (List ℤ) Fault) (n : ℕ) → Fine (AllIn IsWord) xs → Fine ValueHasWord (ref_value s r xs n)
  ref_word (Element i v) xs n h = then_fine (AllIn IsWord) ValueHasWord xs _ h (λ ks g. then_fine Any ValueHasWord (element_place v.bounds ks) _ (any_fine (element_place v.bounds ks)) (λ k t. element_word i v k))
  ref_word (Call u callee) xs n h = result_word callee n
  ref_word (Built f) xs n h = then_fine (AllIn IsWord) ValueHasWord xs _ h (λ ys g. then_fine IsWord ValueHasWord (intrinsic_value f ys) _ (intrinsic_word f ys g) (λ y t. t))
  ref_word Unknown xs n h = refl

  mutual
    pub value_small : (t : Tree) (n : ℕ) → TreeIsSmall t → Fine ValueHasWord (value_of s t n)
    value_small (Number k) n h = h.words.0
    value_small (Truth b) n h = tt
    value_small (Named name) n h = named_word name (variable_of s.unit name)
    value_small (Ref name args) n h = ref_word (reference_of s name) (numbers_of s args n) (n + refs_in_all s args) (numbers_small args n (arguments_small name args h))
    value_small (Paren e) n h = value_small e n (left_small (spelling e) (token.Close ∷ []) (behind_small token.Open (spelling e ++ token.Close ∷ []) h))
    value_small (Signed o e) n h =
        then_fine ValueHasWord ValueHasWord (value_of s e n) _ (value_small e n (behind_small (token.Sign o) (spelling e) h))
        (λ x g. then_fine IsWord ValueHasWord (with_sign o (word_of x)) _ (sign_word o (word_of x) (value_word x g)) (λ y t. t))
    value_small (Not e) n h = then_fine Any ValueHasWord (value_of s e n) _ (any_fine (value_of s e n)) (λ x g. tt)
    value_small (Binary o a b) n h =
        then_fine Any ValueHasWord (value_of s a n) _ (any_fine (value_of s a n)) (λ x g. then_fine Any ValueHasWord (value_of s b (n + refs_in s a)) _ (any_fine (value_of s b (n + refs_in s a))) (λ y t. applied_word o x y))

    pub numbers_small : (ts : Trees) (n : ℕ) → TreesAreSmall ts → Fine (AllIn IsWord) (numbers_of s ts n)
    numbers_small NoTrees n h = tt
    numbers_small (More t ts) n h =
        then_fine ValueHasWord (AllIn IsWord) (value_of s t n) _ (value_small t n h.0)
        (λ x g. then_fine (AllIn IsWord) (AllIn IsWord) (numbers_of s ts (n + refs_in s t)) _ (numbers_small ts (n + refs_in s t) h.1) (λ xs t. (value_word x g, t)))

  pub number_small : (t : Tree) (n : ℕ) → TreeIsSmall t → Fine IsWord (number_of s t n)
  number_small t n h = then_fine ValueHasWord IsWord (value_of s t n) _ (value_small t n h) (λ x g. value_word x g)

  -- ---- arguments

  at_actual : (k : Kind) (x : Span) → ActualHasWords (actual_at s k x)
  at_actual kind.Integer x = span_words s.values x fine.values
  at_actual kind.Logical x = span_words s.values x fine.values
  at_actual (kind.In t) x = tt
  at_actual (kind.Out t) x = tt

  alone_actual : (r : Result Value Fault) → Fine ValueHasWord r → Fine ActualHasWords (value_alone r)
  alone_actual r h = then_fine ValueHasWord ActualHasWords r _ h (λ x g. (value_word x g, tt))

  name_actual : (name : List ℕ) (o : Option (ℕ × Variable)) → ActualHasWords (named_actual s name o)
  name_actual name None = (value_word (named_by s name None) (named_word name None), tt)
  name_actual name (Some v) = at_actual v.1.kind (whole v.0 v.1)

  applied_actual : (r : Reference) (ks : Result (List ℤ) Fault) (x : Result Value Fault) → Fine ValueHasWord x → Fine ActualHasWords (ref_actual s r ks x)
  applied_actual (Element i v) ks x h = then_fine Any ActualHasWords ks _ (any_fine ks) (λ xs g. then_fine Any ActualHasWords (element_place v.bounds xs) _ (any_fine (element_place v.bounds xs)) (λ k t. at_actual v.kind (single i k)))
  applied_actual (Call u callee) ks x h = alone_actual x h
  applied_actual (Built f) ks x h = alone_actual x h
  applied_actual Unknown ks x h = alone_actual x h

  actual_small : (t : Tree) (n : ℕ) → TreeIsSmall t → Fine ActualHasWords (actual_of s t n)
  actual_small (Number k) n h = alone_actual (value_of s (Number k) n) (value_small (Number k) n h)
  actual_small (Truth b) n h = alone_actual (value_of s (Truth b) n) (value_small (Truth b) n h)
  actual_small (Named name) n h = name_actual name (variable_of s.unit name)
  actual_small (Ref name args) n h = applied_actual (reference_of s name) (numbers_of s args n) (value_of s (Ref name args) n) (value_small (Ref name args) n h)
  actual_small (Paren e) n h = alone_actual (value_of s (Paren e) n) (value_small (Paren e) n h)
  actual_small (Signed o e) n h = alone_actual (value_of s (Signed o e) n) (value_small (Signed o e) n h)
  actual_small (Not e) n h = alone_actual (value_of s (Not e) n) (value_small (Not e) n h)
  actual_small (Binary o a b) n h = alone_actual (value_of s (Binary o a b) n) (value_small (Binary o a b) n h)

  pub actuals_small : (ts : Trees) (n : ℕ) → TreesAreSmall ts → Fine (AllIn ActualHasWords) (actuals_of s ts n)
  actuals_small NoTrees n h = tt
  actuals_small (More t ts) n h =
      then_fine ActualHasWords (AllIn ActualHasWords) (actual_of s t n) _ (actual_small t n h.0)
      (λ x g. then_fine (AllIn ActualHasWords) (AllIn ActualHasWords) (actuals_of s ts (n + refs_in s t)) _ (actuals_small ts (n + refs_in s t) h.1) (λ xs t. (g, t)))
