-- Expressions: the value of a tree in a frame, or its first fault; the place of a variable; arguments.
-- Source: ANSI X3.9-1978, sections 5.4 (subscripts), 6 (expressions) and 15.2 (references of functions); faults and the results of references by this profile.
use Rattle.std.specs.Prelude.{ℕ, ℤ, pos, ◌+◌, Bool, true, false, not, cond, Option, Some, None, List, [], ◌∷◌, ◌++◌, map, slice_get, unwrap_or, Result, Ok}
use Rattle.fm_base.specs.declared.fault.Fault.{Fault}
use Rattle.fm_base.specs.declared.output.Printed.{Printed}
use Rattle.fm_base.specs.declared.output.Printed.TheVariants as printed
use Rattle.fm_base.specs.Channels.{Item}
use Rattle.fm_values.specs.declared.value.Value.{Value}
use Rattle.fm_values.specs.declared.value.Value.TheVariants as value
use Rattle.fm_values.specs.declared.intrinsic.Intrinsic.{Intrinsic}
use Rattle.fm_values.specs.Values.{word_of, is_truth, is_true}
use Rattle.fm_values.specs.Operations.{applied, with_sign}
use Rattle.fm_values.specs.Intrinsics.{intrinsic_named, intrinsic_value}
use Rattle.fm_values.specs.Places.{element_place}
use Rattle.fm_tree.specs.Tree.{Tree, Trees, Number, Truth, Named, Ref, Paren, Signed, Not, Binary, NoTrees, More, trees_from}
use Rattle.fm_tree.specs.declared.port_type.Kind.{Kind}
use Rattle.fm_tree.specs.declared.port_type.Kind.TheVariants as kind
use Rattle.fm_tree.specs.declared.statement.Var.{Var}
use Rattle.fm_tree.specs.declared.statement.Item as declared
use Rattle.fm_tree.specs.declared.statement.Item.TheVariants as item
use Rattle.fm_symbols.specs.Headings.{is_function}
use Rattle.fm_symbols.specs.declared.names.Constant.{Constant}
use Rattle.fm_symbols.specs.declared.names.Constant.TheVariants as constant
use Rattle.fm_symbols.specs.declared.names.Variable.{Variable}
use Rattle.fm_rules.specs.declared.program.Program.{Program}
use Rattle.fm_mean.specs.Operands.{◌>>=◌}
use Rattle.fm_mean.specs.Names.{ProgramUnit, unit_named, kind_of, variable_of, constant_of, result_variable}
use Rattle.fm_mean.specs.declared.place.Actual.{Actual}
use Rattle.fm_mean.specs.declared.place.Span.{Span}
use Rattle.fm_mean.specs.declared.place.Actual.TheVariants.{Given, Taken}
use Rattle.fm_mean.specs.Places.{words_of, word_at}

-- where an expression is evaluated: a unit of a program, the values of its variables, and the results
-- of the references that were done at this entry
pub record Scope : Type 0 where
  pub program : Program
  pub unit : ProgramUnit
  pub values : List Item
  pub results : List ℤ

-- Names.

-- what a name with a list behind it means
pub data Reference : Type 0 where
  Element : (place : ℕ) → (variable : Variable) → Reference
  Call : (unit : ℕ) → (callee : ProgramUnit) → Reference
  Built : Intrinsic → Reference
  Unknown : Reference

abbrev pub function_by : Option (ℕ × ProgramUnit) → Reference
function_by None = Unknown
function_by (Some u) = cond (is_function (kind_of u.1)) (Call u.0 u.1) Unknown

abbrev pub intrinsic_or : Option Intrinsic → Reference → Reference
intrinsic_or None other = other
intrinsic_or (Some f) other = Built f

abbrev pub is_array : List (ℤ × ℤ) → Bool
is_array [] = false
is_array (b ∷ bs) = true

abbrev pub array_or : Option (ℕ × Variable) → Reference → Reference
array_or None other = other
array_or (Some v) other = cond (is_array v.1.bounds) (Element v.0 v.1) other

-- an array hides the intrinsic of its name; a FUNCTION is meant also where its name is a variable
abbrev pub reference_of : Scope → List ℕ → Reference
reference_of s name = array_or (variable_of s.unit name) (intrinsic_or (intrinsic_named name) (function_by (unit_named s.program name)))

-- References: how many an expression has. Those of its arguments come before it.

abbrev pub counts_one : Reference → ℕ
counts_one (Element i v) = 0
counts_one (Call u callee) = 1
counts_one (Built f) = 0
counts_one Unknown = 0

abbrev mutual
  pub refs_in : Scope → Tree → ℕ
  refs_in s (Number n) = 0
  refs_in s (Truth b) = 0
  refs_in s (Named name) = 0
  refs_in s (Ref name args) = refs_in_all s args + counts_one (reference_of s name)
  refs_in s (Paren e) = refs_in s e
  refs_in s (Signed op e) = refs_in s e
  refs_in s (Not e) = refs_in s e
  refs_in s (Binary op a b) = refs_in s a + refs_in s b

  pub refs_in_all : Scope → Trees → ℕ
  refs_in_all s NoTrees = 0
  refs_in_all s (More t ts) = refs_in s t + refs_in_all s ts

-- Values.

abbrev pub value_by : Kind → ℤ → Value
value_by kind.Integer n = value.Number n
value_by kind.Logical n = value.Truth (is_truth n)
value_by (kind.In t) n = value.Number n
value_by (kind.Out t) n = value.Number n

abbrev pub whole : ℕ → Variable → Span
whole i v = record { variable = i; first = 0; count = v.words }

abbrev pub single : ℕ → ℕ → Span
single i k = record { variable = i; first = k; count = 1 }

abbrev pub element_value : Scope → ℕ → Variable → ℕ → Value
element_value s i v k = value_by v.kind (word_at s.values (single i k))

abbrev pub constant_by : Option Constant → Value
constant_by None = value.Number (pos 0)
constant_by (Some (constant.Integer n)) = value.Number n
constant_by (Some (constant.Logical b)) = value.Truth b

abbrev pub named_by : Scope → List ℕ → Option (ℕ × Variable) → Value
named_by s name None = constant_by (constant_of s.unit name)
named_by s name (Some v) = element_value s v.0 v.1 0

abbrev pub result_by : Option (ℕ × Variable) → ℤ → Value
result_by None n = value.Number n
result_by (Some v) n = value_by v.1.kind n

-- the result of a FUNCTION has the type of the variable with its name
abbrev pub result_of : Scope → ProgramUnit → ℕ → Value
result_of s callee n = result_by (result_variable callee) (unwrap_or (slice_get s.results n) (pos 0))

abbrev pub ref_value : Scope → Reference → Result (List ℤ) Fault → (n : ℕ) → Result Value Fault
ref_value s (Element i v) ks n = ks >>= λ xs. element_place v.bounds xs >>= λ k. Ok (element_value s i v k)
ref_value s (Call u callee) ks n = Ok (result_of s callee n)
ref_value s (Built f) xs n = xs >>= λ ys. intrinsic_value f ys >>= λ y. Ok (value.Number y)
ref_value s Unknown xs n = Ok (value.Number (pos 0))

-- operands from left to right; the first fault counts. `n` is the number of the entry's references before this tree
abbrev mutual
  pub value_of : Scope → Tree → ℕ → Result Value Fault
  value_of s (Number k) n = Ok (value.Number k)
  value_of s (Truth b) n = Ok (value.Truth b)
  value_of s (Named name) n = Ok (named_by s name (variable_of s.unit name))
  value_of s (Ref name args) n = ref_value s (reference_of s name) (numbers_of s args n) (n + refs_in_all s args)
  value_of s (Paren e) n = value_of s e n
  value_of s (Signed op e) n = value_of s e n >>= λ x. with_sign op (word_of x) >>= λ y. Ok (value.Number y)
  value_of s (Not e) n = value_of s e n >>= λ x. Ok (value.Truth (not (is_true x)))
  value_of s (Binary op a b) n = value_of s a n >>= λ x. value_of s b (n + refs_in s a) >>= λ y. applied op x y

  pub numbers_of : Scope → Trees → ℕ → Result (List ℤ) Fault
  numbers_of s NoTrees n = Ok []
  numbers_of s (More t ts) n = value_of s t n >>= λ x. numbers_of s ts (n + refs_in s t) >>= λ xs. Ok (word_of x ∷ xs)

abbrev pub number_of : Scope → Tree → ℕ → Result ℤ Fault
number_of s e n = value_of s e n >>= λ x. Ok (word_of x)

-- Places.

abbrev pub spans_by : Option (ℕ × Variable) → Trees → Result (List ℤ) Fault → Result Span Fault
spans_by None ts ks = Ok (single 0 0)
spans_by (Some v) NoTrees ks = Ok (whole v.0 v.1)
spans_by (Some v) (More t ts) ks = ks >>= λ xs. element_place v.1.bounds xs >>= λ k. Ok (single v.0 k)

-- the place of a variable, an element or a whole array
abbrev pub place_of : Scope → Var → ℕ → Result Span Fault
place_of s v n = spans_by (variable_of s.unit v.name) (trees_from v.subscripts) (numbers_of s (trees_from v.subscripts) n)

abbrev pub refs_in_var : Scope → Var → ℕ
refs_in_var s v = refs_in_all s (trees_from v.subscripts)

-- places from left to right
abbrev pub places_of : Scope → List Var → ℕ → Result (List Span) Fault
places_of s [] n = Ok []
places_of s (v ∷ vs) n = place_of s v n >>= λ x. places_of s vs (n + refs_in_var s v) >>= λ xs. Ok (x ∷ xs)

abbrev pub refs_in_vars : Scope → List Var → ℕ
refs_in_vars s [] = 0
refs_in_vars s (v ∷ vs) = refs_in_var s v + refs_in_vars s vs

-- Arguments, and items of a message.

-- what stands at a span: ports to be taken, or words with the place to which they may go back
abbrev pub actual_at : Scope → Kind → Span → Actual
actual_at s kind.Integer x = Given (words_of s.values x) (Some x)
actual_at s kind.Logical x = Given (words_of s.values x) (Some x)
actual_at s (kind.In t) x = Taken x
actual_at s (kind.Out t) x = Taken x

abbrev pub value_alone : Result Value Fault → Result Actual Fault
value_alone v = v >>= λ x. Ok (Given (word_of x ∷ []) None)

abbrev pub named_actual : Scope → List ℕ → Option (ℕ × Variable) → Actual
named_actual s name None = Given (word_of (named_by s name None) ∷ []) None
named_actual s name (Some v) = actual_at s v.1.kind (whole v.0 v.1)

abbrev pub ref_actual : Scope → Reference → Result (List ℤ) Fault → Result Value Fault → Result Actual Fault
ref_actual s (Element i v) ks x = ks >>= λ xs. element_place v.bounds xs >>= λ k. Ok (actual_at s v.kind (single i k))
ref_actual s (Call u callee) ks x = value_alone x
ref_actual s (Built f) ks x = value_alone x
ref_actual s Unknown ks x = value_alone x

-- a variable, an element or a whole array has a place; any other expression, also in parentheses, is a value
abbrev pub actual_of : Scope → Tree → ℕ → Result Actual Fault
actual_of s (Number k) n = value_alone (value_of s (Number k) n)
actual_of s (Truth b) n = value_alone (value_of s (Truth b) n)
actual_of s (Named name) n = Ok (named_actual s name (variable_of s.unit name))
actual_of s (Ref name args) n = ref_actual s (reference_of s name) (numbers_of s args n) (value_of s (Ref name args) n)
actual_of s (Paren e) n = value_alone (value_of s (Paren e) n)
actual_of s (Signed op e) n = value_alone (value_of s (Signed op e) n)
actual_of s (Not e) n = value_alone (value_of s (Not e) n)
actual_of s (Binary op a b) n = value_alone (value_of s (Binary op a b) n)

abbrev pub actuals_of : Scope → Trees → ℕ → Result (List Actual) Fault
actuals_of s NoTrees n = Ok []
actuals_of s (More t ts) n = actual_of s t n >>= λ x. actuals_of s ts (n + refs_in s t) >>= λ xs. Ok (x ∷ xs)

-- Printing.

abbrev pub printed_by : Kind → ℤ → Printed
printed_by kind.Integer n = printed.Number n
printed_by kind.Logical n = printed.Truth (is_truth n)
printed_by (kind.In t) n = printed.Number n
printed_by (kind.Out t) n = printed.Number n

abbrev pub printed_value : Value → Printed
printed_value (value.Number n) = printed.Number n
printed_value (value.Truth b) = printed.Truth b

abbrev pub printed_named : Scope → List ℕ → Option (ℕ × Variable) → List Printed
printed_named s name None = printed_value (named_by s name None) ∷ []
printed_named s name (Some v) = map (printed_by v.1.kind) (words_of s.values (whole v.0 v.1))

abbrev pub printed_alone : Result Value Fault → Result (List Printed) Fault
printed_alone v = v >>= λ x. Ok (printed_value x ∷ [])

-- an array is printed element by element
abbrev pub printed_tree : Scope → Tree → ℕ → Result (List Printed) Fault
printed_tree s (Number k) n = printed_alone (value_of s (Number k) n)
printed_tree s (Truth b) n = printed_alone (value_of s (Truth b) n)
printed_tree s (Named name) n = Ok (printed_named s name (variable_of s.unit name))
printed_tree s (Ref name args) n = printed_alone (value_of s (Ref name args) n)
printed_tree s (Paren e) n = printed_alone (value_of s (Paren e) n)
printed_tree s (Signed op e) n = printed_alone (value_of s (Signed op e) n)
printed_tree s (Not e) n = printed_alone (value_of s (Not e) n)
printed_tree s (Binary op a b) n = printed_alone (value_of s (Binary op a b) n)

abbrev pub printed_all : Scope → List declared.Item → ℕ → Result (List Printed) Fault
printed_all s [] n = Ok []
printed_all s (item.Constant bytes ∷ is) n = printed_all s is n >>= λ xs. Ok (printed.Text bytes ∷ xs)
printed_all s (item.Expr e ∷ is) n = printed_tree s e n >>= λ x. printed_all s is (n + refs_in s e) >>= λ xs. Ok (x ++ xs)
