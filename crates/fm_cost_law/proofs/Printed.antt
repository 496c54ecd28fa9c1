-- A line of output of items that are few is short.
use Rattle.std.proofs.Common.{◌≡◌, ℕ, ℤ, pos, negsuc, ◌+◌, ◌*◌, ◌≤◌, Bool, true, false, Option, Some, None, List, [], ◌∷◌, ◌++◌, map, length, drop, Result, Ok, Err, refl, sym, ap, ◌∙◌, arith}
use Rattle.std.specs.List.{flat_map}
use Rattle.std.specs.Fmt.{signed_decimal}
use Rattle.std.proofs.lemmas.Bool.Decides.{nat_tests}
use Rattle.std.proofs.lemmas.Fmt.{length_signed_le}
use Rattle.std.proofs.lemmas.Int.{ints}
use Rattle.std.proofs.lemmas.List.{length-append, length-map, length-take}
use Rattle.fm_base.specs.Output.{spaced_text, line_text}
use Rattle.fm_base.specs.declared.fault.Fault.{Fault}
use Rattle.fm_base.specs.declared.output.Printed.{Printed}
use Rattle.fm_base.specs.declared.output.Printed.TheVariants as printed
use Rattle.fm_tree.specs.Tree.{Tree, Number, Truth, Named, Ref, Paren, Signed, Not, Binary}
use Rattle.fm_tree.specs.Forms.{more_spelled, list_spelled}
use Rattle.fm_tree.specs.Parts.{item_form}
use Rattle.fm_tree.specs.declared.port_type.Kind.{Kind}
use Rattle.fm_tree.specs.declared.port_type.Kind.TheVariants as kind
use Rattle.fm_tree.specs.declared.statement.Item.{Item}
use Rattle.fm_tree.specs.declared.statement.Item.TheVariants as item
use Rattle.fm_values.specs.declared.value.Value.{Value}
use Rattle.fm_values.specs.declared.value.Value.TheVariants as value
use Rattle.fm_values.specs.Values.{is_truth}
use Rattle.fm_symbols.specs.declared.names.Variable.{Variable}
use Rattle.fm_net.specs.Typed.{AllIn}
use Rattle.fm_rules.specs.declared.program.Program.{Program}
use Rattle.fm_mean.specs.Names.{ProgramUnit, unit_at, variable_of}
use Rattle.fm_mean.specs.Places.{items_at, words_in, words_of}
use Rattle.fm_mean.specs.Evaluate.{Scope, named_by, printed_by, printed_value, printed_named, printed_alone, printed_tree, printed_all, refs_in, value_of, whole}
use Rattle.fm_cost_law.specs.Words.{IsWord}
use Rattle.fm_cost_law.proofs.Kept.{span_words}
use Rattle.fm_cost_law.proofs.Values.{Fine, ScopeHasWords, ValueHasWord, named_word, then_fine, value_small}
use Rattle.fm_cost_law.proofs.Spelled.{IsSmall, EachIsSmall, TreeIsSmall, weight, weight_joined, more_small, some_small}
use Rattle.fm_cost_law.proofs.Variables.{words_few}

-- ---- digits

not_more : (n : ℕ) → IsWord (pos n) → n ≤ 9223372036854775807
not_more n h = grind (arith, ints, nat_tests)

not_less : (n : ℕ) → IsWord (negsuc n) → n ≤ 9223372036854775807
not_less n h = grind (arith, ints, nat_tests)

digits_few : (z : ℤ) → IsWord z → length (signed_decimal z) ≤ 20
digits_few (pos n) h = let few = not_more n h in length_signed_le 19 (pos n) (omega (arith, few)) (omega (arith, few))
digits_few (negsuc n) h = let few = not_less n h in length_signed_le 19 (negsuc n) (omega (arith, few)) (omega (arith, few))

-- ---- items of an expression

abbrev IsShortItem : Printed → Type 0
IsShortItem i = length (spaced_text i) ≤ 21

number_short : (n : ℤ) → IsWord n → IsShortItem (printed.Number n)
number_short n h = let few = digits_few n h in omega (arith, few)

truth_short : (b : Bool) → IsShortItem (printed.Truth b)
truth_short true = omega arith
truth_short false = omega arith

by_short : (k : Kind) (n : ℤ) → IsWord n → IsShortItem (printed_by k n)
by_short kind.Integer n h = number_short n h
by_short kind.Logical n h = truth_short (is_truth n)
by_short (kind.In t) n h = number_short n h
by_short (kind.Out t) n h = number_short n h

value_short : (v : Value) → ValueHasWord v → IsShortItem (printed_value v)
value_short (value.Number n) h = number_short n h
value_short (value.Truth b) h = truth_short b

all_short : (k : Kind) (ws : List ℤ) → AllIn IsWord ws → AllIn IsShortItem (map (printed_by k) ws)
all_short k [] h = tt
all_short k (w ∷ ws) h = (by_short k w h.0, all_short k ws h.1)

size_of : List Printed → ℕ
size_of xs = length (flat_map spaced_text xs)

size_none : size_of [] ≡ 0
unfolding size_of
size_none = refl

size_joined : (xs ys : List Printed) → size_of (xs ++ ys) ≡ size_of xs + size_of ys
unfolding size_of
size_joined [] ys = omega arith
size_joined (x ∷ xs) ys = omega (arith, size_joined xs ys, length-append (spaced_text x) (flat_map spaced_text (xs ++ ys)), length-append (spaced_text x) (flat_map spaced_text xs))

size_first : (x : Printed) (xs : List Printed) → size_of (x ∷ xs) ≡ length (spaced_text x) + size_of xs
unfolding size_of
size_first x xs = length-append (spaced_text x) (flat_map spaced_text xs)

size_few : (xs : List Printed) → AllIn IsShortItem xs → size_of xs ≤ 21 * length xs
size_few [] h = omega (arith, size_none)
size_few (x ∷ xs) h = let here = h.0 in omega (arith, size_first x xs, here, size_few xs h.1)

-- an item of PRINT has 65,536 words at most, of 21 bytes with the blank before each
abbrev IsShortList : List Printed → Type 0
IsShortList xs = size_of xs ≤ 1376256

one_short : (x : Printed) → IsShortItem x → IsShortList (x ∷ [])
one_short x h = let few = size_few (x ∷ []) (h, tt) in omega (arith, few)

-- ---- a statement

module _ (p : Program) (n : ℕ) (u : ProgramUnit) (is_unit : unit_at p n ≡ Some u) (s : Scope) (here : s.unit ≡ u) (words : ScopeHasWords s) where
  named_short : (name : List ℕ) (o : Option (ℕ × Variable)) → variable_of s.unit name ≡ o → IsShortList (printed_named s name o)
  named_short name None is = one_short (printed_value (named_by s name None)) (value_short (named_by s name None) (named_word s words name None))
  named_short name (Some v) is =
      let x = whole v.0 v.1 in
      let ws = words_of s.values x in
      let few = size_few (map (printed_by v.1.kind) ws) (all_short v.1.kind ws (span_words s.values x words.values)) in
      let small = words_few p n u is_unit name v (ap (λ (w : ProgramUnit). variable_of w name) (sym here) ∙ is) in
      let count = length-map ws (printed_by v.1.kind) in
      let taken = length-take v.1.words (drop 0 (words_in (items_at s.values v.0))) in
      omega (arith, few, small, count, taken)

  alone_short : (r : Result Value Fault) → Fine ValueHasWord r → Fine IsShortList (printed_alone r)
  alone_short r h = then_fine ValueHasWord IsShortList r _ h (λ x g. one_short (printed_value x) (value_short x g))

  tree_short : (e : Tree) (k : ℕ) → TreeIsSmall e → Fine IsShortList (printed_tree s e k)
  tree_short (Number m) k h = alone_short (value_of s (Number m) k) (value_small s words (Number m) k h)
  tree_short (Truth b) k h = alone_short (value_of s (Truth b) k) (value_small s words (Truth b) k h)
  tree_short (Named name) k h = named_short name (variable_of s.unit name) refl
  tree_short (Ref name args) k h = alone_short (value_of s (Ref name args) k) (value_small s words (Ref name args) k h)
  tree_short (Paren e) k h = alone_short (value_of s (Paren e) k) (value_small s words (Paren e) k h)
  tree_short (Signed o e) k h = alone_short (value_of s (Signed o e) k) (value_small s words (Signed o e) k h)
  tree_short (Not e) k h = alone_short (value_of s (Not e) k) (value_small s words (Not e) k h)
  tree_short (Binary o a b) k h = alone_short (value_of s (Binary o a b) k) (value_small s words (Binary o a b) k h)

  abbrev IsLine : List Item → List Printed → Type 0
  IsLine is xs = size_of xs ≤ 1376256 * weight (more_spelled item_form is)

  items_short : (is : List Item) (k : ℕ) → EachIsSmall item_form is → Fine (IsLine is) (printed_all s is k)
  items_short [] k h = omega (arith, size_none)
  items_short (item.Constant bytes ∷ is) k h =
      then_fine (IsLine is) (IsLine (item.Constant bytes ∷ is)) (printed_all s is k) _ (items_short is k h.1)
      (λ xs g. omega (arith, g, size_first (printed.Text bytes) xs, weight_joined (item_form.spelled (item.Constant bytes)) (more_spelled item_form is)))
  items_short (item.Expr e ∷ is) k h =
      then_fine IsShortList (IsLine (item.Expr e ∷ is)) (printed_tree s e k) _ (tree_short e k h.0)
      (λ x g.
      then_fine (IsLine is) (IsLine (item.Expr e ∷ is)) (printed_all s is (k + refs_in s e)) _ (items_short is (k + refs_in s e) h.1)
      (λ xs j. omega (arith, g, j, size_joined x xs, weight_joined (item_form.spelled (item.Expr e)) (more_spelled item_form is))))

  abbrev IsShortLine : List Printed → Type 0
  IsShortLine xs = length (line_text xs) ≤ 2147000000

  line_short : (w : ℕ) (xs : List Printed) → w ≤ 1322 → size_of xs ≤ 1376256 * w → IsShortLine xs
  unfolding size_of
  line_short w [] few h = omega arith
  line_short w (x ∷ xs) few h = omega (arith, few, h)

  line_by : (is : List Item) (k : ℕ) → EachIsSmall item_form is → weight (more_spelled item_form is) ≤ 1322 → Fine IsShortLine (printed_all s is k)
  line_by is k h few = go (printed_all s is k) (items_short is k h)
    where
      go : (r : Result (List Printed) Fault) → Fine (IsLine is) r → Fine IsShortLine r
      go (Ok xs) g = line_short (weight (more_spelled item_form is)) xs few g
      go (Err fault) g = tt

  -- the items of a PRINT
  pub line_few : (is : List Item) (k : ℕ) → IsSmall (more_spelled item_form is) → Fine IsShortLine (printed_all s is k)
  line_few is k h = line_by is k (more_small item_form is h) (let few = h.few in omega (arith, few))

  -- the items of a WRITE
  pub line_few_listed : (is : List Item) (k : ℕ) → IsSmall (list_spelled item_form is) → Fine IsShortLine (printed_all s is k)
  line_few_listed is k h = line_by is k (some_small item_form is h) (one_more is h.few)
    where
      one_more : (is : List Item) → weight (list_spelled item_form is) ≤ 1321 → weight (more_spelled item_form is) ≤ 1322
      one_more [] few = omega arith
      one_more (i ∷ is) few = omega (arith, few)
