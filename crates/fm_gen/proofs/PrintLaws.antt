-- Printed lines.
use Rattle.std.proofs.Common.{◌≡◌, ℕ, zero, suc, ◌+◌, ◌<◌, ◌≤◌, ℤ, Bool, true, false, cond, ◌&&◌, Option, Some, None, List, [], ◌∷◌, ◌++◌, length, map, take, drop, refl, sym, ap, ◌∙◌, arith, append_assoc, length-drop, Result, Ok, Err}
use Rattle.std.specs.Prelude.{slice_get, nat_lt, nat_le, not}
use Rattle.std.proofs.lemmas.Bool.Decides.{nat_tests}
use Rattle.std.proofs.lemmas.List.{append-nil, length-take}
use Rattle.fm_base.specs.declared.fault.Fault.{Fault}
use Rattle.fm_base.specs.declared.output.Printed.{Printed}
use Rattle.fm_base.specs.declared.output.Printed.TheVariants as printed
use Rattle.fm_base.specs.declared.token.Op.{Op}
use Rattle.fm_base.specs.declared.token.Op.TheVariants as op
use Rattle.fm_values.specs.declared.value.Value.{Value}
use Rattle.fm_values.specs.declared.value.Value.TheVariants as value
use Rattle.fm_values.specs.Values.{word_of}
use Rattle.fm_values.specs.Operations.{number, applied, with_sign, is_arithmetic}
use Rattle.fm_values.specs.Intrinsics.{intrinsic_value}
use Rattle.fm_values.specs.Places.{element_place}
use Rattle.fm_tree.specs.Tree.{Tree, Number, Truth, Named, Ref, Paren, Signed, Not, Binary}
use Rattle.fm_tree.specs.PortReading as reading
use Rattle.fm_tree.specs.declared.port_type.Kind.{Kind}
use Rattle.fm_tree.specs.declared.port_type.Kind.TheVariants as kind
use Rattle.fm_tree.specs.declared.statement.Item.{Item}
use Rattle.fm_tree.specs.declared.statement.Item.TheVariants as item
use Rattle.fm_symbols.specs.declared.names.Constant.{Constant}
use Rattle.fm_symbols.specs.declared.names.Constant.TheVariants as constant
use Rattle.fm_symbols.specs.declared.names.Variable.{Variable}
use Rattle.fm_rules.specs.declared.program.Program.{Program}
use Rattle.fm_mean.specs.Operands.{◌>>=◌}
use Rattle.fm_mean.specs.Names.{ProgramUnit, unit_at, variable_of, constant_of, result_variable}
use Rattle.fm_mean.specs.Places.{words_in, words_of}
use Rattle.fm_mean.specs.Fits.{ItemFits}
use Rattle.fm_mean.specs.Evaluate.{Scope, Reference, Element, Call, Built, Unknown, reference_of, refs_in, value_by, constant_by, named_by, result_by, ref_value, value_of, whole, printed_by, printed_value, printed_named, printed_alone, printed_tree, printed_all}
use Rattle.fm_code.specs.declared.body.Frame.{Frame}
use Rattle.fm_code.specs.declared.instr.Instr.{Instr}
use Rattle.fm_code.specs.declared.instr.Instr.TheVariants as instr
use Rattle.fm_code.specs.declared.instr.Build.TheVariants as build
use Rattle.fm_code.specs.declared.scratch.Scratch.{Scratch}
use Rattle.fm_code.specs.Acts.{StatementEnd, Act, On, Over, then_work, work, nothing, shown, number_item, truth_item}
use Rattle.fm_code.specs.Acts as acts
use Rattle.fm_gen_relation.specs.Standing.{Slots, item_by, scope_in, IsFrame, AreDone}
use Rattle.fm_gen_operands.specs.Code.{expression_code}
use Rattle.fm_mean.specs.Referring.{names_in}
use Rattle.fm_gen.specs.Statements.{letters, is_logical_kind, is_logical_constant, is_logical_named, is_logical_result, is_logical_reference, is_logical, show, words_shown, variable_shown, named_shown, value_shown, tree_shown, items_code}
use Rattle.fm_gen_relation.specs.Sound.{is_word}
use Rattle.fm_gen_operands.specs.Keeps.{then}
use Rattle.fm_gen_relation.specs.Calls.{ItemsDone}
use Rattle.fm_gen_relation.proofs.FrameWords.{item_read, item_fits, truth_kept}
use Rattle.fm_gen_operands.proofs.Follows.{then_chain, then_with, refs_same, IsAt, named_at, keeps}

-- Whether a value is a truth is known from its expression.

abbrev is_truth_value : Value → Bool
is_truth_value (value.Number n) = false
is_truth_value (value.Truth b) = true

abbrev given : Value → Result Value Fault
given x = Ok x

same_value : (x y : Value) → given x ≡ given y → x ≡ y
same_value x y e = cc

value_kind : (k : Kind) (n : ℤ) → is_truth_value (value_by k n) ≡ is_logical_kind k
value_kind kind.Integer n = refl
value_kind kind.Logical n = refl
value_kind (kind.In t) n = refl
value_kind (kind.Out t) n = refl

constant_kind : (o : Option Constant) → is_truth_value (constant_by o) ≡ is_logical_constant o
constant_kind None = refl
constant_kind (Some (constant.Integer n)) = refl
constant_kind (Some (constant.Logical b)) = refl

named_kind : (s : Scope) (u : ProgramUnit) (name : List ℕ) → s.unit ≡ u → (o : Option (ℕ × Variable)) → is_truth_value (named_by s name o) ≡ is_logical_named u name o
named_kind s u name e None = ap (λ u. is_truth_value (constant_by (constant_of u name))) e ∙ constant_kind (constant_of u name)
named_kind s u name e (Some v) = value_kind v.1.kind _

result_kind : (o : Option (ℕ × Variable)) (n : ℤ) → is_truth_value (result_by o n) ≡ is_logical_result o
result_kind None n = refl
result_kind (Some v) n = value_kind v.1.kind n

number_kind : (r : Result ℤ Fault) (x : Value) → number r ≡ given x → is_truth_value x ≡ false
number_kind (Ok n) x e = sym (ap is_truth_value (same_value (value.Number n) x e))
number_kind (Err fault) x e = absurd (cc)

then_number_kind : (r : Result ℤ Fault) (x : Value) → (r >>= λ y. Ok (value.Number y)) ≡ given x → is_truth_value x ≡ false
then_number_kind (Ok n) x e = sym (ap is_truth_value (same_value (value.Number n) x e))
then_number_kind (Err fault) x e = absurd (cc)

truth_kind : (b : Bool) (x : Value) → given (value.Truth b) ≡ given x → is_truth_value x ≡ true
truth_kind b x e = sym (ap is_truth_value (same_value (value.Truth b) x e))

applied_kind : (o : Op) (v w x : Value) → applied o v w ≡ given x → is_truth_value x ≡ not (is_arithmetic o)
applied_kind op.Add v w x e = number_kind _ x e
applied_kind op.Sub v w x e = number_kind _ x e
applied_kind op.Mul v w x e = number_kind _ x e
applied_kind op.Div v w x e = number_kind _ x e
applied_kind op.Pow v w x e = number_kind _ x e
applied_kind op.Eq v w x e = truth_kind _ x e
applied_kind op.Ne v w x e = truth_kind _ x e
applied_kind op.Lt v w x e = truth_kind _ x e
applied_kind op.Le v w x e = truth_kind _ x e
applied_kind op.Gt v w x e = truth_kind _ x e
applied_kind op.Ge v w x e = truth_kind _ x e
applied_kind op.Eqv v w x e = truth_kind _ x e
applied_kind op.Neqv v w x e = truth_kind _ x e
applied_kind op.Or v w x e = truth_kind _ x e
applied_kind op.And v w x e = truth_kind _ x e
applied_kind op.Not v w x e = truth_kind _ x e

-- the last of several operations
came_from : {A B : Type 0} (r : Result A Fault) (g : A → Result B Fault) (y : B) → (r >>= g) ≡ Ok y → (x : A) × (g x ≡ Ok y)
came_from (Ok x) g y e = (x, e)
came_from (Err fault) g y e = absurd (cc)

module _ (p : Program) (u : ProgramUnit) (s : Scope) (unit : s.unit ≡ u) (program : s.program ≡ p) where
  reference_kind : (r : Reference) (q : Result (List ℤ) Fault) (n : ℕ) (x : Value) → ref_value s r q n ≡ given x → is_truth_value x ≡ is_logical_reference r
  reference_kind (Element i v) q n x e =
      let xs = came_from q _ x e in
      let k = came_from (element_place v.bounds xs.0) _ x xs.1 in
      sym (ap is_truth_value (same_value _ x k.1)) ∙ value_kind v.kind _
  reference_kind (Call m callee) q n x e = sym (ap is_truth_value (same_value _ x e)) ∙ result_kind (result_variable callee) _
  reference_kind (Built f) q n x e = let xs = came_from q _ x e in then_number_kind (intrinsic_value f xs.0) x xs.1
  reference_kind Unknown q n x e = sym (ap is_truth_value (same_value _ x e))

module _ (p : Program) (u : ProgramUnit) (slots : Slots) (m : Frame) where
  expression_kind : (t : Tree) (n : ℕ) (x : Value) → value_of (scope_in p u slots m) t n ≡ given x → is_truth_value x ≡ is_logical p u t
  expression_kind (Number k) n x e = sym (ap is_truth_value (same_value (value.Number k) x e))
  expression_kind (Truth b) n x e = truth_kind b x e
  expression_kind (Named name) n x e = sym (ap is_truth_value (same_value _ x e)) ∙ named_kind (scope_in p u slots m) u name refl (variable_of u name)
  expression_kind (Ref name args) n x e = reference_kind p u (scope_in p u slots m) refl refl (reference_of (names_in p u) name) _ _ x e
  expression_kind (Paren t) n x e = expression_kind t n x e
  expression_kind (Signed o t) n x e = let y = came_from (value_of (scope_in p u slots m) t n) _ x e in then_number_kind (with_sign o (word_of y.0)) x y.1
  expression_kind (Not t) n x e = let y = came_from (value_of (scope_in p u slots m) t n) _ x e in truth_kind _ x y.1
  expression_kind (Binary o a b) n x e =
      let y = came_from (value_of (scope_in p u slots m) a n) _ x e in
      let z = came_from (value_of (scope_in p u slots m) b (n + refs_in (scope_in p u slots m) a)) _ x y.1 in
      applied_kind o y.0 z.0 x z.1

-- Items.

-- a line, and nothing else
abbrev lined : List Printed → Scratch
lined items = record nothing { line = items }

abbrev texted : List Printed → List ℕ → Scratch
texted items bytes = record nothing { line = items; text = bytes }

take-twice : (n : ℕ) (xs : List ℤ) → take n (take n xs) ≡ take n xs
take-twice zero xs = refl
take-twice (suc n) [] = refl
take-twice (suc n) (x ∷ xs) = ap (λ l. x ∷ l) (take-twice n xs)

module _ (p : Program) (number : ℕ) (u : ProgramUnit) (here : unit_at p number ≡ Some u) (slots : Slots) (m : Frame) (frame : IsFrame u slots m) where
  abbrev scope : Scope
  scope = scope_in p u slots m

  letters_follow : (bytes before : List ℕ) (line : List Printed) (is : List Instr) → work (letters bytes ++ is) [] (texted line before) m ≡ work is [] (texted line (before ++ bytes)) m
  letters_follow [] before line is = ap (λ t. work is [] (texted line t) m) (sym (append-nil before))
  letters_follow (b ∷ bytes) before line is =
      letters_follow bytes (before ++ b ∷ []) line is ∙ ap (λ t. work is [] (texted line t) m) (append_assoc before (b ∷ []) bytes)

  show_follows : (x : Value) (c : Bool) → is_truth_value x ≡ c → (line : List Printed) (is : List Instr) → work (show c ∷ is) (word_of x ∷ []) (lined line) m ≡ work is [] (lined (line ++ printed_value x ∷ [])) m
  show_follows (value.Number n) true e line is = absurd (cc)
  show_follows (value.Number n) false e line is = refl
  show_follows (value.Truth b) true e line is = ap (λ t. work is [] (lined (line ++ printed.Truth t ∷ [])) m) (truth_kept (value.Truth b))
  show_follows (value.Truth b) false e line is = absurd (cc)

  value_follows : (t : Tree) (n : ℕ) → AreDone scope t n → (line : List Printed) (is : List Instr)
      → work (value_shown p u t n ++ is) [] (lined line) m ≡ then (printed_alone (value_of scope t n)) (λ ys. work is [] (lined (line ++ ys)) m)
  value_follows t n done line is =
      ap (λ c. work c [] (lined line) m) (append_assoc (expression_code p u t n) (show (is_logical p u t) ∷ []) is)
      ∙ keeps p number u t n here slots m frame done (show (is_logical p u t) ∷ is) [] (lined line)
      ∙ then_with (value_of scope t n) _ _ _ (λ x e. show_follows x (is_logical p u t) (expression_kind p u slots m t n x e) line is)

  inside : (f n : ℕ) → length (take n (drop f m.words)) ≡ n → 0 < n → nat_le (f + n) (length m.words) ≡ true
  inside f n full some =
      let bound : f + n ≤ length m.words = omega (arith, full, some, length-take n (drop f m.words), length-drop f m.words) in
      grind (arith, nat_tests)

  words_follow : (q : Kind) (f n : ℕ) → is_word q ≡ true → ItemFits frame.types (reading.kind_of q) n (item_by slots q (take n (drop f m.words))) → 0 < n → (line : List Printed) (is : List Instr)
      → work (words_shown q (record { first = f; count = n }) ∷ is) [] (lined line) m ≡ work is [] (lined (line ++ map (printed_by q) (take n (words_in (item_by slots q (take n (drop f m.words))))))) m
  words_follow kind.Integer f n e h some line is =
      ap (λ c. then_work (cond c (On [] (shown (lined line) (map number_item (take n (drop f m.words))))) (Over acts.Stuck)) (λ s b. work is s b m)) (inside f n h some)
      ∙ ap (λ ws. work is [] (lined (line ++ map number_item ws)) m) (sym (take-twice n (drop f m.words)))
  words_follow kind.Logical f n e h some line is =
      ap (λ c. then_work (cond c (On [] (shown (lined line) (map truth_item (take n (drop f m.words))))) (Over acts.Stuck)) (λ s b. work is s b m)) (inside f n h.0 some)
      ∙ ap (λ ws. work is [] (lined (line ++ map truth_item ws)) m) (sym (take-twice n (drop f m.words)))
  words_follow (kind.In t) f n e h some line is = absurd (cc)
  words_follow (kind.Out t) f n e h some line is = absurd (cc)

  no_words : (q : Kind) (n : ℕ) (ws : List ℤ) → is_word q ≡ false → map (printed_by q) (take n (words_in (item_by slots q ws))) ≡ []
  no_words kind.Integer n ws e = absurd (cc)
  no_words kind.Logical n ws e = absurd (cc)
  no_words (kind.In t) zero ws e = refl
  no_words (kind.In t) (suc n) ws e = refl
  no_words (kind.Out t) zero ws e = refl
  no_words (kind.Out t) (suc n) ws e = refl

  variable_follows : (i : ℕ) (v : Variable) → slice_get u.names.variables i ≡ Some v → (line : List Printed) (is : List Instr)
      → work (variable_shown v ++ is) [] (lined line) m ≡ work is [] (lined (line ++ map (printed_by v.kind) (words_of scope.values (whole i v)))) m
  variable_follows i v at line is = go (is_word v.kind) (nat_lt 0 v.words) refl refl ∙ ap (λ x. work is [] (lined (line ++ map (printed_by v.kind) (take v.words (words_in x)))) m) (sym (item_read slots m.words u.names.variables i v at))
    where
      go : (c d : Bool) → is_word v.kind ≡ c → nat_lt 0 v.words ≡ d
          → work (cond (c && d) (words_shown v.kind (record { first = v.first; count = v.words }) ∷ []) [] ++ is) [] (lined line) m
          ≡ work is [] (lined (line ++ map (printed_by v.kind) (take v.words (words_in (item_by slots v.kind (take v.words (drop v.first m.words))))))) m
      go true true e f = words_follow v.kind v.first v.words e (item_fits frame.types slots m.words u.names.variables i v frame.fits at) (grind (arith, nat_tests)) line is
      go true false e f =
          let none : v.words ≡ 0 = grind (arith, nat_tests) in
          ap (λ l. work is [] (lined l) m) (sym (append-nil line))
          ∙ ap (λ n. work is [] (lined (line ++ map (printed_by v.kind) (take n (words_in (item_by slots v.kind (take v.words (drop v.first m.words))))))) m) (sym none)
      go false d e f =
          ap (λ l. work is [] (lined l) m) (sym (append-nil line))
          ∙ ap (λ l. work is [] (lined (line ++ l)) m) (sym (no_words v.kind v.words (take v.words (drop v.first m.words)) e))

  named_follows : (name : List ℕ) (o : Option (ℕ × Variable)) → IsAt u.names.variables o → (line : List Printed) (is : List Instr)
      → work (named_shown p u name o ++ is) [] (lined line) m ≡ work is [] (lined (line ++ printed_named scope name o)) m
  named_follows name None at line is = show_follows (constant_by (constant_of u name)) (is_logical_constant (constant_of u name)) (constant_kind (constant_of u name)) line is
  named_follows name (Some v) at line is = variable_follows v.0 v.1 at line is

  tree_follows : (t : Tree) (n : ℕ) → AreDone scope t n → (line : List Printed) (is : List Instr)
      → work (tree_shown p u t n ++ is) [] (lined line) m ≡ then (printed_tree scope t n) (λ ys. work is [] (lined (line ++ ys)) m)
  tree_follows (Number k) n done line is = value_follows (Number k) n done line is
  tree_follows (Truth b) n done line is = value_follows (Truth b) n done line is
  tree_follows (Named name) n done line is = named_follows name (variable_of u name) (named_at p u name) line is
  tree_follows (Ref name args) n done line is = value_follows (Ref name args) n done line is
  tree_follows (Paren t) n done line is = value_follows (Paren t) n done line is
  tree_follows (Signed o t) n done line is = value_follows (Signed o t) n done line is
  tree_follows (Not t) n done line is = value_follows (Not t) n done line is
  tree_follows (Binary o a b) n done line is = value_follows (Binary o a b) n done line is

  pub items_follow : (items : List Item) (n : ℕ) → ItemsDone scope items n → (line : List Printed) (is : List Instr)
      → work (items_code p u items n ++ is) [] (lined line) m ≡ then (printed_all scope items n) (λ ys. work is [] (lined (line ++ ys)) m)
  items_follow [] n done line is = ap (λ l. work is [] (lined l) m) (sym (append-nil line))
  items_follow (item.Constant bytes ∷ items) n done line is =
      let zero : n ≡ n + 0 = omega arith in
      ap (λ c. work c [] (lined line) m) (append_assoc (letters bytes ++ instr.Build build.ShowText ∷ []) (items_code p u items (n + 0)) is)
      ∙ ap (λ c. work c [] (lined line) m) (append_assoc (letters bytes) (instr.Build build.ShowText ∷ []) (items_code p u items (n + 0) ++ is))
      ∙ ap (λ k. work (letters bytes ++ (instr.Build build.ShowText ∷ (items_code p u items k ++ is))) [] (lined line) m) (sym zero)
      ∙ letters_follow bytes [] line (instr.Build build.ShowText ∷ (items_code p u items n ++ is))
      ∙ items_follow items n done (line ++ printed.Text bytes ∷ []) is
      ∙ then_chain (printed_all scope items n) _ _ _ (λ ys. ap (λ l. work is [] (lined l) m) (append_assoc line (printed.Text bytes ∷ []) ys))
  items_follow (item.Expr e ∷ items) n done line is =
      ap (λ c. work c [] (lined line) m) (append_assoc (tree_shown p u e n) (items_code p u items (n + refs_in (names_in p u) e)) is)
      ∙ tree_follows e n done.0 line (items_code p u items (n + refs_in (names_in p u) e) ++ is)
      ∙ then_chain (printed_tree scope e n) _ _ _ (λ ys.
      ap (λ k. work (items_code p u items (n + k) ++ is) [] (lined (line ++ ys)) m) (sym (refs_same p u slots m e))
      ∙ items_follow items (n + refs_in scope e) done.1 (line ++ ys) is
      ∙ then_chain (printed_all scope items (n + refs_in scope e)) _ _ _ (λ zs. ap (λ l. work is [] (lined l) m) (append_assoc line ys zs)))
