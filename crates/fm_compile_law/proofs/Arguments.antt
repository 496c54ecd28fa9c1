-- The code of arguments, of items of a message and of targets leaves operands, which fit what takes the same types and as many
-- words.
use Rattle.std.proofs.Common.{◌≡◌, ℕ, ◌+◌, ◌≤◌, Bool, true, false, ◌&&◌, ◌==◌, Option, Some, None, List, [], ◌∷◌, length, reverse, refl, sym, ap, subst, ◌∙◌, arith}
use Rattle.std.specs.Prelude.{slice_get}
use Rattle.std.proofs.lemmas.Bool.{eq-eqb}
use Rattle.fm_net.specs.Typed.{AllIn}
use Rattle.fm_values.specs.Operations.{is_arithmetic}
use Rattle.fm_values.specs.Places.{Bounds}
use Rattle.fm_tree.specs.Tree.{Tree, Trees, Number, Truth, Named, Ref, Paren, Signed, Not, Binary, NoTrees, More, trees_from}
use Rattle.fm_tree.specs.References.{applied, applied_each, in_var, in_vars}
use Rattle.fm_tree.specs.PortFields.{FieldKind, Integer, Logical, In, Out}
use Rattle.fm_tree.specs.PortReading.{kind_of}
use Rattle.fm_tree.specs.declared.port_type.Kind.{Kind}
use Rattle.fm_tree.specs.declared.port_type.Kind.TheVariants as kind
use Rattle.fm_tree.specs.declared.statement.Var.{Var}
use Rattle.fm_symbols.specs.declared.names.Constant.{Constant}
use Rattle.fm_symbols.specs.declared.names.Constant.TheVariants as constant
use Rattle.fm_symbols.specs.declared.names.Variable.{Variable}
use Rattle.fm_rules.specs.declared.program.Program.{Program}
use Rattle.fm_mean.specs.Names.{ProgramUnit, variable_of, constant_of, result_variable}
use Rattle.fm_mean.specs.Evaluate.{Scope, Reference, Element, Call, Built, Unknown, is_array, reference_of, refs_in, refs_in_all, refs_in_var, refs_in_vars}
use Rattle.fm_mean.specs.Fits.{sort_of_variable}
use Rattle.fm_mean.specs.Referring.{names_in}
use Rattle.fm_mean.specs.ValueTypes.{word_type, constant_type, named_type, result_type, ref_type, given_by, type_of, alone, named_arg, ref_arg}
use Rattle.fm_mean.proofs.JudgedItems.{all_left, all_right}
use Rattle.fm_code.specs.declared.code.Span.{Span}
use Rattle.fm_code.specs.declared.instr.Instr.{Instr}
use Rattle.fm_code_kinds.specs.declared.kinds.Kind.TheVariants.{Word, Operand}
use Rattle.fm_code_kinds.specs.declared.kinds.Passed.{Passed}
use Rattle.fm_code_kinds.specs.declared.kinds.Passed.TheVariants as pass
use Rattle.fm_code_kinds.specs.declared.sorts.Cell.{Cell}
use Rattle.fm_code_kinds.specs.Shapes.{sort_at, are_words}
use Rattle.fm_code_kinds.specs.Effects.{given_where, is_port_sort, are_any_ports, fits_room, is_target, sized, operands_over, results_in}
use Rattle.fm_gen_relation.specs.Sound.{IsSoundUnit, IsVariable, is_word}
use Rattle.fm_gen_relation.specs.Targets.{target_words}
use Rattle.fm_gen_operands.specs.Code.{trees_count, named_code, expression_code}
use Rattle.fm_gen_operands.specs.Places.{whole_span, pass_whole, pass_at, pass_value, named_argument, value_argument, reference_argument, argument_code, arguments_code, target_by, target_code, targets_code}
use Rattle.fm_gen_operands.proofs.Follows.{IsAt, IsReferenceAt, named_at, reference_at}
use Rattle.fm_object.specs.declared.image.FieldImage.{FieldImage}
use Rattle.fm_image.specs.Types.{number_in}
use Rattle.fm_compile_law.specs.Types.{sort_by}
use Rattle.fm_compile_law.specs.Along.{then_on, along, LeavesOperand, LeavesOperands}
use Rattle.fm_compile_law.specs.Counted.{FitsCount, IsCounted, AreCounted, VariableFits, VarFits}
use Rattle.fm_compile_law.specs.Passed.{IsArgument, AreArguments, IsTarget, IsTargetOf, AreTargets}
use Rattle.fm_compile_law.proofs.Straight.{some_list, then_one, then_more, operand_first}
use Rattle.fm_compile_law.proofs.Cells.{IsPart}
use Rattle.fm_compile_law.proofs.Expressions.{Kinds, cs, part_sort, part_words, element_part, words_some, named_leaves, expression_leaves}
use Rattle.fm_compile_law.proofs.Places.{elements, located_leaves, there, each_of}

self : (n : ℕ) → (n == n) ≡ true
self n = eq-eqb n n refl

-- ---- a value has the type of a word

abbrev pub IsWordType : Option FieldKind → Type 0
IsWordType None = Unit {0}
IsWordType (Some Integer) = Unit {0}
IsWordType (Some Logical) = Unit {0}
IsWordType (Some (In t)) = ⊥
IsWordType (Some (Out t)) = ⊥

word_of_kind : (r : FieldKind) → IsWordType (word_type r)
word_of_kind Integer = tt
word_of_kind Logical = tt
word_of_kind (In t) = tt
word_of_kind (Out t) = tt

word_of_constant : (o : Option Constant) → IsWordType (Some (constant_type o))
word_of_constant None = tt
word_of_constant (Some (constant.Integer n)) = tt
word_of_constant (Some (constant.Logical b)) = tt

word_of_name : (s : Scope) (name : List ℕ) (o : Option (ℕ × Variable)) → IsWordType (named_type s name o)
word_of_name s name None = word_of_constant (constant_of s.unit name)
word_of_name s name (Some v) = word_of_kind (sort_of_variable v.1)

word_of_result : (o : Option (ℕ × Variable)) → IsWordType (result_type o)
word_of_result None = tt
word_of_result (Some v) = word_of_kind (sort_of_variable v.1)

word_of_reference : (r : Reference) → IsWordType (ref_type r)
word_of_reference (Element i v) = word_of_kind (sort_of_variable v)
word_of_reference (Call k callee) = word_of_result (result_variable callee)
word_of_reference (Built f) = tt
word_of_reference Unknown = tt

word_of_operator : (b : Bool) → IsWordType (Some (given_by b))
word_of_operator true = tt
word_of_operator false = tt

pub word_of_tree : (s : Scope) (t : Tree) → IsWordType (type_of s t)
word_of_tree s (Number k) = tt
word_of_tree s (Truth b) = tt
word_of_tree s (Named name) = word_of_name s name (variable_of s.unit name)
word_of_tree s (Ref name args) = word_of_reference (reference_of s name)
word_of_tree s (Paren e) = word_of_tree s e
word_of_tree s (Signed o e) = tt
word_of_tree s (Not e) = tt
word_of_tree s (Binary o a b) = word_of_operator (is_arithmetic o)

abbrev typed : FieldKind × ℕ → Option (FieldKind × ℕ)
typed x = Some x

the_type : (x y : FieldKind × ℕ) → typed x ≡ typed y → x ≡ y
the_type x y e = cc

module _ (ts : List (List FieldImage)) (all : List Cell) where
  abbrev Room : Passed → FieldKind × ℕ → Type 0
  Room o x = fits_room all (sort_by ts x.0) x.1 o ≡ true

  -- a value where a value of its type is taken
  value_fits : (o : Option FieldKind) → IsWordType o → (r : FieldKind) (m : ℕ) → alone o ≡ Some (r, m) → Room pass.Value (r, m)
  value_fits None h r m e = absurd cc
  value_fits (Some Integer) h r m e = subst (Room pass.Value) (the_type (Integer, 1) (r, m) e) refl
  value_fits (Some Logical) h r m e = subst (Room pass.Value) (the_type (Logical, 1) (r, m) e) refl
  value_fits (Some (In t)) h r m e = absurd h
  value_fits (Some (Out t)) h r m e = absurd h

abbrev whole_operand : Kind → Span → Passed
whole_operand kind.Integer s = pass.Words s
whole_operand kind.Logical s = pass.Words s
whole_operand (kind.In t) s = pass.Ports s
whole_operand (kind.Out t) s = pass.Ports s

abbrev element_operand : Kind → Span → Passed
element_operand kind.Integer s = pass.WordIn s
element_operand kind.Logical s = pass.WordIn s
element_operand (kind.In t) s = pass.PortIn s
element_operand (kind.Out t) s = pass.PortIn s

module _ (p : Program) (u : ProgramUnit) (sound : IsSoundUnit u) (ts : List (List FieldImage)) (n : ℕ) where
  abbrev mine : List Variable
  mine = u.names.variables

  abbrev all : List Cell
  all = cs p u sound ts n

  abbrev now : Scope
  now = names_in p u

  module _ (i : ℕ) (v : Variable) (at : slice_get mine i ≡ Some v) where
    pub whole_part : IsPart v (whole_span v)
    whole_part = record { low = omega arith; high = omega arith; some = words_some p u sound ts n i v at }

    words_there : (s : Span) → IsPart v s → (q : Kind) → v.kind ≡ q → is_word q ≡ true → are_words all s ≡ true
    words_there s h q is holds = part_words p u sound ts n i v s at (ap is_word is ∙ holds) h

    sort_is : (s : Span) → IsPart v s → (q : Kind) → v.kind ≡ q → sort_at all s ≡ Some (sort_by ts (kind_of q))
    sort_is s h q is = part_sort p u sound ts n i v s at h ∙ ap (λ (q : Kind). Some (sort_by ts (kind_of q))) is

    ports_there : (s : Span) → IsPart v s → (q : Kind) → v.kind ≡ q → is_port_sort (Some (sort_by ts (kind_of q))) ≡ true → are_any_ports all s ≡ true
    ports_there s h q is port = ap is_port_sort (sort_is s h q is) ∙ port

    -- all words of a variable
    whole_leaves : (q : Kind) → v.kind ≡ q → (ks : Kinds) → along all n (pass_whole q (whole_span v) ∷ []) ks ≡ Some (Operand (whole_operand q (whole_span v)) ∷ ks)
    whole_leaves kind.Integer is ks = ap (λ b. then_on (given_where b (Operand (pass.Words (whole_span v)) ∷ ks)) (λ ms. some_list ms)) (words_there (whole_span v) whole_part kind.Integer is refl)
    whole_leaves kind.Logical is ks = ap (λ b. then_on (given_where b (Operand (pass.Words (whole_span v)) ∷ ks)) (λ ms. some_list ms)) (words_there (whole_span v) whole_part kind.Logical is refl)
    whole_leaves (kind.In t) is ks = ap (λ b. then_on (given_where b (Operand (pass.Ports (whole_span v)) ∷ ks)) (λ ms. some_list ms)) (ports_there (whole_span v) whole_part (kind.In t) is refl)
    whole_leaves (kind.Out t) is ks = ap (λ b. then_on (given_where b (Operand (pass.Ports (whole_span v)) ∷ ks)) (λ ms. some_list ms)) (ports_there (whole_span v) whole_part (kind.Out t) is refl)

    -- one of them by its number
    abbrev its : Span
    its = elements p u sound ts n v

    its_part : IsPart v its
    its_part = element_part p u sound ts n i v at

    element_leaves : (q : Kind) → v.kind ≡ q → (ks : Kinds) → along all n (pass_at q ∷ []) (Word (Some its) ∷ ks) ≡ Some (Operand (element_operand q its) ∷ ks)
    element_leaves kind.Integer is ks = ap (λ b. then_on (given_where b (Operand (pass.WordIn its) ∷ ks)) (λ ms. some_list ms)) (words_there its its_part kind.Integer is refl)
    element_leaves kind.Logical is ks = ap (λ b. then_on (given_where b (Operand (pass.WordIn its) ∷ ks)) (λ ms. some_list ms)) (words_there its its_part kind.Logical is refl)
    element_leaves (kind.In t) is ks = ap (λ b. then_on (given_where b (Operand (pass.PortIn its) ∷ ks)) (λ ms. some_list ms)) (ports_there its its_part (kind.In t) is refl)
    element_leaves (kind.Out t) is ks = ap (λ b. then_on (given_where b (Operand (pass.PortIn its) ∷ ks)) (λ ms. some_list ms)) (ports_there its its_part (kind.Out t) is refl)

    whole_target : (q : Kind) → is_target (whole_operand q (whole_span v)) ≡ true
    whole_target kind.Integer = refl
    whole_target kind.Logical = refl
    whole_target (kind.In t) = refl
    whole_target (kind.Out t) = refl

    element_target : (q : Kind) (s : Span) → is_target (element_operand q s) ≡ true
    element_target kind.Integer s = refl
    element_target kind.Logical s = refl
    element_target (kind.In t) s = refl
    element_target (kind.Out t) s = refl

    whole_fits : (q : Kind) → v.kind ≡ q → fits_room all (sort_by ts (kind_of q)) v.words (whole_operand q (whole_span v)) ≡ true
    whole_fits kind.Integer is = λ j. self v.words j && words_there (whole_span v) whole_part kind.Integer is refl j
    whole_fits kind.Logical is = λ j. self v.words j && words_there (whole_span v) whole_part kind.Logical is refl j
    whole_fits (kind.In t) is =
        let k = sort_by ts (kind_of (kind.In t)) in
        ap (λ o. sized v.words v.words o k) (sort_is (whole_span v) whole_part (kind.In t) is) ∙ (λ j. self v.words j && self (number_in ts t) j)
    whole_fits (kind.Out t) is =
        let k = sort_by ts (kind_of (kind.Out t)) in
        ap (λ o. sized v.words v.words o k) (sort_is (whole_span v) whole_part (kind.Out t) is) ∙ (λ j. self v.words j && self (number_in ts t) j)

    element_fits : (q : Kind) → v.kind ≡ q → fits_room all (sort_by ts (kind_of q)) 1 (element_operand q its) ≡ true
    element_fits kind.Integer is = words_there its its_part kind.Integer is refl
    element_fits kind.Logical is = words_there its its_part kind.Logical is refl
    element_fits (kind.In t) is =
        let k = sort_by ts (kind_of (kind.In t)) in
        ap (λ o. sized 1 1 o k) (sort_is its its_part (kind.In t) is) ∙ self (number_in ts t)
    element_fits (kind.Out t) is =
        let k = sort_by ts (kind_of (kind.Out t)) in
        ap (λ o. sized 1 1 o k) (sort_is its its_part (kind.Out t) is) ∙ self (number_in ts t)

  -- ---- arguments

  abbrev Argument : Tree → List Instr → Kinds → Type 0
  Argument t code ks = LeavesOperand all n (IsArgument ts all now t) code ks

  value_leaves : (t : Tree) (k : ℕ) (ks : Kinds) → k + refs_in now t ≤ results_in ks → AreCounted p u (applied t) → IsArgument ts all now t pass.Value → Argument t (value_argument p u t k) ks
  value_leaves t k ks done h fits =
      let x = expression_leaves p u sound ts n t k ks done h in
      record { operand = pass.Value; leaves = then_one all n (expression_code p u t k) pass_value ks (Word x.told ∷ ks) (Operand pass.Value ∷ ks) x.leaves refl; is = fits }

  array_some : (bs : Bounds) → is_array bs ≡ true → bs ≡ [] → ⊥
  array_some [] e f = absurd cc
  array_some (b ∷ bs) e f = absurd cc

  named_argument_leaves : (name : List ℕ) (o : Option (ℕ × Variable)) → variable_of u name ≡ o → IsAt mine o → (ks : Kinds) → Argument (Named name) (named_argument u name o) ks
  named_argument_leaves name None is at ks =
      let x = named_leaves p u sound ts n name None ks at in
      record {
        operand = pass.Value;
        leaves = then_one all n (named_code u name None ∷ []) pass_value ks (Word x.told ∷ ks) (Operand pass.Value ∷ ks) x.leaves refl;
        is = λ r m e. value_fits ts all (named_type now name None) (word_of_name now name None) r m (sym (ap (λ o. named_arg now name o) is) ∙ e);
      }
  named_argument_leaves name (Some v) is at ks = record {
    operand = whole_operand v.1.kind (whole_span v.1);
    leaves = whole_leaves v.0 v.1 at v.1.kind refl ks;
    is = λ r m e. subst (Room ts all (whole_operand v.1.kind (whole_span v.1))) (the_type (sort_of_variable v.1, v.1.words) (r, m) (sym (ap (λ o. named_arg now name o) is) ∙ e)) (whole_fits v.0 v.1 at v.1.kind refl);
  }

  reference_argument_leaves : (name : List ℕ) (l : Trees) (k : ℕ) (ks : Kinds) → k + refs_in now (Ref name l) ≤ results_in ks → AreCounted p u (applied (Ref name l)) → (r : Reference) → reference_of now name ≡ r → IsReferenceAt mine r
      → FitsCount r (trees_count l) → Argument (Ref name l) (reference_argument p u r name l k) ks
  reference_argument_leaves name l k ks done h (Element i v) is at fits = record {
    operand = element_operand v.kind (elements p u sound ts n v);
    leaves = located_leaves p u sound ts n i v at.0 l k (pass_at v.kind ∷ []) ks (array_some v.bounds at.1) fits (omega (arith, done)) (all_left (IsCounted p u) (applied_each l) (Ref name l ∷ []) h)
        ∙ element_leaves i v at.0 v.kind refl ks;
    is = λ r m e. subst (Room ts all (element_operand v.kind (elements p u sound ts n v))) (the_type (sort_of_variable v, 1) (r, m) (sym (ap (λ x. ref_arg x) is) ∙ e)) (element_fits i v at.0 v.kind refl);
  }
  reference_argument_leaves name l k ks done h (Call j callee) is at fits =
      value_leaves (Ref name l) k ks done h (λ r m e. value_fits ts all (ref_type (Call j callee)) (word_of_reference (Call j callee)) r m (sym (ap (λ x. ref_arg x) is) ∙ e))
  reference_argument_leaves name l k ks done h (Built f) is at fits =
      value_leaves (Ref name l) k ks done h (λ r m e. value_fits ts all (ref_type (Built f)) tt r m (sym (ap (λ x. ref_arg x) is) ∙ e))
  reference_argument_leaves name l k ks done h Unknown is at fits =
      value_leaves (Ref name l) k ks done h (λ r m e. value_fits ts all None tt r m (sym (ap (λ x. ref_arg x) is) ∙ e))

  pub argument_leaves : (t : Tree) (k : ℕ) (ks : Kinds) → k + refs_in now t ≤ results_in ks → AreCounted p u (applied t) → Argument t (argument_code p u t k) ks
  argument_leaves (Number m) k ks done h = value_leaves (Number m) k ks done h (λ r m e. value_fits ts all (Some Integer) tt r m e)
  argument_leaves (Truth b) k ks done h = value_leaves (Truth b) k ks done h (λ r m e. value_fits ts all (Some Logical) tt r m e)
  argument_leaves (Named name) k ks done h = named_argument_leaves name (variable_of u name) refl (named_at p u name) ks
  argument_leaves (Ref name l) k ks done h =
      reference_argument_leaves name l k ks done h (reference_of now name) refl (reference_at p u name) (all_right (IsCounted p u) (applied_each l) (Ref name l ∷ []) h).0
  argument_leaves (Paren e) k ks done h = value_leaves (Paren e) k ks done h (λ r m f. value_fits ts all (type_of now e) (word_of_tree now e) r m f)
  argument_leaves (Signed o e) k ks done h = value_leaves (Signed o e) k ks done h (λ r m f. value_fits ts all (Some Integer) tt r m f)
  argument_leaves (Not e) k ks done h = value_leaves (Not e) k ks done h (λ r m f. value_fits ts all (Some Logical) tt r m f)
  argument_leaves (Binary o a b) k ks done h = value_leaves (Binary o a b) k ks done h (λ r m f. value_fits ts all (type_of now (Binary o a b)) (word_of_tree now (Binary o a b)) r m f)

  pub arguments_leave : (l : Trees) (k : ℕ) (ks : Kinds) → k + refs_in_all now l ≤ results_in ks → AreCounted p u (applied_each l) → LeavesOperands all n (AreArguments ts all now l) (arguments_code p u l k) ks
  arguments_leave NoTrees k ks done h = record { operands = []; leaves = refl; are = tt }
  arguments_leave (More t l) k ks done h =
      let x = argument_leaves t k ks (omega (arith, done)) (all_left (IsCounted p u) (applied t) (applied_each l) h) in
      let y = arguments_leave l (k + refs_in now t) (Operand x.operand ∷ ks) (omega (arith, done)) (all_right (IsCounted p u) (applied t) (applied_each l) h) in
      record {
        operands = x.operand ∷ y.operands;
        leaves = then_more all n (argument_code p u t k) (arguments_code p u l (k + refs_in now t)) ks (Operand x.operand ∷ ks) (operands_over (reverse (x.operand ∷ y.operands)) ks) x.leaves
            (y.leaves ∙ ap some_list (operand_first x.operand y.operands ks));
        are = (x.is, y.are);
      }

  -- ---- targets

  target_by_leaves : (w : ℕ × Variable) → slice_get mine w.0 ≡ Some w.1 → (l : Trees) (k : ℕ) (ks : Kinds) → VariableFits (Some w) l → k + refs_in_all now l ≤ results_in ks → AreCounted p u (applied_each l)
      → LeavesOperand all n (IsTarget ts all w.1 (target_words w.1 l)) (target_by p u (Some w) l k) ks
  target_by_leaves w at NoTrees k ks fits done h = record {
    operand = whole_operand w.1.kind (whole_span w.1);
    leaves = whole_leaves w.0 w.1 at w.1.kind refl ks;
    is = record { target = whole_target w.0 w.1 at w.1.kind; fits = whole_fits w.0 w.1 at w.1.kind refl };
  }
  target_by_leaves w at (More t l) k ks fits done h = record {
    operand = element_operand w.1.kind (elements p u sound ts n w.1);
    leaves = located_leaves p u sound ts n w.0 w.1 at (More t l) k (pass_at w.1.kind ∷ []) ks (λ none. absurd (omega (arith, fits, ap length none))) fits done h ∙ element_leaves w.0 w.1 at w.1.kind refl ks;
    is = record { target = element_target w.0 w.1 at w.1.kind (elements p u sound ts n w.1); fits = element_fits w.0 w.1 at w.1.kind refl };
  }

  pub target_leaves : (v : Var) → IsVariable u v.name → VarFits u v → (k : ℕ) (ks : Kinds) → k + refs_in_var now v ≤ results_in ks → AreCounted p u (in_var v) → LeavesOperand all n (IsTargetOf ts all u v) (target_code p u v k) ks
  target_leaves v named fits k ks done h =
      let l = trees_from v.subscripts in
      let x = target_by_leaves named.0 (there p u sound ts n v.name named.0 named.1) l k ks (subst (λ o. VariableFits o l) named.1 fits) done (rw each_of h) in
      record {
        operand = x.operand;
        leaves = ap (λ o. along all n (target_by p u o l k) ks) named.1 ∙ x.leaves;
        is = record { variable = named.0; named = named.1; is = x.is };
      }

  pub targets_leave : (vs : List Var) → AllIn (λ (v : Var). IsVariable u v.name) vs → AllIn (VarFits u) vs → (k : ℕ) (ks : Kinds) → k + refs_in_vars now vs ≤ results_in ks → AreCounted p u (in_vars vs)
      → LeavesOperands all n (AreTargets ts all u vs) (targets_code p u vs k) ks
  targets_leave [] named fits k ks done h = record { operands = []; leaves = refl; are = tt }
  targets_leave (v ∷ vs) named fits k ks done h =
      let x = target_leaves v named.0 fits.0 k ks (omega (arith, done)) (all_left (IsCounted p u) (in_var v) (in_vars vs) h) in
      let y = targets_leave vs named.1 fits.1 (k + refs_in_var now v) (Operand x.operand ∷ ks) (omega (arith, done)) (all_right (IsCounted p u) (in_var v) (in_vars vs) h) in
      record {
        operands = x.operand ∷ y.operands;
        leaves = then_more all n (target_code p u v k) (targets_code p u vs (k + refs_in_var now v)) ks (Operand x.operand ∷ ks) (operands_over (reverse (x.operand ∷ y.operands)) ks) x.leaves
            (y.leaves ∙ ap some_list (operand_first x.operand y.operands ks));
        are = (x.is, y.are);
      }
