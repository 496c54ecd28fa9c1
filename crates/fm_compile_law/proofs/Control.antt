-- Statements that ask nobody: each is walked through from a list of results, and leads to where the statement does.
use Rattle.std.proofs.Common.{◌≡◌, ℕ, suc, ◌+◌, ◌<◌, ◌≤◌, Bool, true, false, cond, ◌&&◌, ◌==◌, Option, Some, None, List, [], ◌∷◌, ◌++◌, length, refl, sym, ap, subst, ◌∙◌, arith, append_assoc}
use Rattle.std.specs.Prelude.{slice_get, nat_lt}
use Rattle.std.specs.Option.{option_map}
use Rattle.std.specs.List.{flat_map}
use Rattle.std.proofs.lemmas.Bool.{lt-ltb, eq-eqb}
use Rattle.fm_values.specs.Values.{word_of}
use Rattle.fm_tree.specs.Tree.{Tree, Trees, Number, Truth, Named, Ref, Paren, Signed, Not, Binary, NoTrees, More}
use Rattle.fm_tree.specs.References.{applied, applied_each, in_item, in_loop, in_optional}
use Rattle.fm_tree.specs.PortFields.{FieldKind, Integer}
use Rattle.fm_tree.specs.PortReading as reading
use Rattle.fm_tree.specs.declared.form.UnitKind.{UnitKind}
use Rattle.fm_tree.specs.declared.form.UnitKind.TheVariants as unit_kind
use Rattle.fm_tree.specs.declared.port_type.Kind.{Kind}
use Rattle.fm_tree.specs.declared.port_type.Kind.TheVariants as kind
use Rattle.fm_tree.specs.declared.statement.Item.{Item}
use Rattle.fm_tree.specs.declared.statement.Item.TheVariants as item
use Rattle.fm_tree.specs.declared.statement.LoopHead.{LoopHead}
use Rattle.fm_symbols.specs.Headings.{heading_name}
use Rattle.fm_symbols.specs.declared.names.Variable.{Variable}
use Rattle.fm_rules.specs.declared.program.Program.{Program}
use Rattle.fm_mean.specs.Names.{ProgramUnit, kind_of, variable_if, variable_of, constant_of, result_variable}
use Rattle.fm_mean.specs.Evaluate.{Scope, constant_by, refs_in, refs_in_all}
use Rattle.fm_mean.specs.Fits.{sort_of_variable}
use Rattle.fm_mean.specs.Referring.{names_in}
use Rattle.fm_mean.specs.Typing.{sort_of}
use Rattle.fm_mean.proofs.JudgedItems.{all_left, all_right}
use Rattle.fm_code.specs.declared.code.Span.{Span}
use Rattle.fm_code.specs.declared.instr.Build.TheVariants as build
use Rattle.fm_code.specs.declared.instr.End.TheVariants as end
use Rattle.fm_code.specs.declared.instr.Instr.{Instr}
use Rattle.fm_code.specs.declared.instr.Instr.TheVariants as instr
use Rattle.fm_code.specs.declared.instr.Loop.{Loop}
use Rattle.fm_code.specs.declared.instr.Meet.TheVariants as meet
use Rattle.fm_code_kinds.specs.declared.kinds.Kind.TheVariants.{Word, LoopOf}
use Rattle.fm_code_kinds.specs.declared.sorts.Cell.{Cell}
use Rattle.fm_code_kinds.specs.declared.sorts.Shape.{Shape}
use Rattle.fm_code_kinds.specs.declared.sorts.Shapes.{Shapes}
use Rattle.fm_code_kinds.specs.Shapes.{single, are_words, is_subroutine, is_function}
use Rattle.fm_code_kinds.specs.Effects.{Effect, Over, Ill, given_where, pushed, only_results, results_in, ending, effect}
use Rattle.fm_gen_relation.specs.Sound.{IsSoundUnit, HasResult, is_word}
use Rattle.fm_gen_operands.specs.Code.{place_code, trees_count, expression_code, expressions_code}
use Rattle.fm_gen_operands.specs.Places.{locate, whole_span}
use Rattle.fm_gen_operands.proofs.Follows.{IsAt, named_at}
use Rattle.fm_gen.specs.Statements.{goto, holds_word, variable_meant, first_store, locate_code, element_store, assigned_code, letters, show, words_shown, variable_shown, named_shown, value_shown, tree_shown, item_code, refs_in_item, items_code, print_code, is_logical_constant, is_logical, step_code, bounds_code, first_in, loop_word, loop_code, do_code, test_code, result_word, return_code, block_code}
use Rattle.fm_object.specs.declared.image.FieldImage.{FieldImage}
use Rattle.fm_compile_law.specs.Along.{then_on, straight, along, LeavesWord}
use Rattle.fm_compile_law.specs.Counted.{IsCounted, AreCounted, VariableFits}
use Rattle.fm_compile_law.specs.Units.{heading_by, shape_by}
use Rattle.fm_compile_law.specs.Walks.{behind, Elsewhere, Next, StepsWell, Joined, Steps, Walks}
use Rattle.fm_compile_law.proofs.Straight.{some_list, then_one, then_more}
use Rattle.fm_compile_law.proofs.Expressions.{Kinds, cs, words_some, part_words, first_part, element_part, expression_leaves}
use Rattle.fm_compile_law.proofs.Places.{elements, located_leaves}
use Rattle.fm_compile_law.proofs.Arguments.{whole_part}
use Rattle.fm_compile_law.proofs.Walks.{IsApart, end_apart, some_behind, straight_then, ends_at, closes}

-- a name of a sort is that of a variable of the sort
pub sorted : (u : ProgramUnit) (name : List ℕ) (r : FieldKind) → sort_of u name ≡ Some r → (w : ℕ × Variable) × (variable_of u name ≡ Some w) × (reading.kind_of w.1.kind ≡ r)
sorted u name r e = go (variable_of u name) refl e
  where
    the_kind : (a b : FieldKind) → Some a ≡ Some b → a ≡ b
    the_kind a b e = cc

    go : (o : Option (ℕ × Variable)) → variable_of u name ≡ o → option_map (λ (v : ℕ × Variable). sort_of_variable v.1) o ≡ Some r → (w : ℕ × Variable) × (variable_of u name ≡ Some w) × (reading.kind_of w.1.kind ≡ r)
    go None is e = absurd cc
    go (Some w) is e = (w, is, the_kind (sort_of_variable w.1) r e)

pub integer_word : (q : Kind) → reading.kind_of q ≡ Integer → is_word q ≡ true
integer_word kind.Integer e = refl
integer_word kind.Logical e = refl
integer_word (kind.In t) e = absurd cc
integer_word (kind.Out t) e = absurd cc

first_true : (a b : Bool) → (a && b) ≡ true → a ≡ true
first_true true b e = refl
first_true false b e = absurd cc

module _ (p : Program) (u : ProgramUnit) (sound : IsSoundUnit u) (ts : List (List FieldImage)) (n : ℕ) (ss : Shapes) (Good : ℕ → Type 0) where
  abbrev pub me : Shape
  me = shape_by ts u

  abbrev all : List Cell
  all = cs p u sound ts n

  abbrev now : Scope
  now = names_in p u

  abbrev pub Ends : ℕ → List Instr → Kinds → Type 0
  Ends at is ks = Walks Good ss me n at is ks []

  abbrev over : List ℕ → Bool → Effect
  over to b = cond b (Over to 0) Ill

  pub goto_ends : (at to : ℕ) (ks : Kinds) → only_results ks ≡ true → Good to → Ends at (goto to ∷ []) ks
  goto_ends at to ks only good = ends_at Good ss me n at (goto to) ks (to ∷ []) (ap (over (to ∷ [])) only) (good, tt) (end_apart (end.Goto to))

  pub test_ends : (at : ℕ) (t : Tree) (holding failing : ℕ) (ks : Kinds) → only_results ks ≡ true → refs_in now t ≤ results_in ks → AreCounted p u (applied t) → Good holding → Good failing
      → Ends at (test_code p u t holding failing) ks
  test_ends at t holding failing ks only done h first second =
      let x = expression_leaves p u sound ts n t 0 ks (omega (arith, done)) h in
      closes Good ss me n at (expression_code p u t 0) (instr.End (end.Test holding failing)) ks (Word x.told ∷ ks) (holding ∷ failing ∷ []) x.leaves (λ b. ap (over (holding ∷ failing ∷ [])) only) (first, (second, tt)) (end_apart (end.Test holding failing))

  -- ---- returns, and blocks

  result_at : IsAt u.names.variables (result_variable u)
  result_at = go (heading_name u.tree.heading.stmt)
    where
      go : (o : Option (List ℕ)) → IsAt u.names.variables (variable_if u o)
      go None = tt
      go (Some name) = named_at p u name

  -- the first word of a variable that a name means
  first_words_there : (o : Option (ℕ × Variable)) → IsAt u.names.variables o → (w : ℕ × Variable) → o ≡ Some w → is_word w.1.kind ≡ true → are_words all (single (first_in (variable_meant u o))) ≡ true
  first_words_there None at w e holds = absurd cc
  first_words_there (Some v) at w e holds =
      let same : v ≡ w = cc in
      part_words p u sound ts n v.0 v.1 (single v.1.first) at (ap (λ (x : ℕ × Variable). is_word x.1.kind) same ∙ holds) (first_part p u sound ts n v.0 v.1 at)

  pub return_ends : (at : ℕ) (q : UnitKind) → kind_of u ≡ q → (ks : Kinds) → only_results ks ≡ true → Ends at (return_code u q) ks
  return_ends at unit_kind.Program is ks only = ends_at Good ss me n at (instr.Meet meet.Stop) ks [] (ap (over []) only) tt (record { join = refl; begin = refl })
  return_ends at unit_kind.Process is ks only = ends_at Good ss me n at (instr.Meet meet.Stop) ks [] (ap (over []) only) tt (record { join = refl; begin = refl })
  return_ends at unit_kind.Subroutine is ks only =
      ends_at Good ss me n at (instr.End end.Return) ks [] (ap (λ (q : UnitKind). over [] (is_subroutine (heading_by q) && only_results ks)) is ∙ ap (over []) only) tt (end_apart end.Return)
  return_ends at unit_kind.Function is ks only =
      let x : HasResult unit_kind.Function u = subst (λ (q : UnitKind). HasResult q u) is sound.result in
      ends_at Good ss me n at (instr.End (end.ReturnValue (result_word u))) ks []
      (ap (λ (q : UnitKind). over [] (is_function (heading_by q) && (are_words all (single (result_word u)) && only_results ks))) is
      ∙ ap (λ b. over [] (b && only_results ks)) (first_words_there (result_variable u) result_at x.0 x.1 x.2)
      ∙ ap (over []) only)
      tt (end_apart (end.ReturnValue (result_word u)))

  pub stop_ends : (at : ℕ) (ks : Kinds) → only_results ks ≡ true → Ends at (instr.Meet meet.Stop ∷ []) ks
  stop_ends at ks only = ends_at Good ss me n at (instr.Meet meet.Stop) ks [] (ap (over []) only) tt (record { join = refl; begin = refl })

  pub block_ends : (here next : ℕ) (ks : Kinds) → only_results ks ≡ true → Good next → Ends here (block_code here next) ks
  block_ends here next ks only good =
      let join = instr.Meet (meet.Join next) in
      let to = suc here ∷ [] in
      let begins : effect ss me n here (instr.Meet (meet.Begin (suc here))) ks ≡ Over to 0 =
      ap (λ b. over to (b && (suc here == suc here))) only ∙ ap (over to) (eq-eqb (suc here) (suc here) refl) in (
        refl,
        subst (λ (x : Effect). StepsWell Good here (join ∷ []) x × Joined (instr.Meet (meet.Begin (suc here))) (join ∷ []) × Steps Good ss me n (suc here) (join ∷ []) (behind x) []) (sym begins)
            (Next refl (λ none. absurd cc), refl, (Elsewhere (good, tt) refl, refl, refl)),
      )

  -- ---- loops

  loop_leaves : (number : ℕ) (name : List ℕ) (ks : Kinds) → number < n → sort_of u name ≡ Some Integer → straight all n (loop_code u number name) ks ≡ Some (LoopOf (record { number = number; word = loop_word u name }) ∷ ks)
  loop_leaves number name ks low is =
      let x = sorted u name Integer is in
      let l : Loop = record { number = number; word = loop_word u name } in
      let first : nat_lt number n ≡ true = lt-ltb number n low in
      let second : are_words all (single (loop_word u name)) ≡ true = first_words_there (variable_of u name) (named_at p u name) x.0 x.1 (integer_word x.0.1.kind x.2) in
      (λ i. given_where (first i && are_words all (single (loop_word u name))) (LoopOf l ∷ ks)) ∙ ap (λ b. given_where b (LoopOf l ∷ ks)) second

  pub again_ends : (at number : ℕ) (name : List ℕ) (body behind : ℕ) (ks : Kinds) → only_results ks ≡ true → number < n → sort_of u name ≡ Some Integer → Good body → Good behind
      → Ends at (loop_code u number name ∷ instr.End (end.Again body behind) ∷ []) ks
  again_ends at number name body behind ks only low is first second =
      let l : Loop = record { number = number; word = loop_word u name } in
      closes Good ss me n at (loop_code u number name ∷ []) (instr.End (end.Again body behind)) ks (LoopOf l ∷ ks) (body ∷ behind ∷ [])
      (ap (λ o. then_on o (λ ms. some_list ms)) (loop_leaves number name ks low is)) (λ b. ap (over (body ∷ behind ∷ [])) only) (first, (second, tt)) (end_apart (end.Again body behind))

  abbrev pub refs_in_step : Option Tree → ℕ
  refs_in_step None = 0
  refs_in_step (Some t) = refs_in now t

  step_leaves : (o : Option Tree) (k : ℕ) (ks : Kinds) → k + refs_in_step o ≤ results_in ks → AreCounted p u (in_optional o) → LeavesWord all n (step_code p u o k) ks
  step_leaves None k ks done h = record { told = _; leaves = refl }
  step_leaves (Some t) k ks done h = expression_leaves p u sound ts n t k ks done h

  pub do_ends : (at : ℕ) (h : LoopHead) (number body behind : ℕ) (ks : Kinds) → only_results ks ≡ true → refs_in now h.from + refs_in now h.to + refs_in_step h.step ≤ results_in ks → AreCounted p u (in_loop h)
      → number < n → sort_of u h.variable ≡ Some Integer → Good body → Good behind → Ends at (do_code p u h number body behind) ks
  do_ends at h number body behind ks only done counted low is first second =
      let a = refs_in now h.from in
      let b = refs_in now h.to in
      let first_two = all_left (IsCounted p u) (applied h.from ++ applied h.to) (in_optional h.step) counted in
      let x = expression_leaves p u sound ts n h.from 0 ks (omega (arith, done)) (all_left (IsCounted p u) (applied h.from) (applied h.to) first_two) in
      let y = expression_leaves p u sound ts n h.to a (Word x.told ∷ ks) (omega (arith, done)) (all_right (IsCounted p u) (applied h.from) (applied h.to) first_two) in
      let z = step_leaves h.step (a + b) (Word y.told ∷ Word x.told ∷ ks) (omega (arith, done)) (all_right (IsCounted p u) (applied h.from ++ applied h.to) (in_optional h.step) counted) in
      let ms : Kinds = Word z.told ∷ Word y.told ∷ Word x.told ∷ ks in
      let l : Loop = record { number = number; word = loop_word u h.variable } in
      let bounds = bounds_code p u h in
      let leaves : along all n bounds ks ≡ Some ms =
      then_more all n (expression_code p u h.from 0) (expression_code p u h.to a ++ step_code p u h.step (a + b)) ks (Word x.told ∷ ks) ms x.leaves
      (then_more all n (expression_code p u h.to a) (step_code p u h.step (a + b)) (Word x.told ∷ ks) (Word y.told ∷ Word x.told ∷ ks) ms y.leaves z.leaves) in
      straight_then Good ss me n at (at + length bounds) bounds (loop_code u number h.variable ∷ instr.End (end.Enter body behind) ∷ []) ks ms [] refl leaves (λ none. absurd cc)
      (closes Good ss me n (at + length bounds) (loop_code u number h.variable ∷ []) (instr.End (end.Enter body behind)) ms (LoopOf l ∷ ms) (body ∷ behind ∷ [])
      (ap (λ o. then_on o (λ ms. some_list ms)) (loop_leaves number h.variable ms low is)) (λ b. ap (over (body ∷ behind ∷ [])) only) (first, (second, tt)) (end_apart (end.Enter body behind)))

  -- ---- printing

  letters_leave : (bytes : List ℕ) (ks : Kinds) → along all n (letters bytes) ks ≡ Some ks
  letters_leave [] ks = refl
  letters_leave (b ∷ bytes) ks = letters_leave bytes ks

  show_leaves : (b : Bool) (r : Option Span) (ks : Kinds) → straight all n (show b) (Word r ∷ ks) ≡ Some ks
  show_leaves true r ks = refl
  show_leaves false r ks = refl

  words_leave : (i : ℕ) (v : Variable) → slice_get u.names.variables i ≡ Some v → (q : Kind) → v.kind ≡ q → is_word q ≡ true → (ks : Kinds) → along all n (words_shown q (whole_span v) ∷ []) ks ≡ Some ks
  words_leave i v at kind.Integer is holds ks = ap (λ b. then_on (given_where b ks) (λ ms. some_list ms)) (part_words p u sound ts n i v (whole_span v) at (ap is_word is) (whole_part p u sound ts n i v at))
  words_leave i v at kind.Logical is holds ks = ap (λ b. then_on (given_where b ks) (λ ms. some_list ms)) (part_words p u sound ts n i v (whole_span v) at (ap is_word is) (whole_part p u sound ts n i v at))
  words_leave i v at (kind.In t) is holds ks = absurd cc
  words_leave i v at (kind.Out t) is holds ks = absurd cc

  variable_leaves : (i : ℕ) (v : Variable) → slice_get u.names.variables i ≡ Some v → (ks : Kinds) → along all n (variable_shown v) ks ≡ Some ks
  variable_leaves i v at ks = go (holds_word v) refl
    where
      go : (b : Bool) → holds_word v ≡ b → along all n (cond b (words_shown v.kind (whole_span v) ∷ []) []) ks ≡ Some ks
      go true holds = words_leave i v at v.kind refl (first_true (is_word v.kind) (nat_lt 0 v.words) holds) ks
      go false holds = refl

  name_shown : (name : List ℕ) (o : Option (ℕ × Variable)) → IsAt u.names.variables o → (ks : Kinds) → along all n (named_shown p u name o) ks ≡ Some ks
  name_shown name None at ks = ap (λ o. then_on o (λ ms. some_list ms)) (show_leaves (is_logical_constant (constant_of u name)) (pushed all (word_of (constant_by (constant_of u name)))) ks)
  name_shown name (Some v) at ks = variable_leaves v.0 v.1 at ks

  value_leaves : (t : Tree) (k : ℕ) (ks : Kinds) → k + refs_in now t ≤ results_in ks → AreCounted p u (applied t) → along all n (value_shown p u t k) ks ≡ Some ks
  value_leaves t k ks done h =
      let x = expression_leaves p u sound ts n t k ks done h in
      then_one all n (expression_code p u t k) (show (is_logical p u t)) ks (Word x.told ∷ ks) ks x.leaves (show_leaves (is_logical p u t) x.told ks)

  tree_leaves : (t : Tree) (k : ℕ) (ks : Kinds) → k + refs_in now t ≤ results_in ks → AreCounted p u (applied t) → along all n (tree_shown p u t k) ks ≡ Some ks
  tree_leaves (Number m) k ks done h = value_leaves (Number m) k ks done h
  tree_leaves (Truth b) k ks done h = value_leaves (Truth b) k ks done h
  tree_leaves (Named name) k ks done h = name_shown name (variable_of u name) (named_at p u name) ks
  tree_leaves (Ref name args) k ks done h = value_leaves (Ref name args) k ks done h
  tree_leaves (Paren e) k ks done h = value_leaves (Paren e) k ks done h
  tree_leaves (Signed o e) k ks done h = value_leaves (Signed o e) k ks done h
  tree_leaves (Not e) k ks done h = value_leaves (Not e) k ks done h
  tree_leaves (Binary o a b) k ks done h = value_leaves (Binary o a b) k ks done h

  item_leaves : (i : Item) (k : ℕ) (ks : Kinds) → k + refs_in_item p u i ≤ results_in ks → AreCounted p u (in_item i) → along all n (item_code p u i k) ks ≡ Some ks
  item_leaves (item.Constant bytes) k ks done h = then_one all n (letters bytes) (instr.Build build.ShowText) ks ks ks (letters_leave bytes ks) refl
  item_leaves (item.Expr e) k ks done h = tree_leaves e k ks done h

  abbrev pub refs_in_items : List Item → ℕ
  refs_in_items [] = 0
  refs_in_items (i ∷ is) = refs_in_item p u i + refs_in_items is

  items_leave : (is : List Item) (k : ℕ) (ks : Kinds) → k + refs_in_items is ≤ results_in ks → AreCounted p u (flat_map in_item is) → along all n (items_code p u is k) ks ≡ Some ks
  items_leave [] k ks done h = refl
  items_leave (i ∷ is) k ks done h =
      then_more all n (item_code p u i k) (items_code p u is (k + refs_in_item p u i)) ks ks ks
      (item_leaves i k ks (omega (arith, done)) (all_left (IsCounted p u) (in_item i) (flat_map in_item is) h))
      (items_leave is (k + refs_in_item p u i) ks (omega (arith, done)) (all_right (IsCounted p u) (in_item i) (flat_map in_item is) h))

  pub print_ends : (at : ℕ) (is : List Item) (next : ℕ) (ks : Kinds) → only_results ks ≡ true → refs_in_items is ≤ results_in ks → AreCounted p u (flat_map in_item is) → Good next → Ends at (print_code p u is next) ks
  print_ends at is next ks only done h good =
      closes Good ss me n at (items_code p u is 0) (instr.End (end.Print next)) ks ks (next ∷ []) (items_leave is 0 ks (omega (arith, done)) h) (λ b. ap (over (next ∷ [])) only) (good, tt) (end_apart (end.Print next))

  -- ---- assignment

  stores : (w : ℕ × Variable) → slice_get u.names.variables w.0 ≡ Some w.1 → is_word w.1.kind ≡ true → (next b : ℕ) (r : Option Span) (ks : Kinds) → only_results ks ≡ true
      → effect ss me n b (first_store (Some w.1) next) (Word r ∷ ks) ≡ Over (next ∷ []) 0
  stores w at holds next b r ks only =
      let some : nat_lt 0 w.1.words ≡ true = lt-ltb 0 w.1.words (words_some p u sound ts n w.0 w.1 at) in
      let both : holds_word w.1 ≡ true = (λ i. holds i && nat_lt 0 w.1.words) ∙ some in
      ap (λ c. effect ss me n b (cond c (instr.End (end.Store w.1.first next)) (goto next)) (Word r ∷ ks)) both
      ∙ ap (λ c. cond c (over (next ∷ []) (only_results ks)) Ill) (part_words p u sound ts n w.0 w.1 (single w.1.first) at holds (first_part p u sound ts n w.0 w.1 at))
      ∙ ap (over (next ∷ [])) only

  stores_at : (w : ℕ × Variable) → slice_get u.names.variables w.0 ≡ Some w.1 → (q : Kind) → w.1.kind ≡ q → is_word q ≡ true → (next b : ℕ) (r : Option Span) (ks : Kinds) → only_results ks ≡ true
      → effect ss me n b (element_store q next) (Word r ∷ Word (Some (elements p u sound ts n w.1)) ∷ ks) ≡ Over (next ∷ []) 0
  stores_at w at kind.Integer is holds next b r ks only =
      ap (λ c. ending (next ∷ []) (given_where c ks)) (part_words p u sound ts n w.0 w.1 (elements p u sound ts n w.1) at (ap is_word is) (element_part p u sound ts n w.0 w.1 at))
      ∙ ap (over (next ∷ [])) only
  stores_at w at kind.Logical is holds next b r ks only =
      ap (λ c. ending (next ∷ []) (given_where c ks)) (part_words p u sound ts n w.0 w.1 (elements p u sound ts n w.1) at (ap is_word is) (element_part p u sound ts n w.0 w.1 at))
      ∙ ap (over (next ∷ [])) only
  stores_at w at (kind.In t) is holds next b r ks only = absurd cc
  stores_at w at (kind.Out t) is holds next b r ks only = absurd cc

  store_apart : (v : Variable) (next : ℕ) → IsApart (first_store (Some v) next)
  store_apart v next = go (holds_word v)
    where
      go : (b : Bool) → IsApart (cond b (instr.End (end.Store v.first next)) (goto next))
      go true = end_apart (end.Store v.first next)
      go false = end_apart (end.Goto next)

  element_apart : (q : Kind) (next : ℕ) → IsApart (element_store q next)
  element_apart kind.Integer next = end_apart (end.StoreAt next)
  element_apart kind.Logical next = end_apart (end.StoreAt next)
  element_apart (kind.In t) next = end_apart (end.Goto next)
  element_apart (kind.Out t) next = end_apart (end.Goto next)

  word_located : (q : Kind) (first : ℕ) → is_word q ≡ true → locate_code q first ≡ locate first ∷ []
  word_located kind.Integer first e = refl
  word_located kind.Logical first e = refl
  word_located (kind.In t) first e = absurd cc
  word_located (kind.Out t) first e = absurd cc

  -- a variable that holds words gets the value of an expression
  pub assigned_ends : (at : ℕ) (w : ℕ × Variable) → slice_get u.names.variables w.0 ≡ Some w.1 → is_word w.1.kind ≡ true → (l : Trees) (t : Tree) (next : ℕ) (ks : Kinds) → only_results ks ≡ true → VariableFits (Some w) l
      → refs_in_all now l + refs_in now t ≤ results_in ks → AreCounted p u (applied_each l) → AreCounted p u (applied t) → Good next → Ends at (assigned_code p u (Some w) l (expression_code p u t (refs_in_all now l)) next) ks
  assigned_ends at w here holds NoTrees t next ks only fits done subscripts h good =
      let x = expression_leaves p u sound ts n t 0 ks (omega (arith, done)) h in
      closes Good ss me n at (expression_code p u t 0) (first_store (Some w.1) next) ks (Word x.told ∷ ks) (next ∷ []) x.leaves (λ b. stores w here holds next b x.told ks only) (good, tt) (store_apart w.1 next)
  assigned_ends at w here holds (More e l) t next ks only fits done subscripts h good =
      let k = refs_in_all now (More e l) in
      let place = expressions_code p u (More e l) 0 in
      let located = place_code w.1 (trees_count (More e l)) (locate w.1.first ∷ []) in
      let ms : Kinds = Word (Some (elements p u sound ts n w.1)) ∷ ks in
      let x = expression_leaves p u sound ts n t k ms (omega (arith, done)) h in
      let front : along all n (place ++ located) ks ≡ Some ms =
      located_leaves p u sound ts n w.0 w.1 here (More e l) 0 [] ks (λ none. absurd (omega (arith, fits, ap length none))) fits (omega (arith, done)) subscripts in
      let value = expression_code p u t k in
      let last = element_store w.1.kind next in
      subst (λ (c : List Instr). Ends at c ks)
      (append_assoc place located (value ++ last ∷ []) ∙ ap (λ (c : List Instr). place ++ (place_code w.1 (trees_count (More e l)) c ++ (value ++ last ∷ []))) (sym (word_located w.1.kind w.1.first holds)))
      (straight_then Good ss me n at (at + length (place ++ located)) (place ++ located) (value ++ last ∷ []) ks ms [] refl front (some_behind value (last ∷ []) (λ none. absurd cc))
      (closes Good ss me n (at + length (place ++ located)) value last ms (Word x.told ∷ ms) (next ∷ []) x.leaves (λ b. stores_at w here w.1.kind refl holds next b x.told ks only) (good, tt) (element_apart w.1.kind next)))
