-- The code of an expression leaves a word, where as many results are there as it refers to FUNCTIONs, and each name with a list
-- has as many subscripts or arguments as it takes.
use Rattle.std.proofs.Common.{◌≡◌, ℕ, zero, suc, ◌+◌, ◌*◌, ◌<◌, ◌≤◌, pos, true, cond, ◌&&◌, ◌==◌, Option, Some, None, List, [], ◌∷◌, ◌++◌, length, refl, sym, ap, subst, ◌∙◌, arith, suc-mul}
use Rattle.std.specs.Prelude.{slice_get, nat_lt, option_map}
use Rattle.std.proofs.lemmas.Bool.{lt-ltb, eq-eqb}
use Rattle.fm_base.specs.declared.token.Op.{Op}
use Rattle.fm_base.specs.declared.token.Op.TheVariants as op
use Rattle.fm_values.specs.Places.{Bounds, extent, size}
use Rattle.fm_tree.specs.Tree.{Tree, Trees, Number, Truth, Named, Ref, Paren, Signed, Not, Binary, NoTrees, More}
use Rattle.fm_tree.specs.References.{applied, applied_each}
use Rattle.fm_tree.specs.PortReading.{kind_of}
use Rattle.fm_tree.specs.declared.port_type.Kind.{Kind}
use Rattle.fm_tree.specs.declared.port_type.Kind.TheVariants as kind
use Rattle.fm_symbols.specs.declared.names.Variable.{Variable}
use Rattle.fm_rules.specs.declared.program.Program.{Program}
use Rattle.fm_mean.specs.Names.{ProgramUnit, variable_of}
use Rattle.fm_mean.specs.Evaluate.{Reference, Element, Call, Built, Unknown, is_array, reference_of, counts_one, refs_in, refs_in_all}
use Rattle.fm_mean.specs.Referring.{names_in}
use Rattle.fm_mean.proofs.JudgedItems.{all_left, all_right}
use Rattle.fm_mean.proofs.Sizes.{in_all}
use Rattle.fm_code.specs.declared.code.Span.{Span}
use Rattle.fm_code.specs.declared.instr.Instr.{Instr}
use Rattle.fm_code.specs.declared.instr.Instr.TheVariants as instr
use Rattle.fm_code.specs.declared.instr.Eval.TheVariants as eval
use Rattle.fm_code_kinds.specs.declared.kinds.Kind as operands
use Rattle.fm_code_kinds.specs.declared.kinds.Kind.TheVariants.{Word}
use Rattle.fm_code_kinds.specs.declared.sorts.Cell.{Cell}
use Rattle.fm_code_kinds.specs.Shapes.{single, sort_at, is_word_sort, are_words, words_of}
use Rattle.fm_code_kinds.specs.Effects.{word, first_words, shifted, scaled, placed, given_where, without_words, results_in}
use Rattle.fm_gen_relation.specs.Sound.{IsSoundUnit, is_word}
use Rattle.fm_gen_operands.specs.Code.{push, first_load, variable_code, named_code, dimension_code, dimensions_code, no_element, place_code, element_code, sign_code, reference_code, trees_count, expression_code, expressions_code}
use Rattle.fm_object.specs.declared.image.FieldImage.{FieldImage}
use Rattle.fm_compile_law.specs.Types.{sort_by}
use Rattle.fm_compile_law.specs.Units.{cells_by}
use Rattle.fm_compile_law.specs.Along.{then_on, along, LeavesWord, AreWordsOver, LeavesWords}
use Rattle.fm_compile_law.specs.Counted.{FitsCount, IsCounted, AreCounted}
use Rattle.fm_compile_law.proofs.Straight.{some_list, appended, then_one, then_more, words_taken}
use Rattle.fm_compile_law.proofs.Cells.{IsPart, cells_words, laid_within, sort_there, placed_there}
use Rattle.fm_gen_operands.proofs.Follows.{IsAt, IsReferenceAt, named_at, reference_at}

abbrev pub Kinds : Type 0
Kinds = List operands.Kind

spans_same : (a b c d : ℕ) → a ≡ b → c ≡ d → ◌≡◌ {A = Span} (record { first = a; count = c }) (record { first = b; count = d })
spans_same a b c d e f = λ i. record { first = e i; count = f i }

zero_scaled : (e n : ℕ) → scaled e (first_words n) ≡ first_words (e * n)
zero_scaled e n = let none : e * 0 ≡ 0 = omega arith in spans_same (e * 0) 0 (e * n) (e * n) none refl

pub factor_small : (a b : ℕ) → 0 < a * b → (0 < b) × (b ≤ a * b)
factor_small zero b h = absurd (omega (arith, h))
factor_small (suc a) b h = (positive b h, omega (arith, suc-mul a b))
  where
    positive : (b : ℕ) → 0 < suc a * b → 0 < b
    positive zero h = absurd (omega (arith, h))
    positive (suc b) h = omega arith

-- ---- places of elements

module _ (cs : List Cell) (n : ℕ) where
  first_placed : (k : ℕ) → k ≤ words_of cs → placed cs (first_words k) ≡ Some (first_words k)
  first_placed k few = placed_there cs (first_words k) (omega (arith, few))

  -- one subscript for each dimension gives way to a place among so many elements
  pub dimensions_leave : (bs : Bounds) (ks ms : Kinds) → (bs ≡ [] → ⊥) → 0 < size bs → size bs ≤ words_of cs → AreWordsOver (length bs) ks ms
      → along cs n (dimensions_code bs) ms ≡ Some (Word (Some (first_words (size bs))) ∷ ks)
  dimensions_leave [] ks ms some many few h = absurd (some refl)
  dimensions_leave (d ∷ []) ks ms some many few h =
      let one : extent d ≡ extent d * 1 = omega arith in
      ap (λ (l : Kinds). along cs n (dimensions_code (d ∷ [])) l) h.1
      ∙ ap (λ o. some_list (Word o ∷ ks)) (ap (λ k. placed cs (first_words k)) one ∙ first_placed (extent d * 1) few)
  dimensions_leave (d ∷ c ∷ bs) ks ms some many few h =
      let less = factor_small (extent d) (size (c ∷ bs)) many in
      then_one cs n (dimensions_code (c ∷ bs)) (dimension_code (c ∷ bs) d) ms (Word (Some (first_words (size (c ∷ bs)))) ∷ Word h.0 ∷ ks) _
      (dimensions_leave (c ∷ bs) (Word h.0 ∷ ks) ms (λ e. absurd cc) less.0 (omega (arith, less.1, few)) h.1)
      (ap (λ o. some_list (Word o ∷ ks)) (ap (placed cs) (zero_scaled (extent d) (size (c ∷ bs))) ∙ first_placed (size (d ∷ c ∷ bs)) few))

  -- what is done with the place of an element
  pub place_leaves : (v : Variable) (count : ℕ) (then_do : List Instr) (ks ms : Kinds) → (v.bounds ≡ [] → ⊥) → count ≡ length v.bounds → 0 < v.words → v.words ≡ size v.bounds
      → v.words ≤ words_of cs → AreWordsOver count ks ms → along cs n (place_code v count then_do) ms ≡ along cs n then_do (Word (Some (first_words v.words)) ∷ ks)
  place_leaves v count then_do ks ms array same some sized few h =
      let first : (count == length v.bounds) ≡ true = eq-eqb count (length v.bounds) same in
      let second : nat_lt 0 v.words ≡ true = lt-ltb 0 v.words some in
      (λ i. along cs n (cond (first i && nat_lt 0 v.words) (dimensions_code v.bounds ++ then_do) no_element) ms)
      ∙ ap (λ b. along cs n (cond b (dimensions_code v.bounds ++ then_do) no_element) ms) second
      ∙ appended cs n (dimensions_code v.bounds) then_do ms (Word (Some (first_words (size v.bounds))) ∷ ks)
      (dimensions_leave v.bounds ks ms array (omega (arith, some, sized)) (omega (arith, few, sized)) (subst (λ k. AreWordsOver k ks ms) same h))
      ∙ ap (λ k. along cs n then_do (Word (Some (first_words k)) ∷ ks)) (sym sized)

-- ---- expressions

module _ (p : Program) (u : ProgramUnit) (sound : IsSoundUnit u) (ts : List (List FieldImage)) (n : ℕ) where
  abbrev pub vars : List Variable
  vars = u.names.variables

  abbrev pub cs : List Cell
  cs = cells_by ts vars

  abbrev Leaves : List Instr → Kinds → Type 0
  Leaves is ks = LeavesWord cs n is ks

  pub words_some : (i : ℕ) (v : Variable) → slice_get vars i ≡ Some v → 0 < v.words
  words_some i v at = in_all (λ (v : Variable). 0 < v.words) vars i v sound.some at

  pub words_sized : (i : ℕ) (v : Variable) → slice_get vars i ≡ Some v → v.words ≡ size v.bounds
  words_sized i v at = in_all (λ (v : Variable). v.words ≡ size v.bounds) vars i v sound.sized at

  pub words_end : (i : ℕ) (v : Variable) → slice_get vars i ≡ Some v → v.first + v.words ≤ words_of cs
  words_end i v at = omega (arith, (laid_within 0 vars i v sound.laid at).1, cells_words ts vars)

  pub part_sort : (i : ℕ) (v : Variable) (s : Span) → slice_get vars i ≡ Some v → IsPart v s → sort_at cs s ≡ Some (sort_by ts (kind_of v.kind))
  part_sort i v s at h = sort_there ts 0 vars i v s sound.laid at h

  word_kind : (q : Kind) → is_word q ≡ true → is_word_sort (Some (sort_by ts (kind_of q))) ≡ true
  word_kind kind.Integer e = refl
  word_kind kind.Logical e = refl
  word_kind (kind.In t) e = absurd cc
  word_kind (kind.Out t) e = absurd cc

  -- words of a variable that holds some
  pub part_words : (i : ℕ) (v : Variable) (s : Span) → slice_get vars i ≡ Some v → is_word v.kind ≡ true → IsPart v s → are_words cs s ≡ true
  part_words i v s at holds h = ap is_word_sort (part_sort i v s at h) ∙ word_kind v.kind holds

  pub first_part : (i : ℕ) (v : Variable) → slice_get vars i ≡ Some v → IsPart v (single v.first)
  first_part i v at = record { low = omega arith; high = omega (arith, words_some i v at); some = omega arith }

  pub element_part : (i : ℕ) (v : Variable) → slice_get vars i ≡ Some v → IsPart v (shifted v.first (first_words v.words))
  element_part i v at = record { low = omega arith; high = omega arith; some = words_some i v at }

  -- names

  loads : (i : ℕ) (v : Variable) (ks : Kinds) → slice_get vars i ≡ Some v → is_word v.kind ≡ true → along cs n (first_load v.first v.words ∷ []) ks ≡ Some (word ∷ ks)
  loads i v ks at holds =
      let some : nat_lt 0 v.words ≡ true = lt-ltb 0 v.words (words_some i v at) in
      ap (λ b. along cs n (cond b (instr.Eval (eval.Load v.first)) (push (pos 0)) ∷ []) ks) some
      ∙ ap (λ b. then_on (given_where b (word ∷ ks)) (λ ms. some_list ms)) (part_words i v (single v.first) at holds (first_part i v at))

  variable_leaves : (i : ℕ) (v : Variable) (ks : Kinds) → slice_get vars i ≡ Some v → (q : Kind) → v.kind ≡ q → Leaves (variable_code q v.first v.words ∷ []) ks
  variable_leaves i v ks at kind.Integer is = record { told = None; leaves = loads i v ks at (ap is_word is) }
  variable_leaves i v ks at kind.Logical is = record { told = None; leaves = loads i v ks at (ap is_word is) }
  variable_leaves i v ks at (kind.In t) is = record { told = _; leaves = refl }
  variable_leaves i v ks at (kind.Out t) is = record { told = _; leaves = refl }

  pub named_leaves : (name : List ℕ) (o : Option (ℕ × Variable)) (ks : Kinds) → IsAt vars o → Leaves (named_code u name o ∷ []) ks
  named_leaves name None ks at = record { told = _; leaves = refl }
  named_leaves name (Some v) ks at = variable_leaves v.0 v.1 ks at v.1.kind refl

  -- elements

  element_leaves : (i : ℕ) (v : Variable) (ks : Kinds) → slice_get vars i ≡ Some v → (q : Kind) → v.kind ≡ q
      → along cs n (element_code q v.first) (Word (Some (first_words v.words)) ∷ ks) ≡ Some (word ∷ ks)
  element_leaves i v ks at kind.Integer is = ap (λ b. then_on (given_where b (word ∷ ks)) (λ ms. some_list ms)) (part_words i v _ at (ap is_word is) (element_part i v at))
  element_leaves i v ks at kind.Logical is = ap (λ b. then_on (given_where b (word ∷ ks)) (λ ms. some_list ms)) (part_words i v _ at (ap is_word is) (element_part i v at))
  element_leaves i v ks at (kind.In t) is = refl
  element_leaves i v ks at (kind.Out t) is = refl

  array_some : (bs : Bounds) → is_array bs ≡ true → bs ≡ [] → ⊥
  array_some [] e f = absurd cc
  array_some (b ∷ bs) e f = absurd cc

  abbrev few : (i : ℕ) (v : Variable) → slice_get vars i ≡ Some v → v.words ≤ words_of cs
  few i v at = omega (arith, words_end i v at)

  -- a name with a list, whose items left words
  reference_leaves : (r : Reference) → IsReferenceAt vars r → (is : List Instr) (count k : ℕ) (ks : Kinds) → LeavesWords cs n count is ks → FitsCount r count → k + counts_one r ≤ results_in ks
      → Leaves (reference_code r is count k) ks
  reference_leaves (Element i v) at is count k ks h fits done = record {
    told = None;
    leaves = then_more cs n is (place_code v count (element_code v.kind v.first)) ks h.left (word ∷ ks) h.leaves
        (place_leaves cs n v count (element_code v.kind v.first) ks h.left (array_some v.bounds at.1) fits (words_some i v at.0) (words_sized i v at.0) (few i v at.0) h.words ∙ element_leaves i v ks at.0 v.kind refl);
  }
  reference_leaves (Call m callee) at is count k ks h fits done = record {
    told = None;
    leaves = ap (λ b. then_on (given_where b (word ∷ ks)) (λ ms. some_list ms)) (lt-ltb k (results_in ks) (omega (arith, done)));
  }
  reference_leaves (Built f) at is count k ks h fits done = record {
    told = None;
    leaves = then_one cs n is (instr.Eval (eval.Intrinsic f count)) ks h.left (word ∷ ks) h.leaves
        (ap (λ b. cond b (option_map (λ ks. word ∷ ks) (without_words count h.left)) None) fits ∙ ap (λ o. option_map (λ (ks : Kinds). word ∷ ks) o) (words_taken count ks h.left h.words));
  }
  reference_leaves Unknown at is count k ks h fits done = record { told = _; leaves = refl }

  sign_leaves : (o : Op) (is : List Instr) (ks : Kinds) → Leaves is ks → Leaves (is ++ sign_code o) ks
  sign_leaves op.Sub is ks h = record { told = None; leaves = then_one cs n is (instr.Eval eval.Negate) ks (Word h.told ∷ ks) (word ∷ ks) h.leaves refl }
  sign_leaves o is ks h = record { told = h.told; leaves = then_more cs n is [] ks (Word h.told ∷ ks) (Word h.told ∷ ks) h.leaves refl }

  mutual
    pub expression_leaves : (t : Tree) (k : ℕ) (ks : Kinds) → k + refs_in (names_in p u) t ≤ results_in ks → AreCounted p u (applied t) → Leaves (expression_code p u t k) ks
    expression_leaves (Number m) k ks done h = record { told = _; leaves = refl }
    expression_leaves (Truth b) k ks done h = record { told = _; leaves = refl }
    expression_leaves (Named name) k ks done h = named_leaves name (variable_of u name) ks (named_at p u name)
    expression_leaves (Ref name args) k ks done h =
        let s = names_in p u in
        let inner = expressions_leave args k ks (omega (arith, done)) (all_left (IsCounted p u) (applied_each args) (Ref name args ∷ []) h) in
        reference_leaves (reference_of s name) (reference_at p u name) (expressions_code p u args k) (trees_count args) (k + refs_in_all s args) ks inner
        (all_right (IsCounted p u) (applied_each args) (Ref name args ∷ []) h).0 (omega (arith, done))
    expression_leaves (Paren e) k ks done h = expression_leaves e k ks done h
    expression_leaves (Signed o e) k ks done h = sign_leaves o (expression_code p u e k) ks (expression_leaves e k ks done h)
    expression_leaves (Not e) k ks done h =
        let x = expression_leaves e k ks done h in
        record { told = None; leaves = then_one cs n (expression_code p u e k) (instr.Eval eval.Not) ks (Word x.told ∷ ks) (word ∷ ks) x.leaves refl }
    expression_leaves (Binary o a b) k ks done h =
        let s = names_in p u in
        let x = expression_leaves a k ks (omega (arith, done)) (all_left (IsCounted p u) (applied a) (applied b) h) in
        let y = expression_leaves b (k + refs_in s a) (Word x.told ∷ ks) (omega (arith, done)) (all_right (IsCounted p u) (applied a) (applied b) h) in
        let right = expression_code p u b (k + refs_in s a) in
        record {
          told = None;
          leaves = then_more cs n (expression_code p u a k) (right ++ instr.Eval (eval.Apply o) ∷ []) ks (Word x.told ∷ ks) (word ∷ ks) x.leaves
              (then_one cs n right (instr.Eval (eval.Apply o)) (Word x.told ∷ ks) (Word y.told ∷ Word x.told ∷ ks) (word ∷ ks) y.leaves refl);
        }

    pub expressions_leave : (l : Trees) (k : ℕ) (ks : Kinds) → k + refs_in_all (names_in p u) l ≤ results_in ks → AreCounted p u (applied_each l) → LeavesWords cs n (trees_count l) (expressions_code p u l k) ks
    expressions_leave NoTrees k ks done h = record { left = ks; leaves = refl; words = refl }
    expressions_leave (More t l) k ks done h =
        let s = names_in p u in
        let x = expression_leaves t k ks (omega (arith, done)) (all_left (IsCounted p u) (applied t) (applied_each l) h) in
        let y = expressions_leave l (k + refs_in s t) (Word x.told ∷ ks) (omega (arith, done)) (all_right (IsCounted p u) (applied t) (applied_each l) h) in
        record {
          left = y.left;
          leaves = then_more cs n (expression_code p u t k) (expressions_code p u l (k + refs_in s t)) ks (Word x.told ∷ ks) y.left x.leaves y.leaves;
          words = (x.told, y.words);
        }
