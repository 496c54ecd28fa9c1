-- The code of a place leaves the number of a word of its variable.
use Rattle.std.proofs.Common.{◌≡◌, ℕ, ◌+◌, ◌≤◌, Option, Some, None, List, [], ◌∷◌, ◌++◌, length, refl, sym, ap, ◌∙◌, arith}
use Rattle.std.specs.Prelude.{slice_get}
use Rattle.fm_tree.specs.Tree.{Tree, Trees, NoTrees, More, trees_from}
use Rattle.fm_tree.specs.References.{applied, applied_each, in_exprs, in_var}
use Rattle.fm_tree.specs.PortReading.{kind_of}
use Rattle.fm_tree.specs.declared.statement.Var.{Var}
use Rattle.fm_symbols.specs.declared.names.Variable.{Variable}
use Rattle.fm_rules.specs.declared.program.Program.{Program}
use Rattle.fm_mean.specs.Names.{ProgramUnit, variable_of}
use Rattle.fm_mean.specs.Evaluate.{refs_in_all, refs_in_var}
use Rattle.fm_mean.specs.Referring.{names_in}
use Rattle.fm_code.specs.declared.code.Span.{Span}
use Rattle.fm_code.specs.declared.instr.Instr.{Instr}
use Rattle.fm_code_kinds.specs.declared.kinds.Kind.TheVariants.{Word}
use Rattle.fm_code_kinds.specs.Shapes.{single}
use Rattle.fm_code_kinds.specs.Effects.{first_words, shifted, results_in}
use Rattle.fm_gen_relation.specs.Sound.{IsSoundUnit}
use Rattle.fm_gen_operands.specs.Code.{place_code, trees_count, expressions_code}
use Rattle.fm_gen_operands.specs.Places.{locate, located_code, place_by, var_code}
use Rattle.fm_gen_operands.proofs.Follows.{IsAt, named_at}
use Rattle.fm_object.specs.declared.image.FieldImage.{FieldImage}
use Rattle.fm_compile_law.specs.Types.{sort_by}
use Rattle.fm_compile_law.specs.Along.{along, LeavesPlace}
use Rattle.fm_compile_law.specs.Counted.{AreCounted, VariableFits, VarFits}
use Rattle.fm_compile_law.proofs.Straight.{some_list, appended}
use Rattle.fm_compile_law.proofs.Cells.{placed_there}
use Rattle.fm_compile_law.proofs.Expressions.{Kinds, cs, place_leaves, expressions_leave, words_some, words_sized, words_end, part_sort, first_part, element_part}

pub each_of : (l : List Tree) → applied_each (trees_from l) ≡ in_exprs l
each_of [] = refl
each_of (t ∷ l) = ap (λ r. applied t ++ r) (each_of l)

module _ (p : Program) (u : ProgramUnit) (sound : IsSoundUnit u) (ts : List (List FieldImage)) (n : ℕ) where
  abbrev mine : List Variable
  mine = u.names.variables

  -- the words of the elements of a variable
  abbrev pub elements : Variable → Span
  elements v = shifted v.first (first_words v.words)

  -- an element by the number of its word, and what is done with it
  pub located_leaves : (i : ℕ) (v : Variable) → slice_get mine i ≡ Some v → (l : Trees) (k : ℕ) (behind : List Instr) (ks : Kinds) → (v.bounds ≡ [] → ⊥) → trees_count l ≡ length v.bounds
      → k + refs_in_all (names_in p u) l ≤ results_in ks → AreCounted p u (applied_each l)
      → along (cs p u sound ts n) n (located_code p u v l k behind) ks ≡ along (cs p u sound ts n) n behind (Word (Some (elements v)) ∷ ks)
  located_leaves i v at l k behind ks array same done h =
      let all = cs p u sound ts n in
      let x = expressions_leave p u sound ts n l k ks done h in
      let end = words_end p u sound ts n i v at in
      appended all n (expressions_code p u l k) (place_code v (trees_count l) (locate v.first ∷ behind)) ks x.left x.leaves
      ∙ place_leaves all n v (trees_count l) (locate v.first ∷ behind) ks x.left array same (words_some p u sound ts n i v at) (words_sized p u sound ts n i v at) (omega (arith, end)) x.words
      ∙ ap (λ o. along all n behind (Word o ∷ ks)) (placed_there all (elements v) (omega (arith, end)))

  -- a variable, or an element of an array
  place_by_leaves : (w : ℕ × Variable) → slice_get mine w.0 ≡ Some w.1 → (l : Trees) (k : ℕ) (ks : Kinds) → VariableFits (Some w) l → k + refs_in_all (names_in p u) l ≤ results_in ks → AreCounted p u (applied_each l)
      → LeavesPlace (cs p u sound ts n) n (sort_by ts (kind_of w.1.kind)) (place_by p u (Some w) l k) ks
  place_by_leaves w at NoTrees k ks fits done h = record {
    among = single w.1.first;
    leaves = ap (λ o. some_list (Word o ∷ ks)) (placed_there (cs p u sound ts n) (single w.1.first) (omega (arith, words_end p u sound ts n w.0 w.1 at, words_some p u sound ts n w.0 w.1 at)));
    of = part_sort p u sound ts n w.0 w.1 (single w.1.first) at (first_part p u sound ts n w.0 w.1 at);
  }
  place_by_leaves w at (More t l) k ks fits done h = record {
    among = elements w.1;
    leaves = located_leaves w.0 w.1 at (More t l) k [] ks (λ none. absurd (omega (arith, fits, ap length none))) fits done h;
    of = part_sort p u sound ts n w.0 w.1 (elements w.1) at (element_part p u sound ts n w.0 w.1 at);
  }

  pub there : (name : List ℕ) (w : ℕ × Variable) → variable_of u name ≡ Some w → slice_get mine w.0 ≡ Some w.1
  there name w is = go (variable_of u name) (named_at p u name) is
    where
      go : (o : Option (ℕ × Variable)) → IsAt mine o → o ≡ Some w → slice_get mine w.0 ≡ Some w.1
      go None at e = absurd cc
      go (Some v) at e = let same : v ≡ w = cc in ap (λ (x : ℕ × Variable). slice_get mine x.0) (sym same) ∙ at ∙ ap (λ (x : ℕ × Variable). Some x.1) same

  pub var_leaves : (v : Var) (w : ℕ × Variable) → variable_of u v.name ≡ Some w → (k : ℕ) (ks : Kinds) → VarFits u v → k + refs_in_var (names_in p u) v ≤ results_in ks → AreCounted p u (in_var v)
      → LeavesPlace (cs p u sound ts n) n (sort_by ts (kind_of w.1.kind)) (var_code p u v k) ks
  var_leaves v w is k ks fits done h =
      let l = trees_from v.subscripts in
      let x = place_by_leaves w (there v.name w is) l k ks (rw is at fits) done (rw each_of h) in
      record { among = x.among; leaves = ap (λ o. along (cs p u sound ts n) n (place_by p u o l k) ks) is ∙ x.leaves; of = x.of }
