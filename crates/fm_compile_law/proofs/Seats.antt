-- The code of a seat takes the numbers that it evaluates.
use Rattle.std.proofs.Common.{◌≡◌, ℕ, ◌+◌, ◌≤◌, Option, Some, None, List, [], ◌∷◌, ◌++◌, refl, arith}
use Rattle.fm_tree.specs.Tree.{trees_from}
use Rattle.fm_tree.specs.References.{applied, in_place}
use Rattle.fm_tree.specs.declared.statement.Where.{Where}
use Rattle.fm_tree.specs.declared.statement.Where.TheVariants as put_at
use Rattle.fm_rules.specs.declared.program.Program.{Program}
use Rattle.fm_mean.specs.Names.{ProgramUnit}
use Rattle.fm_mean.specs.Evaluate.{Scope, refs_in, refs_in_all}
use Rattle.fm_mean.specs.Referring.{names_in}
use Rattle.fm_mean.proofs.JudgedItems.{all_left, all_right}
use Rattle.fm_code.specs.declared.instr.Build.TheVariants as build
use Rattle.fm_code.specs.declared.instr.Instr.TheVariants as instr
use Rattle.fm_code_kinds.specs.declared.kinds.Kind.TheVariants.{Word}
use Rattle.fm_code_kinds.specs.declared.sorts.Cell.{Cell}
use Rattle.fm_code_kinds.specs.Effects.{results_in}
use Rattle.fm_gen_relation.specs.Sound.{IsSoundUnit}
use Rattle.fm_gen_operands.specs.Code.{trees_count, expression_code, expressions_code}
use Rattle.fm_gen_operands.specs.Places.{seat_code}
use Rattle.fm_object.specs.declared.image.FieldImage.{FieldImage}
use Rattle.fm_compile_law.specs.Along.{along}
use Rattle.fm_compile_law.specs.Counted.{IsCounted, AreCounted}
use Rattle.fm_compile_law.proofs.Straight.{then_one, then_more, words_taken}
use Rattle.fm_compile_law.proofs.Expressions.{Kinds, cs, expression_leaves, expressions_leave}
use Rattle.fm_compile_law.proofs.Places.{each_of}

-- the references in a seat
abbrev pub refs_in_place : Scope → Option Where → ℕ
refs_in_place s None = 0
refs_in_place s (Some (put_at.Location ks)) = refs_in_all s (trees_from ks)
refs_in_place s (Some (put_at.Submachine a b)) = refs_in s a + refs_in s b

module _ (p : Program) (u : ProgramUnit) (sound : IsSoundUnit u) (ts : List (List FieldImage)) (n : ℕ) where
  abbrev all : List Cell
  all = cs p u sound ts n

  pub seat_leaves : (o : Option Where) (k : ℕ) (ks : Kinds) → k + refs_in_place (names_in p u) o ≤ results_in ks → AreCounted p u (in_place o) → along all n (seat_code p u o k) ks ≡ Some ks
  seat_leaves None k ks done h = refl
  seat_leaves (Some (put_at.Location l)) k ks done h =
      let x = expressions_leave p u sound ts n (trees_from l) k ks done (rw each_of h) in
      then_one all n (expressions_code p u (trees_from l) k) (instr.Build (build.Location (trees_count (trees_from l)))) ks x.left ks x.leaves (words_taken (trees_count (trees_from l)) ks x.left x.words)
  seat_leaves (Some (put_at.Submachine a b)) k ks done h =
      let s = names_in p u in
      let x = expression_leaves p u sound ts n a k ks (omega (arith, done)) (all_left (IsCounted p u) (applied a) (applied b) h) in
      let y = expression_leaves p u sound ts n b (k + refs_in s a) (Word x.told ∷ ks) (omega (arith, done)) (all_right (IsCounted p u) (applied a) (applied b) h) in
      let right = expression_code p u b (k + refs_in s a) in
      then_more all n (expression_code p u a k) (right ++ instr.Build build.Submachine ∷ []) ks (Word x.told ∷ ks) ks x.leaves
      (then_one all n right (instr.Build build.Submachine) (Word x.told ∷ ks) (Word y.told ∷ Word x.told ∷ ks) ks y.leaves refl)
