-- The operands to which arguments, items of a message and targets come.
-- Source: ANSI X3.9-1978, section 15.9 (arguments); the Fortran M report for items of messages.
use Rattle.std.specs.Prelude.{◌≡◌, ℕ, true, Some, List, [], ◌∷◌}
use Rattle.fm_tree.specs.Tree.{Tree, Trees, NoTrees, More, trees_from}
use Rattle.fm_tree.specs.PortFields.{FieldKind}
use Rattle.fm_tree.specs.PortReading.{kind_of}
use Rattle.fm_tree.specs.declared.statement.Var.{Var}
use Rattle.fm_symbols.specs.declared.names.Variable.{Variable}
use Rattle.fm_mean.specs.Names.{ProgramUnit, variable_of}
use Rattle.fm_mean.specs.Evaluate.{Scope}
use Rattle.fm_mean.specs.ValueTypes.{arg_type}
use Rattle.fm_code_kinds.specs.declared.kinds.Passed.{Passed}
use Rattle.fm_code_kinds.specs.declared.sorts.Cell.{Cell}
use Rattle.fm_code_kinds.specs.Effects.{fits_room, is_target}
use Rattle.fm_gen_relation.specs.Targets.{target_words}
use Rattle.fm_object.specs.declared.image.FieldImage.{FieldImage}
use Rattle.fm_compile_law.specs.Types.{sort_by}

-- it fits what takes a value, words or ports of the argument's type, and as many of them
abbrev pub IsArgument : List (List FieldImage) → List Cell → Scope → Tree → Passed → Type 0
IsArgument ts cs s t o = (r : FieldKind) (m : ℕ) → arg_type s t ≡ Some (r, m) → fits_room cs (sort_by ts r) m o ≡ true

abbrev pub AreArguments : List (List FieldImage) → List Cell → Scope → Trees → List Passed → Type 0
AreArguments ts cs s NoTrees [] = Unit {0}
AreArguments ts cs s NoTrees (o ∷ os) = ⊥
AreArguments ts cs s (More t l) [] = ⊥
AreArguments ts cs s (More t l) (o ∷ os) = IsArgument ts cs s t o × AreArguments ts cs s l os

-- words or ports of the variable, so many
pub record IsTarget (ts : List (List FieldImage)) (cs : List Cell) (v : Variable) (words : ℕ) (o : Passed) : Type 0 where
  pub target : is_target o ≡ true
  pub fits : fits_room cs (sort_by ts (kind_of v.kind)) words o ≡ true

pub record IsTargetOf (ts : List (List FieldImage)) (cs : List Cell) (u : ProgramUnit) (v : Var) (o : Passed) : Type 0 where
  pub variable : ℕ × Variable
  pub named : variable_of u v.name ≡ Some variable
  pub is : IsTarget ts cs variable.1 (target_words variable.1 (trees_from v.subscripts)) o

abbrev pub AreTargets : List (List FieldImage) → List Cell → ProgramUnit → List Var → List Passed → Type 0
AreTargets ts cs u [] [] = Unit {0}
AreTargets ts cs u [] (o ∷ os) = ⊥
AreTargets ts cs u (v ∷ vs) [] = ⊥
AreTargets ts cs u (v ∷ vs) (o ∷ os) = IsTargetOf ts cs u v o × AreTargets ts cs u vs os
