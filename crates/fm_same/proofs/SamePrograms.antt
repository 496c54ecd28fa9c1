-- Tests of trees and programs are exact.
use Rattle.std.specs.Prelude.{◌≡◌, Bool, true, false}
use Rattle.std.proofs.Common.{ap, sym, ◌∙◌}
use Rattle.fm_rules.specs.declared.program.Program.{Program}
use Rattle.fm_tree.specs.Tree.{Tree}
use Rattle.fm_tree.specs.PortFields.{PortFields}
use Rattle.fm_tree.specs.Same.{same_tree, same_tree_decides, same_fields, same_fields_decides}
use Rattle.fm_tree.specs.declared.program_unit.Units.{Units}
use Rattle.fm_same.specs.Same.{IsSameTest}
use Rattle.fm_same.proofs.Tests.{exact_by}
use Rattle.fm_same.proofs.OnePrograms.{by_units}

pub exact_tree : (r : Bool) (a b : Tree) → r ≡ same_tree a b → IsSameTest r a b
exact_tree r a b e = exact_by r (same_tree a b) a b e (same_tree_decides a b)

pub exact_fields : (r : Bool) (a b : PortFields) → r ≡ same_fields a b → IsSameTest r a b
exact_fields r a b e = exact_by r (same_fields a b) a b e (same_fields_decides a b)

pub exact_program : (r : Bool) (a b : Program) (u v : Units) → u ≡ a.units → v ≡ b.units → IsSameTest r u v → IsSameTest r a b
exact_program true a b u v e f s = by_units a b (sym e ∙ s ∙ f)
exact_program false a b u v e f s = λ same. s (e ∙ ap (λ (p : Program). p.units) same ∙ sym f)
