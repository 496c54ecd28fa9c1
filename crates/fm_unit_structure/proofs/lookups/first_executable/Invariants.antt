use Rattle.std.proofs.Common.{◌≡◌, drop}
use Rattle.fm_tree.specs.Structure.{is_executable}
use Rattle.fm_tree.specs.Labels.{first_where}
use Rattle.fm_unit_structure.proofs.lookups.first_executable.Given as goal

abbrev pub invariant-entries : goal.invariant-entries
invariant-entries l = l.first ≡ first_where (λ e. is_executable e.form) (drop l.k l.entries) l.k
