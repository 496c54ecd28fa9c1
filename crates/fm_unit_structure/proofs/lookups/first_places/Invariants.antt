use Rattle.std.proofs.Common.{◌≡◌, ℕ, drop}
use Rattle.std.specs.BTreeMap.{get}
use Rattle.std.specs.Ordering.{nat_cmp}
use Rattle.fm_tree.specs.Labels.{first_where}
use Rattle.fm_tree.specs.Layout.{is_this_label}
use Rattle.fm_rules.specs.StructureLookups.{wanted_label}
use Rattle.fm_unit_structure.proofs.lookups.first_places.Given as goal

abbrev pub invariant-marks : goal.invariant-marks
invariant-marks l = (q : ℕ) → get nat_cmp l.places q ≡ first_where (λ e. is_this_label (record { 0 = q }) (wanted_label l.only_executable e)) (drop l.k l.entries) l.k
