use Rattle.std.proofs.Common.{◌≡◌, ◌++◌}
use Rattle.std.specs.Vec.Iter.{into_iter_items}
use Rattle.fm_tree.specs.Units.{cut_of}
use Rattle.fm_unit.proofs.Joins.{join}
use Rattle.fm_unit.proofs.cutting.cut.Given as goal

abbrev pub invariant-statements : goal.invariant-statements
invariant-statements l = l.units.items ++ join l.unit (cut_of (into_iter_items l.placed-iterator)) ≡ cut_of l.fn.statements.items
