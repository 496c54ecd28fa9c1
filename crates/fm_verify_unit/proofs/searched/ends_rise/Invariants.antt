use Rattle.std.proofs.Common.{◌≡◌, length}
use Rattle.fm_verify_unit.specs.Ends.{rise_from}
use Rattle.fm_verify_unit.proofs.searched.ends_rise.Given as goal

-- all rise where the rest does
abbrev pub invariant-cells : goal.invariant-cells
invariant-cells l = rise_from 0 l.cells ≡ rise_from l.low l.rest

abbrev pub decreases-cells : goal.decreases-cells
decreases-cells l = length l.rest
