use Rattle.std.proofs.Common.{◌≡◌, length}
use Rattle.fm_verify_unit.specs.Ends.{first_past}
use Rattle.fm_verify_unit.proofs.searched.first_in_turn.Given as goal

-- what the rest has is what all have
abbrev pub invariant-cells : goal.invariant-cells
invariant-cells l = first_past l.cells l.first ≡ first_past l.rest l.first

abbrev pub decreases-cells : goal.decreases-cells
decreases-cells l = length l.rest
