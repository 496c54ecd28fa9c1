use Rattle.std.proofs.Common.{◌≡◌, length}
use Rattle.fm_code_kinds.specs.Shapes.{formal_at}
use Rattle.fm_verify_unit.proofs.searched.formal_in_turn.Given as goal

-- what the rest has is what all have
abbrev pub invariant-cells : goal.invariant-cells
invariant-cells l = formal_at l.cells l.place ≡ formal_at l.rest l.place

abbrev pub decreases-cells : goal.decreases-cells
decreases-cells l = length l.rest
