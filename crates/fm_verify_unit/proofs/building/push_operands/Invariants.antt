use Rattle.std.proofs.Common.{◌≡◌, length, reverse}
use Rattle.fm_code_kinds.specs.Effects.{operands_over}
use Rattle.fm_verify_unit.proofs.building.push_operands.Given as goal

-- what the rest gives is what all give
abbrev pub invariant-operands : goal.invariant-operands
invariant-operands l = operands_over (reverse l.operands) l.initial.held ≡ operands_over (reverse l.rest) l.held

abbrev pub decreases-operands : goal.decreases-operands
decreases-operands l = length l.rest
