use Rattle.std.proofs.Common.{◌≡◌, ◌++◌, length}
use Rattle.fm_code_kinds.specs.Effects.{operands_on}
use Rattle.fm_verify_unit.proofs.taking.take_operands.Given as goal

-- what was taken, in front of what is left, is all
abbrev pub invariant-operands : goal.invariant-operands
invariant-operands l = record {
  operands : (operands_on l.initial.held).operands ≡ l.taken.items ++ (operands_on l.held).operands;
  rest : (operands_on l.initial.held).rest ≡ (operands_on l.held).rest;
}

abbrev pub decreases-operands : goal.decreases-operands
decreases-operands l = length l.held
