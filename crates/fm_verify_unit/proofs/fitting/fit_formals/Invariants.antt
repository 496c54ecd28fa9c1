use Rattle.std.proofs.Common.{◌≡◌, ◌+◌, ◌≤◌, length}
use Rattle.fm_code_kinds.specs.Effects.{fit_formals}
use Rattle.fm_verify_unit.proofs.fitting.fit_formals.Given as goal

-- all fit where the rest does
abbrev pub invariant-operands : goal.invariant-operands
invariant-operands l = record {
  same : fit_formals l.mine l.theirs 1 l.operands ≡ fit_formals l.mine l.theirs l.place l.rest;
  low : 1 ≤ l.place;
  room : l.place + length l.rest ≡ 1 + length l.operands;
}

abbrev pub decreases-operands : goal.decreases-operands
decreases-operands l = length l.rest
