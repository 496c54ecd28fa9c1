use Rattle.std.proofs.Common.{◌≡◌, length}
use Rattle.fm_code_kinds.specs.Effects.{all_outports}
use Rattle.fm_verify_unit.proofs.fitting.all_outports.Given as goal

-- all are where the rest is
abbrev pub invariant-operands : goal.invariant-operands
invariant-operands l = all_outports l.cells l.of l.operands ≡ all_outports l.cells l.of l.rest

abbrev pub decreases-operands : goal.decreases-operands
decreases-operands l = length l.rest
