use Rattle.std.proofs.Common.{◌≡◌, length}
use Rattle.fm_code_kinds.specs.Effects.{fit_fields, fits_sent}
use Rattle.fm_verify_unit.proofs.fitting.fit_sent.Given as goal

-- all fit where the rest does
abbrev pub invariant-operands : goal.invariant-operands
invariant-operands l = fit_fields (fits_sent l.cells) l.initial.fields l.operands ≡ fit_fields (fits_sent l.cells) l.fields l.rest

abbrev pub decreases-operands : goal.decreases-operands
decreases-operands l = length l.rest
