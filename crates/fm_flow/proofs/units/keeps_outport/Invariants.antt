use Rattle.std.proofs.Common.{◌≡◌, drop}
use Rattle.fm_flow_law.specs.Flow.{keeps_outport}
use Rattle.fm_flow.proofs.units.keeps_outport.Given as goal

abbrev pub invariant-variables : goal.invariant-variables
invariant-variables l = keeps_outport (drop l.variable-index l.variables) ≡ keeps_outport l.variables
