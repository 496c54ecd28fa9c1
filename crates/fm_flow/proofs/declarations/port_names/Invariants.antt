use Rattle.std.proofs.Common.{◌≡◌, drop}
use Rattle.std.specs.FinMap.{empty}
use Rattle.fm_flow.specs.Walks.{ports_from}
use Rattle.fm_flow.proofs.declarations.port_names.Given as goal

abbrev pub invariant-variables : goal.invariant-variables
invariant-variables l = ports_from l.ports (drop l.variable-index l.variables) ≡ ports_from empty l.variables
