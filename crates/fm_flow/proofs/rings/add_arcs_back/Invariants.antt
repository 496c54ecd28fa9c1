use Rattle.std.proofs.Common.{◌≡◌, ◌++◌, drop}
use Rattle.fm_flow.specs.Walks.{arcs_back}
use Rattle.fm_flow.proofs.rings.add_arcs_back.Given as goal

abbrev pub invariant-ports : goal.invariant-ports
invariant-ports l = l.arcs ++ arcs_back l.base l.to (drop l.port-index l.ports) ≡ l.fn.arcs ++ arcs_back l.base l.to l.ports
