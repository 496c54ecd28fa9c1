use Rattle.std.proofs.Common.{◌≡◌, ◌++◌, drop}
use Rattle.fm_flow.specs.Walks.{arcs_to}
use Rattle.fm_flow.proofs.rings.add_arcs_to.Given as goal

abbrev pub invariant-ports : goal.invariant-ports
invariant-ports l = l.arcs ++ arcs_to l.base l.from (drop l.port-index l.ports) ≡ l.fn.arcs ++ arcs_to l.base l.from l.ports
