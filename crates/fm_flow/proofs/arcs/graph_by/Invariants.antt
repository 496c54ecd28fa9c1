use Rattle.std.proofs.Common.{◌≡◌, drop}
use Rattle.fm_flow.specs.Arcs.{graph_by, with_arcs}
use Rattle.fm_flow.proofs.arcs.graph_by.Given as goal

abbrev pub invariant-arcs : goal.invariant-arcs
invariant-arcs l = with_arcs l.graph.items (drop l.arc-index l.arcs) ≡ graph_by l.count l.arcs
