use Rattle.std.proofs.Common.{◌≡◌, [], replicate}
use Rattle.fm_flow.proofs.arcs.no_arcs.Given as goal

abbrev pub invariant-nodes : goal.invariant-nodes
invariant-nodes l = l.graph.items ≡ replicate l.place []
