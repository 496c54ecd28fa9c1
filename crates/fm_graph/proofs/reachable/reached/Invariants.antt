use Rattle.std.proofs.Common.{◌+◌, length}
use Rattle.fm_graph.specs.Flags.{IsReaching, load}
use Rattle.fm_graph.proofs.reachable.reached.Given as goal

abbrev pub invariant-nodes : goal.invariant-nodes
invariant-nodes l = IsReaching l.graph l.from l.flags.items l.pending.items

abbrev pub decreases-nodes : goal.decreases-nodes
decreases-nodes l = load l.flags.items l.graph + length l.pending.items
