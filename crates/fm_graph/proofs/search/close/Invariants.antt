use Rattle.std.proofs.Common.{◌≡◌, ◌≤◌, length, map, take}
use Rattle.fm_graph.specs.Search.{closed}
use Rattle.fm_graph.proofs.search.close.Given as goal

abbrev pub invariant-nodes : goal.invariant-nodes
invariant-nodes l = record {
  within : l.segment.start ≤ length l.path.items;
  marks : l.marks.items ≡ map (closed l.segment.node (length l.path.items)) l.initial.marks.items;
  path : l.path.items ≡ take (length l.path.items) l.initial.path.items;
}

abbrev pub decreases-nodes : goal.decreases-nodes
decreases-nodes l = length l.path.items
