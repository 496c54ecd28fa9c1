use Rattle.std.proofs.Common.{◌≡◌, length, reverse}
use Rattle.fm_graph.specs.Search.{merged}
use Rattle.fm_graph.proofs.search.merge.Given as goal

abbrev pub invariant-segments : goal.invariant-segments
invariant-segments l = merged l.place (reverse l.segments.items) ≡ merged l.place (reverse l.initial.segments.items)

abbrev pub decreases-segments : goal.decreases-segments
decreases-segments l = length l.segments.items
