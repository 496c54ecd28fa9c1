use Rattle.std.proofs.Common.{reverse}
use Rattle.fm_graph.specs.Search.{IsSearchOf, KeepsSeen, work}
use Rattle.fm_graph.proofs.search.Search.explore.Given as goal

abbrev pub invariant-turns : goal.invariant-turns
invariant-turns l = record {
  search : IsSearchOf l.graph l.self;
  kept : KeepsSeen l.initial.self.marks.items l.self.marks.items;
}

abbrev pub decreases-turns : goal.decreases-turns
decreases-turns l = work l.self.marks.items l.graph (reverse l.self.segments.items) l.self.pending.items
