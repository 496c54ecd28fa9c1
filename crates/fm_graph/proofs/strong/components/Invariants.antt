use Rattle.std.proofs.Common.{◌≡◌, ℕ, ◌<◌, [], true, reverse}
use Rattle.fm_graph.specs.Search.{IsSearchOf, is_seen, mark_at}
use Rattle.fm_graph.proofs.strong.components.Given as goal

abbrev pub invariant-roots : goal.invariant-roots
invariant-roots l = record {
  search : IsSearchOf l.graph l.search;
  no_path : reverse l.search.segments.items ≡ [];
  seen : (v : ℕ) → v < l.root → is_seen (mark_at l.search.marks.items v) ≡ true;
}
