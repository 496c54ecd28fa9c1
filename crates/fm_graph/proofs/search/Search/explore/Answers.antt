use Rattle.std.proofs.Common.{◌∙◌, List, ◌∷◌, length, ap, subst}
use Rattle.fm_graph.specs.declared.search.Segment.{Segment}
use Rattle.fm_graph.specs.Search.{IsSearch}
use Rattle.fm_graph.proofs.Turns.{search_same, visited_root}
use Rattle.fm_graph.proofs.search.Search.explore.Goals as goal

pub turns-init : goal.turns-init
turns-init c =
    let s = c.args.self.now in
    let v = c.in_ok-visit.ensures in
    let first : Segment = record { node = c.args.root; start = length s.path.items; rest = length s.pending.items } in
    record {
      search = search_same v.marks v.path (v.segments ∙ ap (λ (ss : List Segment). first ∷ ss) c.requires.no_path) v.pending
          (visited_root c.args.graph.now s.marks.items s.path.items s.pending.items c.args.root c.requires.unseen
          (subst (λ (ss : List Segment). IsSearch c.args.graph.now s.marks.items s.path.items ss s.pending.items) c.requires.no_path c.requires.search));
      kept = λ w e. e;
    }
