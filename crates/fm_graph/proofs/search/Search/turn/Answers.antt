use Rattle.std.proofs.Common.{reverse, arith}
use Rattle.fm_graph.proofs.Turns.{finished_same, last_popped}
use Rattle.fm_graph.proofs.search.Search.turn.Goals as goal

pub returns-then-len-last : goal.returns-then-len-last
returns-then-len-last c =
    let s = c.args.self.now in
    finished_same c.args.graph.now s.marks.items c.close.new.marks.items s.path.items c.close.new.path.items (reverse s.segments.items) c.args.last (reverse c.pop.new.self.items) s.pending.items
    (last_popped s.segments.items c.pop.new.self.items c.pop.result _ _ c.args.last c.pop.ensures.items c.pop.ensures.cases s.segments.ok.0 c.requires.last)
    c.close.ensures.marks c.close.ensures.path (omega (arith, c.if-len-last.true, c.len.ensures, s.pending.ok.0)) c.requires.search
