use Rattle.std.proofs.Common.{◌∙◌, sym, ap, refl, List, reverse, Result, Ok, Err}
use Rattle.std.specs.Result.{IfOk}
use Rattle.fm_graph.specs.declared.search.Mark.{Mark}
use Rattle.fm_graph.specs.Search.{mark_at}
use Rattle.fm_graph.proofs.Turns.{visited_edge, followed_back, followed_done, turn_same}
use Rattle.fm_graph.proofs.search.Search.follow.Goals as goal

by_visit : {X E A B C D T : Type 0} (r : Result X E) → (A → B → C → D → T) → IfOk r (λ _. A) → IfOk r (λ _. B) → IfOk r (λ _. C) → IfOk r (λ _. D) → IfOk r (λ _. T)
by_visit (Ok x) f a b c d = f a b c d
by_visit (Err e) f a b c d = tt

pub returns-in-Unseen : goal.returns-in-Unseen
returns-in-Unseen c =
    let s = c.args.self.now in
    by_visit c.visit.result
    (λ a b d e. turn_same a b d e (visited_edge c.args.graph.now s.marks.items s.path.items (reverse s.segments.items) s.pending.items c.args.node (ap (λ (ms : List Mark). mark_at ms c.args.node) (sym c.deref.ensures.value) ∙ sym c.mark_at.ensures ∙ c.in-Unseen.is) c.requires.search c.requires.rest))
    c.visit.ensures.marks c.visit.ensures.path c.visit.ensures.segments c.visit.ensures.pending

pub returns-in-OnPath : goal.returns-in-OnPath
returns-in-OnPath c =
    let s = c.args.self.now in
    turn_same refl refl c.merge.ensures refl
    (followed_back c.args.graph.now s.marks.items s.path.items (reverse s.segments.items) s.pending.items c.args.node c.in-OnPath.place (ap (λ (ms : List Mark). mark_at ms c.args.node) (sym c.deref.ensures.value) ∙ sym c.mark_at.ensures ∙ c.in-OnPath.is) c.requires.search c.requires.rest)

pub returns-in-Done : goal.returns-in-Done
returns-in-Done c =
    let s = c.args.self.now in
    followed_done c.args.graph.now s.marks.items s.path.items (reverse s.segments.items) s.pending.items c.args.node c.in-Done.field-0 (ap (λ (ms : List Mark). mark_at ms c.args.node) (sym c.deref.ensures.value) ∙ sym c.mark_at.ensures ∙ c.in-Done.is) c.requires.search c.requires.rest
