use Rattle.std.proofs.Common.{◌≡◌, ℕ, List, map, sym, subst, arith, Result, Ok, Err}
use Rattle.std.specs.Result.{IfOk}
use Rattle.std.specs.Global.{Vec}
use Rattle.fm_graph.specs.declared.search.Mark.{Mark}
use Rattle.fm_graph.specs.declared.search.Segment.{Segment}
use Rattle.fm_graph.specs.Graph.{IsComponents}
use Rattle.fm_graph.specs.Search.{IsSearch, name_of}
use Rattle.fm_graph.proofs.Ends.{components_found}
use Rattle.fm_graph.proofs.strong.components.Goals as goal

by_names : {E : Type 0} (g : List (List ℕ)) (xs : List ℕ) (r : Result (Vec ℕ) E) → IsComponents g xs → IfOk r (λ v. v.items ≡ xs) → IfOk r (λ v. IsComponents g v.items)
by_names g xs (Ok v) h e = subst (λ (ys : List ℕ). IsComponents g ys) (sym e) h
by_names g xs (Err x) h e = tt

pub returns : goal.returns
returns c =
    let s = c.roots.search in
    let g = c.args.graph.now in
    let i = c.roots.invariant in
    let same : c.deref-2.result.now ≡ s.marks.items = c.deref-2.ensures.value in
    by_names g (map name_of c.deref-2.result.now) c.names_of.result
    (subst (λ (ms : List Mark). IsComponents g (map name_of ms)) (sym same)
    (components_found g s.marks.items s.path.items s.pending.items (subst (λ (ss : List Segment). IsSearch g s.marks.items s.path.items ss s.pending.items) i.no_path i.search)
    (λ v l. i.seen v (omega (arith, l)))))
    c.names_of.ensures
