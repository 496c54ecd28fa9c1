use Rattle.std.proofs.Common.{◌∙◌, ◌++◌, ℕ, Option, List, get_or, refl, ap, arith}
use Rattle.std.specs.List.{slice_get}
use Rattle.fm_rules.specs.Calls.{call_by, referring}
use Rattle.fm_rules.proofs.Lists.{joined_more, looked_up}
use Rattle.fm_call_graph.proofs.calls.add_references.Goals as goal

pub places-preserved : goal.places-preserved
places-preserved c =
    let a = c.args in
    joined_more (referring a.units.now a.line a.names.now) (λ place. call_by a.units.now a.line (slice_get a.names.now place)) c.places.calls c.add_named.new.calls _ a.places.now c.places.place-index 0
    (λ y ys. refl) (omega arith) (c.in_ok-add_named.ensures ∙ ap (λ (o : Option (List ℕ)). c.places.calls ++ call_by a.units.now a.line o) (looked_up c.get.result (λ n. n.now) a.names.now (get_or a.places.now c.places.place-index 0) c.get.ensures.lookup.3)) c.places.invariant
