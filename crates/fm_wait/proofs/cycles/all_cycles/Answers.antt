use Rattle.std.proofs.Common.{◌≡◌, ◌<◌, ◌∙◌, ℕ, true, cond, inl, inr, List, length, map, take, sym, ap, subst}
use Rattle.std.specs.Prelude.{Option, slice_index}
use Rattle.std.specs.BTreeSet.{contains}
use Rattle.std.specs.Option.{option_to_list}
use Rattle.std.specs.Ordering.{eq_by_cmp, nat_cmp}
use Rattle.fm_graph.specs.Graph.{IsComponents}
use Rattle.fm_wait.specs.Places.{is_on_ring}
use Rattle.fm_wait.proofs.Rings.{all_listed, at_first, at_name, at_next, cycle_pushed, cycles_same, first_is_unmet, has_ring, is_met, later_is_met, met_more, none_there, ring_there}
use Rattle.fm_wait.proofs.Standing.{graph}
use Rattle.fm_wait.proofs.cycles.all_cycles.Goals as goal
use Rattle.fm_wait.proofs.cycles.all_cycles.Goals.{then-is_first+then-is_on_ring+in_ok-ring+in_ok-push, else-is_first, else-is_first-via-then-is_first+else-is_on_ring, else-is_first-via-else-is_first}

pub name_of-requires : goal.name_of-requires
name_of-requires c =
    let o = c.args.outcome.now in
    let comps : IsComponents (graph o) c.args.names.now = subst (λ (n : List (Option ℕ)). IsComponents (map option_to_list n) c.args.names.now) c.requires.next c.requires.names in
    at_name o c.args.names.now c.args.order.now c.paths.place-index c.paths-item.result c.paths-test.true c.paths-item.is comps c.requires.order

pub is_on_ring-requires-clause-places : goal.is_on_ring-requires-clause-places
is_on_ring-requires-clause-places c =
    let o = c.args.outcome.now in
    let comps : IsComponents (graph o) c.args.names.now = subst (λ (n : List (Option ℕ)). IsComponents (map option_to_list n) c.args.names.now) c.requires.next c.requires.names in
    subst (λ (n : List (Option ℕ)). c.paths-item.result.1 < length n) (sym c.requires.next)
    (at_next o c.args.names.now c.args.order.now c.paths.place-index c.paths-item.result c.paths-test.true c.paths-item.is comps c.requires.order)

pub is_on_ring-requires-clause-names : goal.is_on_ring-requires-clause-names
is_on_ring-requires-clause-names c =
    let o = c.args.outcome.now in
    let comps : IsComponents (graph o) c.args.names.now = subst (λ (n : List (Option ℕ)). IsComponents (map option_to_list n) c.args.names.now) c.requires.next c.requires.names in
    at_name o c.args.names.now c.args.order.now c.paths.place-index c.paths-item.result c.paths-test.true c.paths-item.is comps c.requires.order

pub ring-requires-clause-first : goal.ring-requires-clause-first
ring-requires-clause-first c =
    let o = c.args.outcome.now in
    let comps : IsComponents (graph o) c.args.names.now = subst (λ (n : List (Option ℕ)). IsComponents (map option_to_list n) c.args.names.now) c.requires.next c.requires.names in
    at_first o c.args.names.now c.args.order.now c.paths.place-index c.paths-item.result c.paths-test.true c.paths-item.is comps c.requires.order

pub ring-requires-clause-ring : goal.ring-requires-clause-ring
ring-requires-clause-ring c =
    let o = c.args.outcome.now in
    let comps : IsComponents (graph o) c.args.names.now = subst (λ (n : List (Option ℕ)). IsComponents (map option_to_list n) c.args.names.now) c.requires.next c.requires.names in
    has_ring o c.args.names.now c.args.order.now c.paths.place-index c.paths-item.result c.paths-test.true c.paths-item.is comps c.requires.order
    (ap (λ (n : List (Option ℕ)). is_on_ring n c.args.names.now c.paths-item.result.1) (sym c.requires.next) ∙ sym c.is_on_ring.ensures ∙ c.if-is_on_ring.true)

pub paths-preserved : goal.paths-preserved
paths-preserved c =
    let o = c.args.outcome.now in
    let names = c.args.names.now in
    let es = c.args.order.now in
    let i = c.paths.place-index in
    let e = c.paths-item.result in
    let l : i < length es = c.paths-test.true in
    let comps : IsComponents (graph o) names = subst (λ (n : List (Option ℕ)). IsComponents (map option_to_list n) names) c.requires.next c.requires.names in
    let met : contains nat_cmp c.paths.seen c.name_of.result ≡ is_met names (take i es) (slice_index names e.1) =
    c.paths.invariant.seen c.name_of.result ∙ ap (is_met names (take i es)) c.name_of.ensures in
    record {
      seen = λ d.
          c.in_ok-is_first.ensures.updates.0 d ∙ ap (cond (eq_by_cmp nat_cmp c.name_of.result d) true) (c.paths.invariant.seen d)
          ∙ ap (λ k. cond (eq_by_cmp nat_cmp k d) true (is_met names (take i es) d)) c.name_of.ensures ∙ met_more o names es i e l c.paths-item.is d;
      cycles = elim c.if-is_first.branch [
        | then-is_first+then-is_on_ring+in_ok-ring+in_ok-push w ↦
            w.cycles-is ∙ w.in_ok-push.ensures.ok
            ∙ cycle_pushed o names es i e l c.paths-item.is c.paths.cycles w.in_ok-ring.field-0 c.paths.invariant.cycles
            (ring_there o names es i e l c.paths-item.is comps c.requires.order w.in_ok-ring.field-0
            (sym met ∙ first_is_unmet c.in_ok-is_first.is_first (contains nat_cmp c.paths.seen c.name_of.result) c.in_ok-is_first.ensures.added w.if-is_first.true)
            (ap (λ (n : List (Option ℕ)). is_on_ring n names e.1) (sym c.requires.next) ∙ sym w.is_on_ring.ensures ∙ w.if-is_on_ring.true)
            w.in_ok-ring.ensures)
        | else-is_first w ↦
            w.cycles-is
            ∙ cycles_same o names es i e l c.paths-item.is c.paths.cycles c.paths.invariant.cycles
            (none_there o names es i e l c.paths-item.is comps c.requires.order
            (elim w.else-is_first.branch [
              | else-is_first-via-then-is_first+else-is_on_ring v ↦ inr (ap (λ (n : List (Option ℕ)). is_on_ring n names e.1) (sym c.requires.next) ∙ sym v.is_on_ring.ensures ∙ v.if-is_on_ring.false)
              | else-is_first-via-else-is_first v ↦ inl (sym met ∙ later_is_met c.in_ok-is_first.is_first (contains nat_cmp c.paths.seen c.name_of.result) c.in_ok-is_first.ensures.added v.if-is_first.false)
            ]))
      ];
    }

pub returns : goal.returns
returns c =
    all_listed c.args.outcome.now c.args.order.now c.paths.place-index c.paths.cycles c.requires.order c.paths-test.false c.paths.invariant.cycles
