use Rattle.std.proofs.Common.{◌*◌, ◌∷◌, ◌++◌, Some, ◌∙◌, ap, arith, List, ℕ, Option}
use Rattle.atomic_table.specs.Table.{rest}
use Rattle.fm_hub.specs.Histories.{start_in}
use Rattle.fm_hub.specs.Rules.{Seated, added_since}
use Rattle.fm_hub.proofs.Turns.{frees_at}
use Rattle.fm_hub.proofs.handles.Hub.release.Goals as goal

pub store-requires : goal.store-requires
store-requires g c =
    let w = c.args.self.now.one_word in
    let h = c.args.held in
    let e = c.exchange.ensures in (
      e.0 ∙ c.requires,
      omega arith,
      frees_at g.T.KeepsHistory.history_of _ _ c.exchange.new.seat.me h.place.me.0 h.table _
          (e.3 ∙ ap (λ (r : List (ℕ × Option g.row.T.Denot)). (h.place.me.0, (0, Some h.table) ∷ r)) (ap rest h.out)) h.began
          (ap (λ (n : ℕ). 2 * n) c.entries-turns.ensures.value),
    )

pub invariant_of-result : goal.invariant_of-result
invariant_of-result g c =
    let h = c.args.held in
    let is = c.exchange.ensures.3 ∙ ap (λ (r : List (ℕ × Option g.row.T.Denot)). (h.place.me.0, (0, Some h.table) ∷ r)) (ap rest h.out) in
    let e = c.store.ensures.2 h.table (ap (λ (m : Seated g.row.T.Denot). m.1) is) in
    record {
      bare = ap (λ (m : Seated g.row.T.Denot). m.1) e;
      waits = ap (λ (m : Seated g.row.T.Denot). m.0.held) e;
      untold = ap (λ (m : Seated g.row.T.Denot). m.0.told) e ∙ (ap (λ (m : Seated g.row.T.Denot). m.0.told) is ∙ h.untold);
    }

pub returns-clause-released : goal.returns-clause-released
returns-clause-released g c =
    let h = c.args.held in
    let is = c.exchange.ensures.3 ∙ ap (λ (r : List (ℕ × Option g.row.T.Denot)). (h.place.me.0, (0, Some h.table) ∷ r)) (ap rest h.out) in
    let e = c.store.ensures.2 h.table (ap (λ (m : Seated g.row.T.Denot). m.1) is) in (
      ap (λ (m : Seated g.row.T.Denot). m.0.seen) e,
      ap (λ (m : Seated g.row.T.Denot). m.0.mine) e
          ∙ ap (λ (m : Seated g.row.T.Denot). m.0.mine ++ added_since (start_in m.0.held) (g.T.KeepsHistory.history_of h.table)) is,
    )
