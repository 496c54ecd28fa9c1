use Rattle.std.proofs.Common.{ℕ, ◌≡◌, ◌++◌, List, [], ◌∷◌, map, ap, sym, ◌∙◌, arith}
use Rattle.std.proofs.lemmas.List.{map-append}
use Rattle.std.proofs.lemmas.List.Elements.{All-push, All-same}
use Rattle.fm_hub.specs.Hubs.{IsSeatOf}
use Rattle.fm_pool.proofs.Numbers.{range_more}
use Rattle.fm_hub_pool.specs.declared.turns.Worker.{Worker}
use Rattle.fm_hub_pool.proofs.pool.seated.Goals as goal

pub workers-preserved : goal.workers-preserved
workers-preserved g c =
    let i = c.workers.invariant in
    let split = c.split-own.ensures in
    let items = c.in_ok-push.ensures.items in
    let old = c.workers.workers.items in
    let n = c.workers.number in
    let made : Worker g.row.T.Denot = record { number = n; seat = c.split-own.result } in
    let number : Worker g.row.T.Denot → ℕ = λ (w : Worker g.row.T.Denot). w.number in
    let Seated : Worker g.row.T.Denot → Type 0 = λ (w : Worker g.row.T.Denot). IsSeatOf c.args.hub.now w.seat in (
      split.old.0,
      split.old.1 ∙ i.1,
      All-same Seated c.push.new.self.items (old ++ made ∷ []) items (All-push Seated old made i.2 split.new.0),
      ap (map number) items
          ∙ (map-append number old (made ∷ []) ∙ (ap (λ (ns : List ℕ). ns ++ n ∷ []) i.3 ∙ sym (range_more 0 n n (omega arith)))),
    )
