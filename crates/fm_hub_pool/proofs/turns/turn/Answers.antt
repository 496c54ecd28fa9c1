use Rattle.std.proofs.Common.{◌∙◌, ap}
use Rattle.fm_hub.specs.declared.view.SeatView.{SeatView}
use Rattle.fm_hub_pool.proofs.turns.turn.Goals as goal

pub tries-preserved : goal.tries-preserved
tries-preserved g c =
    let i = c.tries.invariant in
    let lost = c.in-Err.ensures.lost in
    (lost.0, ap (λ (v : SeatView). v.seen) lost.1.1 ∙ i.1, ap (λ (v : SeatView). v.mine) lost.1.1 ∙ i.2)

pub returns-in-Ok-clause-held : goal.returns-in-Ok-clause-held
returns-in-Ok-clause-held g c = c.in-Ok.ensures.won.0

pub returns-in-Ok-clause-begun : goal.returns-in-Ok-clause-begun
returns-in-Ok-clause-begun g c = rw c.tries.invariant.1 at c.in-Ok.ensures.won.1

pub returns-in-Ok-clause-seen : goal.returns-in-Ok-clause-seen
returns-in-Ok-clause-seen g c = c.in-Ok.ensures.won.2 ∙ c.tries.invariant.1

pub returns-in-Ok-clause-mine : goal.returns-in-Ok-clause-mine
returns-in-Ok-clause-mine g c = c.in-Ok.ensures.won.3 ∙ c.tries.invariant.2
