use Rattle.std.proofs.Common.{◌∙◌}
use Rattle.fm_hub_pool.proofs.turns.next_turn.Goals as goal

pub returns-clause-begun : goal.returns-clause-begun
returns-clause-begun g c = rw c.release-seat.ensures.released.0 at c.turn.ensures.begun

pub returns-clause-seen : goal.returns-clause-seen
returns-clause-seen g c = c.turn.ensures.seen ∙ c.release-seat.ensures.released.0

pub returns-clause-mine : goal.returns-clause-mine
returns-clause-mine g c = c.turn.ensures.mine ∙ c.release-seat.ensures.released.1
