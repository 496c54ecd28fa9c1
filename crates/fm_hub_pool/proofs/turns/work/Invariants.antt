use Rattle.fm_hub.specs.Hubs.{IsAt}
use Rattle.fm_hub_pool.proofs.turns.work.Given as goal

abbrev pub invariant-pieces : goal.invariant-pieces
invariant-pieces g l = IsAt l.hub l.held.place
