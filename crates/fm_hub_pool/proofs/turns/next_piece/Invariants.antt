use Rattle.fm_hub.specs.Hubs.{IsAt}
use Rattle.fm_hub_pool.proofs.turns.next_piece.Given as goal

abbrev pub invariant-turns : goal.invariant-turns
invariant-turns g l = IsAt l.hub l.held.place
