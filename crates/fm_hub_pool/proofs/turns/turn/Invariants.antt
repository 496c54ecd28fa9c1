use Rattle.std.proofs.Common.{◌≡◌}
use Rattle.fm_hub.specs.Hubs.{IsSeatOf, view_of}
use Rattle.fm_hub_pool.proofs.turns.turn.Given as goal

abbrev pub invariant-tries : goal.invariant-tries
invariant-tries g l =
    IsSeatOf l.hub l.seat × ((view_of l.seat).seen ≡ (view_of l.fn.seat).seen) × ((view_of l.seat).mine ≡ (view_of l.fn.seat).mine)
