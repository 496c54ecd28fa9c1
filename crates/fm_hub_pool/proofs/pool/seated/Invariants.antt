use Rattle.std.proofs.Common.{◌≡◌, All, map}
use Rattle.std.specs.List.{range_with_len}
use Rattle.fm_hub.specs.Hubs.{IsSeatOf, view_of}
use Rattle.fm_hub_pool.proofs.pool.seated.Given as goal

abbrev pub invariant-workers : goal.invariant-workers
invariant-workers g l =
    IsSeatOf l.hub l.seat × (view_of l.seat ≡ view_of l.fn.seat) × All (λ w. IsSeatOf l.hub w.seat) l.workers.items
    × (map (λ w. w.number) l.workers.items ≡ range_with_len 0 l.number)
