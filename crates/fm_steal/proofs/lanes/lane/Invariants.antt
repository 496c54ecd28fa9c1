use Rattle.std.proofs.Common.{◌≡◌, ◌≤◌, ◌-◌, [], length, All, vec_len, vec_capacity}
use Rattle.crossbeam_deque.specs.Handles.{worker_deque, worker_view, worker_index, worker_capacity, stealer_deque}
use Rattle.fm_steal.specs.Deals.{hand}
use Rattle.fm_steal.specs.Lanes.{IsOwner, loot_list}
use Rattle.fm_steal.proofs.lanes.lane.Given as goal

abbrev pub invariant-thieves : goal.invariant-thieves
invariant-thieves g l =
    IsOwner l.worker × (worker_index l.worker ≡ 0) × (l.fn.capacity ≤ worker_capacity l.worker)
    × (worker_view l.worker ≡ hand (64 - l.number) [] [])
    × (vec_len l.made ≡ l.number) × (l.number ≤ l.fn.thieves) × (l.fn.thieves ≤ vec_capacity l.made)
    × All (λ t. (stealer_deque t.stealer ≡ worker_deque l.worker) × (loot_list t ≡ [])) l.made.items

abbrev pub decreases-thieves : goal.decreases-thieves
decreases-thieves g l = l.fn.thieves - l.number
