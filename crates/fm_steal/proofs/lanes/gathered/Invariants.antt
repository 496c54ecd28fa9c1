use Rattle.std.proofs.Common.{◌≡◌, ◌+◌, ◌++◌, length, All, IsPermutation}
use Rattle.crossbeam_deque.specs.Handles.{worker_deque, worker_view, stealer_deque}
use Rattle.fm_steal.specs.Lanes.{IsOwner, all_loot_list}
use Rattle.fm_steal.proofs.lanes.gathered.Given as goal

abbrev pub invariant-thieves : goal.invariant-thieves
invariant-thieves g l =
    IsOwner l.worker × ((worker_view l.worker).parts + length l.thieves.items ≡ 64)
    × All (λ t. stealer_deque t.stealer ≡ worker_deque l.worker) l.thieves.items
    × ((worker_view l.worker).put ≡ (worker_view l.initial.worker).put)
    × IsPermutation ((worker_view l.initial.worker).got ++ all_loot_list l.initial.thieves.items) ((worker_view l.worker).got ++ all_loot_list l.thieves.items)

abbrev pub decreases-thieves : goal.decreases-thieves
decreases-thieves g l = goal.left-thieves g l
