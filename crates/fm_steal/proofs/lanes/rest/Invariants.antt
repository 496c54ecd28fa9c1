use Rattle.std.proofs.Common.{◌≡◌, ◌+◌, ◌≤◌, ◌++◌, length, vec_len, vec_capacity}
use Rattle.crossbeam_deque.specs.Handles.{worker_view}
use Rattle.fm_steal.specs.Lanes.{IsOwner}
use Rattle.fm_steal.proofs.lanes.rest.Given as goal

abbrev pub invariant-items : goal.invariant-items
invariant-items g l =
    IsOwner l.worker × ((worker_view l.worker).parts ≡ 64)
    × ((worker_view l.worker).put ≡ (worker_view l.fn.worker).put)
    × ((worker_view l.worker).got ≡ (worker_view l.fn.worker).got ++ l.room.items)
    × (length (worker_view l.worker).put ≡ length (worker_view l.worker).got + l.left)
    × (vec_len l.room + l.left ≤ vec_capacity l.room)

abbrev pub decreases-items : goal.decreases-items
decreases-items g l = l.left
