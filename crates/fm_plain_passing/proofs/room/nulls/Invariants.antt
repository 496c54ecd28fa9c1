use Rattle.std.proofs.Common.{◌≡◌, ◌-◌, ◌≤◌, None, replicate, vec_len}
use Rattle.fm_plain_passing.proofs.room.nulls.Given as goal

abbrev pub invariant-nulls : goal.invariant-nulls
invariant-nulls l = record { nulls : l.room.items ≡ replicate (vec_len l.room) None; within : vec_len l.room ≤ l.count }

abbrev pub decreases-nulls : goal.decreases-nulls
decreases-nulls l = l.count - vec_len l.room
