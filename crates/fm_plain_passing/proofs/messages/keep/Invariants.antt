use Rattle.std.proofs.Common.{◌≡◌, ◌+◌, ◌≤◌, ◌++◌, length, vec_len, vec_capacity}
use Rattle.fm_mean.specs.Places.{live}
use Rattle.fm_plain_passing.proofs.messages.keep.Given as goal

abbrev pub invariant-ports : goal.invariant-ports
invariant-ports l = record {
  drops : live l.room.items ++ live l.waiting.items ≡ live l.initial.room.items ++ live l.initial.waiting.items;
  len : vec_len l.room + length l.waiting.items ≡ vec_len l.initial.room + length l.initial.waiting.items;
  capacity : vec_capacity l.initial.room ≤ vec_capacity l.room;
}

abbrev pub decreases-ports : goal.decreases-ports
decreases-ports l = length l.waiting.items
