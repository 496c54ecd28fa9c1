use Rattle.std.proofs.Common.{◌≡◌, ◌+◌, ◌≤◌, ◌++◌, length, vec_len, vec_capacity}
use Rattle.fm_mean.specs.Places.{live, placed_all}
use Rattle.fm_plain_frame.specs.Memory.{values_of}
use Rattle.fm_plain_passing.proofs.messages.place_each.Given as goal

abbrev pub invariant-ports : goal.invariant-ports
invariant-ports l = record {
  memory : (placed_all (values_of l.variables l.memory) l.left l.waiting.items).0 ≡ (placed_all (values_of l.variables l.initial.memory) l.initial.left l.initial.waiting.items).0;
  drops : live l.room.items ++ (placed_all (values_of l.variables l.memory) l.left l.waiting.items).1 ≡ live l.initial.room.items ++ (placed_all (values_of l.variables l.initial.memory) l.initial.left l.initial.waiting.items).1;
  room : vec_len l.room + length l.waiting.items ≤ vec_capacity l.room;
}

abbrev pub decreases-ports : goal.decreases-ports
decreases-ports l = length l.waiting.items
