use Rattle.std.proofs.Common.{◌≡◌, ◌+◌, ◌≤◌, ◌++◌, length, vec_len, vec_capacity}
use Rattle.fm_mean.specs.Places.{live, stored_all}
use Rattle.fm_plain_frame.specs.Memory.{values_of}
use Rattle.fm_plain_passing.specs.Items.{message_of}
use Rattle.fm_plain_passing.specs.Rooms.{all_ports}
use Rattle.fm_plain_passing.proofs.messages.store_each.Given as goal

abbrev pub invariant-items : goal.invariant-items
invariant-items l = record {
  memory : (stored_all (values_of l.variables l.memory) l.left (message_of l.waiting.items)).0 ≡ (stored_all (values_of l.variables l.initial.memory) l.initial.left (message_of l.initial.waiting.items)).0;
  drops : live l.room.items ++ (stored_all (values_of l.variables l.memory) l.left (message_of l.waiting.items)).1 ≡ live l.initial.room.items ++ (stored_all (values_of l.variables l.initial.memory) l.initial.left (message_of l.initial.waiting.items)).1;
  room : vec_len l.room + all_ports l.waiting.items ≤ vec_capacity l.room;
}

abbrev pub decreases-items : goal.decreases-items
decreases-items l = length l.waiting.items
