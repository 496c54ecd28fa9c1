use Rattle.std.proofs.Common.{◌≡◌, ◌+◌, ◌≤◌, ◌++◌, length, map, vec_items, vec_len, vec_capacity}
use Rattle.fm_mean.specs.Places.{message_from}
use Rattle.fm_plain_frame.specs.Memory.{values_of}
use Rattle.fm_plain_passing.specs.Items.{message_of}
use Rattle.fm_plain_passing.specs.Rooms.{rooms_for}
use Rattle.fm_plain_passing.proofs.messages.take_each.Given as goal

abbrev pub invariant-items : goal.invariant-items
invariant-items l = record {
  memory : (message_from (values_of l.variables l.memory) l.items.items).0 ≡ (message_from (values_of l.variables l.initial.memory) l.initial.items.items).0;
  items : message_of l.message.items ++ (message_from (values_of l.variables l.memory) l.items.items).1 ≡ message_of l.initial.message.items ++ (message_from (values_of l.variables l.initial.memory) l.initial.items.items).1;
  rooms : map vec_items l.rooms.items ≡ rooms_for l.items.items;
  capacity : vec_len l.message + length l.items.items ≤ vec_capacity l.message;
}

abbrev pub decreases-items : goal.decreases-items
decreases-items l = length l.items.items
