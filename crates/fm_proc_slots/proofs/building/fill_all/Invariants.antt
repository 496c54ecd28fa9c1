use Rattle.std.proofs.Common.{◌≡◌, ◌≤◌, ◌+◌, ◌++◌, length, map, vec_capacity, vec_len}
use Rattle.fm_chan.specs.Items.{plain_item}
use Rattle.fm_proc_language.specs.Frames.{message_from}
use Rattle.fm_proc_slots.specs.Builds.{operand_in}
use Rattle.fm_proc_slots.specs.Helds.{held}
use Rattle.fm_proc_slots.specs.Operands.{ports_room, reach}
use Rattle.fm_proc_slots.specs.Rooms.{HasRoom, slots_in}
use Rattle.fm_proc_slots.proofs.building.fill_all.Given as goal

abbrev pub invariant-blanks : goal.invariant-blanks
invariant-blanks l = record {
  keeps : (message_from (held l.words.items (slots_in l.slots)) (map operand_in l.rest.items)).0 ≡ (message_from (held l.fn.words.items (slots_in l.fn.slots)) (map operand_in l.fn.blanks.items)).0;
  gives : map plain_item l.items.items ++ (message_from (held l.words.items (slots_in l.slots)) (map operand_in l.rest.items)).1 ≡ (message_from (held l.fn.words.items (slots_in l.fn.slots)) (map operand_in l.fn.blanks.items)).1;
  words : reach (vec_len l.words) (map operand_in l.rest.items) ≤ vec_capacity l.words;
  slots : HasRoom l.slots (ports_room (map operand_in l.rest.items));
  room : vec_len l.items + length l.rest.items ≤ vec_capacity l.items;
}

abbrev pub decreases-blanks : goal.decreases-blanks
decreases-blanks l = length l.rest.items
