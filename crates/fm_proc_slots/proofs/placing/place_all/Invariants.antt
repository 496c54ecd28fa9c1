use Rattle.std.proofs.Common.{◌≡◌, ◌≤◌, ◌+◌, ◌*◌, ◌++◌, length, vec_capacity, vec_len}
use Rattle.fm_proc_language.specs.Frames.{all_placed}
use Rattle.fm_proc_slots.specs.Helds.{held}
use Rattle.fm_proc_slots.specs.Rooms.{HasRoom, slots_in}
use Rattle.fm_proc_slots.proofs.placing.place_all.Given as goal

abbrev pub invariant-ports : goal.invariant-ports
invariant-ports l = record {
  keeps : (all_placed (held l.words.items (slots_in l.slots)) l.numbers l.rest.items).0 ≡ (all_placed (held l.fn.words.items (slots_in l.fn.slots)) l.fn.numbers l.fn.ports.items).0;
  gives : l.out.items ++ (all_placed (held l.words.items (slots_in l.slots)) l.numbers l.rest.items).1 ≡ l.fn.out.items ++ (all_placed (held l.fn.words.items (slots_in l.fn.slots)) l.fn.numbers l.fn.ports.items).1;
  slots : HasRoom l.slots (2 * length l.rest.items);
  empty : vec_len l.out + length l.rest.items ≤ vec_capacity l.out;
}

abbrev pub decreases-ports : goal.decreases-ports
decreases-ports l = length l.rest.items
