use Rattle.std.proofs.Common.{◌≡◌, ◌+◌, ◌++◌, ◌≤◌, drop, vec_capacity, vec_len}
use Rattle.fm_proc_language.specs.Slots.{all_taken}
use Rattle.fm_proc_slots.specs.Rooms.{LeavesRoom, slots_in}
use Rattle.fm_proc_slots.proofs.open.OpenSlots.take_all.Given as goal

abbrev pub invariant-words : goal.invariant-words
invariant-words l = record {
  ports : l.ports.items ++ (all_taken (slots_in l.self) (drop l.word-index l.words)).0 ≡ l.fn.ports.items ++ (all_taken (slots_in l.fn.self) l.words).0;
  slots : (all_taken (slots_in l.self) (drop l.word-index l.words)).1 ≡ (all_taken (slots_in l.fn.self) l.words).1;
  room : LeavesRoom l.word-index l.fn.self l.self;
  len : vec_len l.ports ≡ vec_len l.fn.ports + l.word-index;
  capacity : vec_capacity l.fn.ports ≤ vec_capacity l.ports;
}
