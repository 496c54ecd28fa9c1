use Rattle.std.proofs.Common.{◌≡◌, ◌+◌, ◌≤◌, ◌++◌, drop, length, vec_capacity, vec_len}
use Rattle.fm_proc_language.specs.Slots.{all_left, vacated}
use Rattle.fm_proc_slots.specs.Rooms.{HasRoom, slots_in}
use Rattle.fm_proc_events.proofs.shedding.vacate.Given as goal

abbrev pub invariant-words : goal.invariant-words
invariant-words l = record {
  ports : l.ports.items ++ vacated (slots_in l.slots) (drop l.word-index l.words) ≡ l.fn.ports.items ++ vacated (slots_in l.fn.slots) l.words;
  slots : all_left (slots_in l.slots) (drop l.word-index l.words) ≡ all_left (slots_in l.fn.slots) l.words;
  free : HasRoom l.slots (length (drop l.word-index l.words));
  empty : vec_len l.ports + length (drop l.word-index l.words) ≤ vec_capacity l.ports;
}
