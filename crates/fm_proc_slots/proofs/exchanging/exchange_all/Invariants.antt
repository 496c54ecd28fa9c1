use Rattle.std.proofs.Common.{◌≡◌, ◌≤◌, ◌+◌, ◌*◌, ◌++◌, ℕ, length, vec_capacity, vec_len}
use Rattle.fm_proc_language.specs.Frames.{all_exchanged}
use Rattle.fm_proc_slots.specs.Helds.{held}
use Rattle.fm_proc_slots.specs.Rooms.{HasRoom, slots_in}
use Rattle.fm_proc_slots.proofs.exchanging.exchange_all.Given as goal

abbrev pub invariant-ports : goal.invariant-ports
invariant-ports l = record {
  both : (all_exchanged (held l.words.items (slots_in l.slots)) (l.span.first + l.index) l.rest.items).0 ≡ (all_exchanged (held l.fn.words.items (slots_in l.fn.slots)) l.span.first l.fn.ports.items).0;
  out : l.drops.items ++ (all_exchanged (held l.words.items (slots_in l.slots)) (l.span.first + l.index) l.rest.items).1 ≡ l.fn.drops.items ++ (all_exchanged (held l.fn.words.items (slots_in l.fn.slots)) l.span.first l.fn.ports.items).1;
  count : l.index + length l.rest.items ≤ l.span.count;
  words : vec_len l.words ≡ vec_len l.fn.words;
  row : vec_capacity l.words ≡ vec_capacity l.fn.words;
  room : (n : ℕ) → HasRoom l.fn.slots (2 * length l.fn.ports.items + n) → HasRoom l.slots (2 * length l.rest.items + n);
  len : vec_len l.drops + length l.rest.items ≤ vec_len l.fn.drops + length l.fn.ports.items;
  capacity : vec_capacity l.fn.drops ≤ vec_capacity l.drops;
}

abbrev pub decreases-ports : goal.decreases-ports
decreases-ports l = length l.rest.items
