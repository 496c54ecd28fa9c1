use Rattle.std.proofs.Common.{◌≡◌, ◌≤◌, ◌+◌, ◌++◌, drop, vec_len, vec_capacity}
use Rattle.fm_code.specs.Passing.{live}
use Rattle.fm_proc_language.specs.Slots.{all_left, vacated}
use Rattle.fm_proc_slots.specs.Joins.{SamePorts}
use Rattle.fm_proc_slots.proofs.joining.vacate_words.Given as goal

abbrev pub invariant-words : goal.invariant-words
invariant-words l = record {
  drops : l.drops.items ++ vacated l.slots (live (drop l.word-index l.words)) ≡ l.fn.drops.items ++ vacated l.fn.slots (live l.words);
  slots : SamePorts (all_left l.fn.slots (live l.words)) (all_left l.slots (live (drop l.word-index l.words)));
  len : vec_len l.drops ≤ vec_len l.fn.drops + l.word-index;
  capacity : vec_capacity l.fn.drops ≤ vec_capacity l.drops;
}
