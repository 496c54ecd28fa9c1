use Rattle.std.proofs.Common.{◌≡◌, ◌+◌, ◌≤◌, ◌++◌, ℤ, List, drop}
use Rattle.std.specs.Prelude.{vec_len, vec_capacity}
use Rattle.fm_code.specs.Passing.{ports_in}
use Rattle.fm_proc_language.specs.Slots.{vacated}
use Rattle.fm_proc_slots.specs.Rooms.{span_words}
use Rattle.fm_procs.proofs.dropping.drop_unit.Given as goal

abbrev pub invariant-spans : goal.invariant-spans
invariant-spans l = record {
  sheds : (others : List ℤ) → l.drops.items ++ vacated l.slots (ports_in (drop l.span-index l.spans) l.words ++ others) ≡ l.fn.drops.items ++ vacated l.fn.slots (ports_in l.spans l.words ++ others);
  len : vec_len l.drops + span_words (drop l.span-index l.spans) ≤ vec_len l.fn.drops + span_words l.spans;
  capacity : vec_capacity l.fn.drops ≤ vec_capacity l.drops;
}
