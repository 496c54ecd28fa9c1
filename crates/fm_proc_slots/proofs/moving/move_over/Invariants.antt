use Rattle.std.proofs.Common.{◌≡◌, ℕ, ◌+◌, drop}
use Rattle.fm_proc_language.specs.Frames.{moved_over}
use Rattle.fm_proc_slots.specs.Rooms.{HasRoom, slots_in, span_words}
use Rattle.fm_proc_slots.proofs.moving.move_over.Given as goal

abbrev pub invariant-spans : goal.invariant-spans
invariant-spans l = record {
  moved : moved_over (drop l.span-index l.spans) l.words (slots_in l.from) (slots_in l.to) ≡ moved_over l.spans l.fn.words (slots_in l.fn.from) (slots_in l.fn.to);
  from : (n : ℕ) → HasRoom l.fn.from (span_words l.spans + n) → HasRoom l.from (span_words (drop l.span-index l.spans) + n);
  to : (n : ℕ) → HasRoom l.fn.to (span_words l.spans + n) → HasRoom l.to (span_words (drop l.span-index l.spans) + n);
}
