use Rattle.std.proofs.Common.{◌≡◌, ◌+◌, drop}
use Rattle.fm_proc_slots.specs.Rooms.{span_words}
use Rattle.fm_proc_slots.proofs.words.span_words.Given as goal

abbrev pub invariant-spans : goal.invariant-spans
invariant-spans l = l.count + span_words (drop l.span-index l.spans) ≡ span_words l.spans
