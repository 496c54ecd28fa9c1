use Rattle.std.proofs.Common.{◌≡◌}
use Rattle.fm_code.specs.Passing.{nulls, spliced}
use Rattle.fm_proc_slots.proofs.words.null_span.Given as goal

abbrev pub invariant-words : goal.invariant-words
invariant-words l = l.words ≡ spliced l.fn.words l.span.first (nulls l.index)
