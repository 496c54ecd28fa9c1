use Rattle.std.proofs.Common.{◌≡◌, ◌++◌}
use Rattle.fm_proc_language.specs.Frames.{words_from}
use Rattle.fm_proc_slots.proofs.placing.push_numbers.Given as goal

abbrev pub invariant-words : goal.invariant-words
invariant-words l = l.numbers.items ≡ l.fn.numbers.items ++ words_from l.span.first l.index
