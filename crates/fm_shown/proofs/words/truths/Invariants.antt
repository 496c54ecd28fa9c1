use Rattle.std.proofs.Common.{◌≡◌, map, take}
use Rattle.fm_values.specs.Values.{is_truth}
use Rattle.fm_shown.proofs.words.truths.Given as goal

abbrev pub invariant-words : goal.invariant-words
invariant-words l = l.all ≡ map is_truth (take l.word-index l.words)
