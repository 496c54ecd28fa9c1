use Rattle.std.proofs.Common.{◌≡◌, ◌++◌, map, take}
use Rattle.fm_mean.specs.Evaluate.{printed_by}
use Rattle.fm_plain_eval.proofs.lines.push_words.Given as goal

abbrev pub invariant-words : goal.invariant-words
invariant-words l = l.line ≡ l.initial.line ++ map (printed_by l.kind) (take l.word-index l.words)
