use Rattle.std.proofs.Common.{◌≡◌, take}
use Rattle.fm_plain_frame.proofs.copying.copy_words.Given as goal

abbrev pub invariant-words : goal.invariant-words
invariant-words l = l.all.items ≡ take l.word-index l.words
