use Rattle.std.proofs.Common.{◌≡◌, map, take}
use Rattle.fm_plain_frame.specs.Memory.{number_in}
use Rattle.fm_plain_frame.proofs.reading.words.Given as goal

abbrev pub invariant-words : goal.invariant-words
invariant-words l = l.words ≡ map number_in (take l.word-index l.numbers)
