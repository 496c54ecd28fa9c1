use Rattle.std.proofs.Common.{◌≡◌, map, take}
use Rattle.fm_plain_frame.specs.Memory.{number_in}
use Rattle.fm_plain_net.proofs.shown.numbers.Given as goal

abbrev pub invariant-words : goal.invariant-words
invariant-words l = l.all ≡ map number_in (take l.word-index l.words)
