use Rattle.std.proofs.Common.{◌≡◌, drop, map}
use Rattle.fm_mean.specs.Places.{live}
use Rattle.fm_plain_frame.specs.Memory.{port_in}
use Rattle.fm_plain_frame.proofs.emptiness.words_are_null.Given as goal

abbrev pub invariant-words : goal.invariant-words
invariant-words l = live (map port_in (drop l.word-index l.words)) ≡ live (map port_in l.words)
