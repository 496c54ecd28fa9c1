use Rattle.std.proofs.Common.{◌≡◌, map, take}
use Rattle.fm_values.specs.Values.{is_truth}
use Rattle.fm_plain_frame.specs.Memory.{number_in}
use Rattle.fm_plain_net.proofs.shown.truths.Given as goal

abbrev pub invariant-words : goal.invariant-words
invariant-words l = l.all ≡ map is_truth (map number_in (take l.word-index l.words))
