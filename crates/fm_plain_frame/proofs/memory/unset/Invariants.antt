use Rattle.std.proofs.Common.{◌≡◌, take}
use Rattle.fm_plain_frame.proofs.Unset.{unset_words}
use Rattle.fm_plain_frame.proofs.memory.unset.Given as goal

abbrev pub invariant-variables : goal.invariant-variables
invariant-variables l = l.memory.items ≡ unset_words (take l.variable-index l.variables)
