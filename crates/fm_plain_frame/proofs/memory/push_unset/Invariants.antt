use Rattle.std.proofs.Common.{◌≡◌, ◌++◌, replicate}
use Rattle.fm_plain_frame.specs.Memory.{unset_word}
use Rattle.fm_plain_frame.proofs.memory.push_unset.Given as goal

abbrev pub invariant-elements : goal.invariant-elements
invariant-elements l = l.memory.items ≡ l.fn.memory.items ++ replicate l.element (unset_word l.variable.kind)
