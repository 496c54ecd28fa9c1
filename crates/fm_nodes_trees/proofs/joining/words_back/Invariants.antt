use Rattle.std.proofs.Common.{◌≡◌, ◌+◌, map, drop}
use Rattle.fm_mean.specs.Steps.{joining_words}
use Rattle.fm_plain_frame.specs.Frames.{kid_of}
use Rattle.fm_nodes_trees.proofs.joining.words_back.Given as goal

-- the words so far, and those of the children that are left
abbrev pub invariant-kids : goal.invariant-kids
invariant-kids l = l.words + joining_words (map kid_of (drop l.kid-index l.kids)) ≡ joining_words (map kid_of l.kids)
