use Rattle.std.proofs.Common.{◌≡◌, ◌++◌, ℤ, List, Some, drop}
use Rattle.fm_nodes_trees.specs.Told.{given_words}
use Rattle.fm_nodes_trees.proofs.asking.words_in.Given as goal

-- the words so far, and those of the items that are left
abbrev pub invariant-items : goal.invariant-items
invariant-items l = (more : List (List ℤ)) → given_words (drop l.item-index l.items) ≡ Some more → given_words l.items ≡ Some (l.all ++ more)
