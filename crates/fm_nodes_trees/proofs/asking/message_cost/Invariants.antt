use Rattle.std.proofs.Common.{◌≡◌, ◌+◌, List, drop}
use Rattle.fm_base.specs.Channels.{Item}
use Rattle.fm_mean.specs.Actions.{message_words}
use Rattle.fm_mean.specs.Places.{message_from}
use Rattle.fm_nodes_trees.proofs.asking.message_cost.Given as goal

-- the words so far, and those of the items that are left
abbrev pub invariant-items : goal.invariant-items
invariant-items l = (vs : List Item) → l.words + message_words (message_from vs (drop l.item-index l.items)).1 ≡ message_words (message_from vs l.items).1
