use Rattle.std.proofs.Common.{◌≡◌, map, take}
use Rattle.fm_base.specs.Channels.{Words}
use Rattle.fm_plain_passing.specs.Items.{message_of}
use Rattle.fm_nodes_trees.proofs.going.items_of.Given as goal

abbrev pub invariant-words : goal.invariant-words
invariant-words l = message_of l.items ≡ map Words (take l.item-index l.words)
