use Rattle.std.proofs.Common.{◌≡◌, ◌+◌, drop}
use Rattle.fm_mean.specs.Actions.{message_words}
use Rattle.fm_plain_passing.specs.Items.{message_of}
use Rattle.fm_plain_passing.proofs.item.message_words.Given as goal

abbrev pub invariant-items : goal.invariant-items
invariant-items l = l.words + message_words (message_of (drop l.item-index l.items)) ≡ message_words (message_of l.items)
