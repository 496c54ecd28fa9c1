use Rattle.std.proofs.Common.{◌≡◌, ◌+◌, drop, map}
use Rattle.fm_chan.specs.Items.{plain_item}
use Rattle.fm_proc_language.specs.Processes.{message_words}
use Rattle.fm_proc_slots.proofs.messages.items_words.Given as goal

abbrev pub invariant-items : goal.invariant-items
invariant-items l = l.count + message_words (map plain_item (drop l.item-index l.items)) ≡ message_words (map plain_item l.items)
