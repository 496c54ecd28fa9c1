use Rattle.std.proofs.Common.{◌≡◌, ◌+◌, drop, map}
use Rattle.fm_chan.specs.Items.{plain_item}
use Rattle.fm_proc_slots.specs.Stores.{message_slots}
use Rattle.fm_proc_slots.proofs.storing.items_slots.Given as goal

abbrev pub invariant-items : goal.invariant-items
invariant-items l = l.count + message_slots (map plain_item (drop l.item-index l.items)) ≡ message_slots (map plain_item l.items)
