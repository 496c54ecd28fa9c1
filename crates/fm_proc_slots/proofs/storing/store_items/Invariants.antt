use Rattle.std.proofs.Common.{◌≡◌, ◌++◌, length, map}
use Rattle.fm_chan.specs.Items.{plain_item}
use Rattle.fm_proc_language.specs.Frames.{all_stored}
use Rattle.fm_proc_slots.specs.Stores.{HasRoomToStore, holds, message_slots}
use Rattle.fm_proc_slots.proofs.storing.store_items.Given as goal

abbrev pub invariant-items : goal.invariant-items
invariant-items l = record {
  keeps : (all_stored (holds l.stage) l.places (map plain_item l.rest.items)).0 ≡ (all_stored (holds l.fn.stage) l.fn.places (map plain_item l.fn.items)).0;
  gives : l.stage.drops.items ++ (all_stored (holds l.stage) l.places (map plain_item l.rest.items)).1 ≡ l.fn.stage.drops.items ++ (all_stored (holds l.fn.stage) l.fn.places (map plain_item l.fn.items)).1;
  room : HasRoomToStore l.stage l.places (message_slots (map plain_item l.rest.items));
}

abbrev pub decreases-items : goal.decreases-items
decreases-items l = length l.rest.items
