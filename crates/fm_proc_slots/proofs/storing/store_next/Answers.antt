use Rattle.fm_chan.specs.Items.{plain_item}
use Rattle.fm_proc_slots.specs.Stores.{holds, item_slots}
use Rattle.fm_proc_slots.proofs.Staged.{room_first, room_others}
use Rattle.fm_proc_slots.proofs.Stored.{stored_nowhere}
use Rattle.fm_proc_slots.proofs.storing.store_next.Goals as goal

pub store-requires : goal.store-requires
store-requires c = room_first c.args.stage.now c.args.places.now c.in-Some.left.now c.in-Some.place (item_slots (plain_item c.args.item)) c.in-Some.ensures c.requires

pub returns-in-Some-clause-room : goal.returns-in-Some-clause-room
returns-in-Some-clause-room c = room_others c.args.stage.now c.store.new.stage c.args.places.now c.in-Some.left.now c.in-Some.place (item_slots (plain_item c.args.item)) c.in-Some.ensures c.store.ensures.room

pub returns-in-None-clause-placed : goal.returns-in-None-clause-placed
returns-in-None-clause-placed c =
    stored_nowhere (holds c.args.stage.now) c.args.places.now (plain_item c.args.item) c.args.stage.now.drops.items c.let_go.new.drops.items c.in-None.ensures c.let_go.ensures.items
