use Rattle.std.proofs.Common.{ℕ, ◌*◌, length, ap, sym, subst, arith, ◌∙◌}
use Rattle.fm_chan.specs.declared.message.Item.{Item}
use Rattle.fm_chan.specs.Items.{plain_item}
use Rattle.fm_proc_slots.specs.Stores.{LeavesRoomToStore, item_slots}
use Rattle.fm_proc_slots.proofs.Roomy.{all_left, more_left}
use Rattle.fm_proc_slots.proofs.Staged.{room_stored}
use Rattle.fm_proc_slots.proofs.storing.store.Goals as goal

pub returns-in-Words-clause-room : goal.returns-in-Words-clause-room
returns-in-Words-clause-room c =
    let old = c.args.stage.now in
    let k = item_slots (plain_item c.args.item) in
    room_stored old (record { words = c.store_words.new.words; slots = old.slots; drops = old.drops }) c.args.place k c.store_words.ensures.len c.store_words.ensures.capacity
    (more_left old.slots old.slots 0 (2 * k) (omega arith) (all_left old.slots)) (omega arith) (omega arith)

pub returns-in-Ports-clause-room : goal.returns-in-Ports-clause-room
returns-in-Ports-clause-room c =
    subst (λ (k : ℕ). LeavesRoomToStore c.args.place k c.args.stage.now c.store_ports.new.stage) (ap length c.into_vec.ensures ∙ sym (ap (λ (i : Item). item_slots (plain_item i)) c.in-Ports.is)) c.store_ports.ensures.room
