use Rattle.fm_proc_slots.proofs.RoomLaws.{room_exchanged}
use Rattle.fm_proc_slots.proofs.joining.settle.Goals as goal

pub returns-clause-room : goal.returns-clause-room
returns-clause-room c = room_exchanged c.args.gains.now _ c.exchange-out.ensures.len c.exchange-out.ensures.capacity c.exchange-out.ensures.room c.keep_some.ensures.len c.keep_some.ensures.capacity
