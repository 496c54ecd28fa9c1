use Rattle.std.proofs.Common.{ap, arith}
use Rattle.fm_plain_frame.specs.Memory.{values_of}
use Rattle.fm_mean.specs.Places.{live}
use Rattle.fm_plain_passing.specs.Rooms.{all_ports}
use Rattle.fm_plain_passing.proofs.MessageLaws.{stored_past}
use Rattle.fm_plain_passing.proofs.messages.store_each.Goals as goal

pub items-preserved-in-None : goal.items-preserved-in-None
items-preserved-in-None c =
    let on = stored_past (values_of c.args.variables.now c.items.memory) c.items.left.now c.in-Some.item c.items.waiting.items c.pop_front.new.self.items (live c.items.room.items) (live c.keep.new.room.items) _ _
    c.in-None.ensures.cases c.in-Some.ensures.items c.keep.ensures.drops c.items.invariant.memory c.items.invariant.drops in
    record { memory = on.0; drops = on.1; room = omega (arith, ap all_ports c.in-Some.ensures.items) }
