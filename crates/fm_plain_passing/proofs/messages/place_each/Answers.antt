use Rattle.std.proofs.Common.{length, ap, arith}
use Rattle.fm_plain_frame.specs.Memory.{values_of}
use Rattle.fm_plain_passing.proofs.MessageLaws.{placed_past, placed_next}
use Rattle.fm_plain_passing.proofs.messages.place_each.Goals as goal

pub ports-preserved-in-None : goal.ports-preserved-in-None
ports-preserved-in-None c =
    let on = placed_past (values_of c.args.variables.now c.ports.memory) c.ports.left.now c.in-Some.port c.ports.waiting.items c.pop_front.new.self.items c.ports.room.items c.put.new.room.items _ _
    c.in-None.ensures.cases c.in-Some.ensures.items c.put.ensures.items c.ports.invariant.memory c.ports.invariant.drops in
    record { memory = on.0; drops = on.1; room = omega (arith, ap length c.in-Some.ensures.items) }

pub ports-preserved : goal.ports-preserved
ports-preserved c =
    let on = placed_next (values_of c.args.variables.now c.ports.memory) (values_of c.args.variables.now c.exchange-replaced.new.memory) c.ports.left.now c.in-Some-split_first.rest.now c.in-Some-split_first.place.now
    c.in-Some.port c.ports.waiting.items c.pop_front.new.self.items c.exchange-replaced.result c.ports.room.items c.put-in-Some-split_first.new.room.items _ _
    c.in-Some-split_first.ensures.cases.0 c.in-Some.ensures.items c.exchange-replaced.ensures.memory c.exchange-replaced.ensures.port c.put-in-Some-split_first.ensures.items c.ports.invariant.memory c.ports.invariant.drops in
    record { memory = on.0; drops = on.1; room = omega (arith, ap length c.in-Some.ensures.items) }
