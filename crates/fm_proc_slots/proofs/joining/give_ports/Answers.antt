use Rattle.std.proofs.Common.{◌+◌, arith, refl}
use Rattle.fm_proc_slots.specs.Joins.{joined}
use Rattle.fm_proc_slots.proofs.Backs.{one_more}
use Rattle.fm_proc_slots.proofs.RoomLaws.{fewer, room_after}
use Rattle.fm_proc_slots.proofs.joining.give_ports.Goals as goal

pub give_port-requires : goal.give_port-requires
give_port-requires c = record { room = c.ports.invariant.room 1 (fewer c.args.gains.now c.args.back.words (c.ports.index + 1) (omega arith) c.requires.room) }

pub ports-preserved : goal.ports-preserved
ports-preserved c = record {
  given = one_more (joined c.args.gains.now c.args.child.now) c.ports.gains c.give_port.new.gains c.ports.child c.give_port.new.child c.args.back.from c.args.back.to c.ports.index c.ports.invariant.given c.give_port.ensures.given;
  room = room_after c.args.gains.now c.ports.gains c.give_port.new.gains c.ports.index 1 (c.ports.index + 1) refl c.ports.invariant.room c.give_port.ensures.room;
}

pub returns-clause-room : goal.returns-clause-room
returns-clause-room c = λ n h. c.ports.invariant.room n (fewer c.args.gains.now (c.args.back.words + n) (c.ports.index + n) (omega arith) h)
