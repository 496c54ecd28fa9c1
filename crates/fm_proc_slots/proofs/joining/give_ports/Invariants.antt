use Rattle.fm_proc_language.specs.Frames.{ports_given}
use Rattle.fm_proc_slots.specs.Joins.{GivesSo, LeavesRoomFor, joined}
use Rattle.fm_proc_slots.proofs.joining.give_ports.Given as goal

abbrev pub invariant-ports : goal.invariant-ports
invariant-ports l = record {
  given : GivesSo (ports_given (joined l.fn.gains l.fn.child) l.back.from l.back.to l.index) l.gains l.child;
  room : LeavesRoomFor l.index l.fn.gains l.gains;
}
