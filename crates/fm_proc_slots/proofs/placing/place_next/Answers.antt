use Rattle.std.proofs.Common.{arith}
use Rattle.fm_proc_slots.specs.Helds.{held}
use Rattle.fm_proc_slots.specs.Rooms.{slots_in}
use Rattle.fm_proc_slots.proofs.Roomy.{all_left, more_left}
use Rattle.fm_proc_slots.proofs.Stored.{placed_nowhere}
use Rattle.fm_proc_slots.proofs.placing.place_next.Goals as goal

pub returns-in-None-clause-placed : goal.returns-in-None-clause-placed
returns-in-None-clause-placed c =
    placed_nowhere (held c.args.words.now.items (slots_in c.args.slots.now)) c.args.numbers.now c.args.port c.args.out.now.items c.push_reserved.new.self.items c.in-None.ensures c.push_reserved.ensures.items

pub returns-in-None-clause-room : goal.returns-in-None-clause-room
returns-in-None-clause-room c = more_left c.args.slots.now c.args.slots.now 0 2 (omega arith) (all_left c.args.slots.now)
