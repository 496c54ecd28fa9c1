use Rattle.std.proofs.Common.{◌*◌, length, sym, subst, arith, vec_len}
use Rattle.fm_code.specs.declared.ask.Operand.{Operand}
use Rattle.fm_proc_slots.specs.Stores.{LeavesRoomToStore}
use Rattle.fm_proc_slots.proofs.Reaches.{operand_least}
use Rattle.fm_proc_slots.proofs.Roomy.{all_left, more_left}
use Rattle.fm_proc_slots.proofs.Staged.{room_stored}
use Rattle.fm_proc_slots.proofs.storing.store_ports.Goals as goal

pub returns-in-Words-clause-room : goal.returns-in-Words-clause-room
returns-in-Words-clause-room c =
    let old = c.args.stage.now in
    let k = length c.args.ports.items in
    room_stored old (record { words = old.words; slots = old.slots; drops = c.push_ports-in-Words.new.drops }) c.args.place k (operand_least (vec_len old.words) c.args.place) (omega arith)
    (more_left old.slots old.slots 0 (2 * k) (omega arith) (all_left old.slots)) c.push_ports-in-Words.ensures.len c.push_ports-in-Words.ensures.capacity

pub returns-in-Ports-clause-room : goal.returns-in-Ports-clause-room
returns-in-Ports-clause-room c = subst (λ (o : Operand). LeavesRoomToStore o (length c.args.ports.items) c.args.stage.now c.store_span.new.stage) (sym c.in-Ports.is) c.store_span.ensures.room
