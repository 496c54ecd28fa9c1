use Rattle.std.proofs.Common.{◌*◌, length, ap, arith, vec_len}
use Rattle.std.proofs.lemmas.List.{length-take}
use Rattle.fm_code.specs.declared.ask.Operand.TheVariants as operand
use Rattle.fm_proc_slots.proofs.Reaches.{operand_least}
use Rattle.fm_proc_slots.proofs.Roomy.{more_left}
use Rattle.fm_proc_slots.proofs.Staged.{room_stored}
use Rattle.fm_proc_slots.proofs.storing.store_span.Goals as goal

pub returns-clause-room : goal.returns-clause-room
returns-clause-room c =
    let ports = c.args.ports.items in
    let cut = c.truncate.new.self.items in
    let fewer = ap length c.truncate.ensures.items in
    let most = length-take c.args.span.count ports in
    let said = c.exchange_all.ensures in
    let old = c.args.stage.now in
    room_stored old (record { words = c.exchange_all.new.words; slots = c.exchange_all.new.slots; drops = c.exchange_all.new.drops }) (operand.Ports c.args.span) (length ports)
    (omega (arith, said.words, operand_least (vec_len old.words) (operand.Ports c.args.span))) (omega (arith, said.room))
    (more_left old.slots c.exchange_all.new.slots (2 * length cut) (2 * length ports) (omega (arith, fewer, most)) said.slots)
    (omega (arith, fewer, most, said.len)) said.capacity
