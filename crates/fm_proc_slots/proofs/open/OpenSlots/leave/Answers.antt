use Rattle.std.specs.Box.{with_value}
use Rattle.fm_proc_slots.proofs.Roomy.{left_in_box}
use Rattle.fm_proc_slots.proofs.open.OpenSlots.leave.Goals as goal

pub returns-clause-room : goal.returns-clause-room
returns-clause-room c = left_in_box c.args.self.now c.in-Some.stock (with_value c.in-Some.stock c.leave.new.self) c.deref_mut.result.now 1 c.in-Some.is c.deref_mut.ensures.value c.leave.ensures.room
