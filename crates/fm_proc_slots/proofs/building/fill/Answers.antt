use Rattle.std.proofs.Common.{sym, subst}
use Rattle.fm_code.specs.declared.ask.Operand.{Operand}
use Rattle.fm_proc_slots.specs.Operands.{operand_ports}
use Rattle.fm_proc_slots.specs.Rooms.{LeavesRoom}
use Rattle.fm_proc_slots.proofs.building.fill.Goals as goal

pub returns-in-Ports-clause-slots : goal.returns-in-Ports-clause-slots
returns-in-Ports-clause-slots c = subst (λ (o : Operand). LeavesRoom (operand_ports o) c.args.slots.now c.taken.new.slots) (sym c.in-Ports.is) c.taken.ensures.slots
