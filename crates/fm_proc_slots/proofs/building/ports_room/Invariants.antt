use Rattle.std.proofs.Common.{◌≡◌, ◌+◌, drop}
use Rattle.fm_proc_slots.specs.Operands.{ports_room}
use Rattle.fm_proc_slots.proofs.building.ports_room.Given as goal

abbrev pub invariant-items : goal.invariant-items
invariant-items l = l.count + ports_room (drop l.item-index l.items) ≡ ports_room l.items
