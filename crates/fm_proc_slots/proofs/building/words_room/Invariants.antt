use Rattle.std.proofs.Common.{◌≡◌, ◌+◌, drop}
use Rattle.fm_proc_slots.specs.Operands.{words_room}
use Rattle.fm_proc_slots.proofs.building.words_room.Given as goal

abbrev pub invariant-items : goal.invariant-items
invariant-items l = l.count + words_room (drop l.item-index l.items) ≡ words_room l.items
