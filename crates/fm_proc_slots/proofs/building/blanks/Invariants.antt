use Rattle.std.proofs.Common.{◌≡◌, ◌++◌, drop, map}
use Rattle.fm_proc_slots.specs.Builds.{operand_in}
use Rattle.fm_proc_slots.proofs.building.blanks.Given as goal

abbrev pub invariant-items : goal.invariant-items
invariant-items l = map operand_in l.blanks.items ++ drop l.item-index l.items ≡ l.items
