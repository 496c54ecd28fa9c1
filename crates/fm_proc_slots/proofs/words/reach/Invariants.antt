use Rattle.std.proofs.Common.{◌≡◌, drop}
use Rattle.fm_proc_slots.specs.Operands.{reach}
use Rattle.fm_proc_slots.proofs.words.reach.Given as goal

abbrev pub invariant-operands : goal.invariant-operands
invariant-operands l = reach l.reach (drop l.operand-index l.operands) ≡ reach l.len l.operands
