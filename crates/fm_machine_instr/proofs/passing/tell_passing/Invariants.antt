use Rattle.std.proofs.Common.{◌≡◌, [], drop}
use Rattle.fm_code.specs.Acts.{work, statement}
use Rattle.fm_machine_instr.specs.Told.{with_operands}
use Rattle.fm_machine_instr.proofs.passing.tell_passing.Given as goal

abbrev pub invariant-instrs : goal.invariant-instrs
invariant-instrs l = work (drop l.at l.code) [] (with_operands l.operands) l.frame ≡ statement l.code l.frame.address l.frame
