use Rattle.std.proofs.Common.{◌≡◌, drop}
use Rattle.fm_code.specs.Acts.{work, statement}
use Rattle.fm_machine_instr.proofs.statements.statement.Given as goal

abbrev pub invariant-instrs : goal.invariant-instrs
invariant-instrs l = work (drop l.at l.code) l.work.stack l.work.scratch l.frame ≡ statement l.code l.address l.frame
