use Rattle.fmc.proofs.ExecLaws.{exec_cause}
use Rattle.fmc.proofs.laws.exec_has_one_cause.Goals as goal

pub returns : goal.returns
returns c = λ turns others vars shown b. exec_cause b turns others vars shown
