use Rattle.fmc.proofs.ExecLaws.{exec_answer}
use Rattle.fmc.proofs.laws.exec_has_one_answer.Goals as goal

pub returns : goal.returns
returns c = λ turns vars b. exec_answer b turns vars
