use Rattle.fm_plain_net.proofs.Rests.{ended_rests}
use Rattle.fm_plain_net.proofs.processes.TreeProcProc.rests.Goals as goal

pub returns : goal.returns
returns c = λ p y done. ended_rests p y done
