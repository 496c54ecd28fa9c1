use Rattle.fmc.proofs.ReplayLaws.{replayed}
use Rattle.fmc.proofs.top.replay_tells_the_run.Goals as goal

pub returns : goal.returns
returns c = λ setup vars source exit history places text says played within. replayed setup vars source exit history places text says played within
