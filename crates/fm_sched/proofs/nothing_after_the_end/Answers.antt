use Rattle.fm_sched.proofs.Runs.{none_after}
use Rattle.fm_sched.proofs.nothing_after_the_end.Goals as goal

pub returns : goal.returns
returns g c = λ step s cs ds ends legal. none_after step s cs ds ends.1 legal
