use Rattle.fm_sched.proofs.Runs.{length-le-used}
use Rattle.fm_sched.proofs.length_within_cost.Goals as goal

pub returns : goal.returns
returns g c = λ step paid s cs legal. length-le-used step paid s cs legal
