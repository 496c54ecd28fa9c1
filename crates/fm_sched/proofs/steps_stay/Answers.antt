use Rattle.fm_sched.proofs.Along.{can_throughout, cost_throughout}
use Rattle.fm_sched.proofs.steps_stay.Goals as goal

pub returns : goal.returns
returns g c = record {
  cost = λ step. cost_throughout step;
  can = λ step. can_throughout step;
}
