use Rattle.fm_sched.proofs.Runs.{next-Some, cost-Some, next-None, cost-None}
use Rattle.fm_sched.proofs.one_choice.Goals as goal

pub returns : goal.returns
returns g c = record {
  state = λ step. next-Some step;
  cost = λ step. cost-Some step;
  no_step = λ step. next-None step;
  no_cost = λ step. cost-None step;
}
