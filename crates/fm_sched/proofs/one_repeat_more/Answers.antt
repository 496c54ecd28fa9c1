use Rattle.fm_sched.proofs.Runs.{play-replicate, used-replicate, IsLegal-replicate, can_repeat}
use Rattle.fm_sched.proofs.one_repeat_more.Goals as goal

pub returns : goal.returns
returns g c = record {
  state = λ step. play-replicate step;
  cost = λ step. used-replicate step;
  legal = λ step. IsLegal-replicate step;
  can = λ step. can_repeat step;
}
