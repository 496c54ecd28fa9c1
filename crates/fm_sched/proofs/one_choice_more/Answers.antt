use Rattle.fm_sched.proofs.Runs.{play-push, used-push, IsLegal-push, can_push}
use Rattle.fm_sched.proofs.one_choice_more.Goals as goal

pub returns : goal.returns
returns g c = record {
  state = λ step. play-push step;
  cost = λ step. used-push step;
  legal = λ step. IsLegal-push step;
  can = λ step. can_push step;
}
