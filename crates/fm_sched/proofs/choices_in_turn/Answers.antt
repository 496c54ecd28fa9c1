use Rattle.fm_sched.proofs.Runs.{play-append, used-append, IsLegal-append, legal_first, legal_second, IsEnding-append, ends_second}
use Rattle.fm_sched.proofs.choices_in_turn.Goals as goal

pub returns : goal.returns
returns g c = record {
  state = λ step. play-append step;
  cost = λ step. used-append step;
  legal = λ step. IsLegal-append step;
  legal_first = λ step. legal_first step;
  legal_second = λ step. legal_second step;
  ends = λ step. IsEnding-append step;
  ends_second = λ step. ends_second step;
}
