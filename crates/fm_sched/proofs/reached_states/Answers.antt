use Rattle.fm_sched.specs.Schedule.{Stays, Diamond}
use Rattle.fm_sched.proofs.Along.{reached_first, reached_next, at_reached}
use Rattle.fm_sched.proofs.reached_states.Goals as goal

pub returns : goal.returns
returns g c = record {
  first = λ step. reached_first step;
  next = λ step. reached_next step;
  stays = λ step. at_reached step (Stays step);
  diamond = λ step. at_reached step (Diamond step);
}
