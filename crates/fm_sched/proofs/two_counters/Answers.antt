use Rattle.fm_sched.proofs.Counters.{counters_commute, counters_settle}
use Rattle.fm_sched.proofs.two_counters.Goals as goal

pub returns : goal.returns
returns c = record {
  commute = counters_commute;
  settle = counters_settle;
}
