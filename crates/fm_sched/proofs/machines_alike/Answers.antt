use Rattle.fm_sched.specs.Simulation.{ReadsAs}
use Rattle.fm_sched.proofs.Simulations.{do_the_same}
use Rattle.fm_sched.proofs.machines_alike.Goals as goal

pub returns : goal.returns
returns g c = λ step other read is_good. do_the_same step other (ReadsAs read is_good)
