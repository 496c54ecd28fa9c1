use Rattle.fm_sched.specs.Simulation.{Passes, ReadsAs}
use Rattle.fm_net.proofs.Correspondences.{alike}
use Rattle.fm_net.proofs.languages_alike.Goals as goal

pub returns : goal.returns
returns g c = λ first second read is_good is_live. alike first second (ReadsAs read is_good) (Passes is_live)
