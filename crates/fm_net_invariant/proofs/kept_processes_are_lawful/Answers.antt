use Rattle.std.proofs.Common.{◌≡◌, true}
use Rattle.fm_sched.specs.Simulation.{Passes}
use Rattle.fm_net_invariant.proofs.Kept.{kept_alike, kept_lawful}
use Rattle.fm_net_invariant.proofs.kept_processes_are_lawful.Goals as goal

pub returns : goal.returns
returns g c = record {
  lawful = λ language so test law now. kept_lawful language (so ≡ true) (Passes test) law now;
  alike = λ language so test law. kept_alike language (so ≡ true) (Passes test) law;
}
