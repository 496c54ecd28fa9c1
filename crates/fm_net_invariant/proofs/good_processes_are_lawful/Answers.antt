use Rattle.fm_sched.specs.Simulation.{Passes}
use Rattle.fm_net_invariant.proofs.Good.{goods_alike, goods_lawful}
use Rattle.fm_net_invariant.proofs.good_processes_are_lawful.Goals as goal

pub returns : goal.returns
returns g c = record {
  lawful = λ language test law. goods_lawful language (Passes test) law;
  alike = λ language test law. goods_alike language (Passes test) law;
}
