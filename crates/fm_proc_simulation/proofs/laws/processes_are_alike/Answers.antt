use Rattle.fm_proc_simulation.proofs.Asking.{needs_alike, local_alike}
use Rattle.fm_proc_simulation.proofs.FirstAlike.{first_alike}
use Rattle.fm_proc_simulation.proofs.Shows.{shows_alike}
use Rattle.fm_proc_simulation.proofs.laws.processes_are_alike.Goals as goal

pub returns : goal.returns
returns c = record {
  local = λ p s live q x y is same. local_alike p s live q x is y same;
  needs = needs_alike;
  outcomes = λ p used s t stands. shows_alike p s t stands used;
  first = first_alike;
}
