use Rattle.fm_run_law.proofs.Fairness.{fair}
use Rattle.fm_run_law.proofs.first_come_is_fair.Goals as goal

pub returns : goal.returns
returns g c = λ source law slice history follows. fair (g.N.Net.play source) law slice history follows
