use Rattle.fm_run_law.proofs.Reached as reached
use Rattle.fm_run_law.proofs.run_is_fair.Goals as goal

pub returns : goal.returns
returns g c = λ source law slice turns run r follows. reached.run_is_fair (g.N.Net.play source) law slice turns run r follows
