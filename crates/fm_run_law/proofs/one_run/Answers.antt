use Rattle.fm_run_law.proofs.OneRun as same
use Rattle.fm_run_law.proofs.one_run.Goals as goal

pub returns : goal.returns
returns g c = λ source slice turns choices a b r s mine theirs. same.one_run (g.N.Net.play source) slice choices turns a b r s mine theirs
