use Rattle.fm_sched.proofs.Fronts.{spent_for_all}
use Rattle.fm_sched.proofs.spent_for_all.Goals as goal

pub returns : goal.returns
returns g c = λ step start same diamond turns cs legal over ds ends. spent_for_all step start same diamond turns cs legal over ds ends
