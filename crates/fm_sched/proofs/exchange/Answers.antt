use Rattle.fm_sched.proofs.Fronts.{settles_from}
use Rattle.fm_sched.proofs.exchange.Goals as goal

pub returns : goal.returns
returns g c = λ step start same diamond cs ends. settles_from step start same diamond cs ends
