use Rattle.fm_mean.proofs.Laws.{stays_along}
use Rattle.fm_mean.proofs.steps_stay.Goals as goal

pub returns : goal.returns
returns c = stays_along
