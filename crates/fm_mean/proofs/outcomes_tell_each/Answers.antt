use Rattle.fm_mean.proofs.Telling.{each_told}
use Rattle.fm_mean.proofs.outcomes_tell_each.Goals as goal

pub returns : goal.returns
returns c = each_told
