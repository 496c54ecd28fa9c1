use Rattle.fm_mean.proofs.Leading.{all_lead}
use Rattle.fm_mean.proofs.entries_lead_on.Goals as goal

pub returns : goal.returns
returns c = all_lead
