use Rattle.fm_mean.proofs.Laws.{each_costs}
use Rattle.fm_mean.proofs.each_step_costs.Goals as goal

pub returns : goal.returns
returns c = each_costs
