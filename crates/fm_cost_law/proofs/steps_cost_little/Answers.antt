use Rattle.fm_cost_law.proofs.Along.{any_costs, outside_costs}
use Rattle.fm_cost_law.proofs.Entries.{checked_small}
use Rattle.fm_cost_law.proofs.steps_cost_little.Goals as goal

pub returns : goal.returns
returns c = record {
  outside = λ source p h. outside_costs p (checked_small source p h);
  paid = λ source p h. any_costs p (checked_small source p h);
}
