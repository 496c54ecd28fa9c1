use Rattle.fm_cost_law.proofs.Along.{entry_costs, entry_fits}
use Rattle.fm_cost_law.proofs.Entries.{checked_small}
use Rattle.fm_cost_law.proofs.entries_cost_little.Goals as goal

pub returns : goal.returns
returns c = record {
  paid = λ source p h. entry_costs p (checked_small source p h);
  fits = λ source p h. entry_fits p (checked_small source p h);
}
