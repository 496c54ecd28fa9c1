use Rattle.fm_cost_law.proofs.Payments.{entries_paid}
use Rattle.fm_cost_law.proofs.entries_are_paid.Goals as goal

pub returns : goal.returns
returns c = entries_paid
