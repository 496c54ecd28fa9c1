use Rattle.fm_discards.proofs.Order.{all_shed-swap, all_shed-past}
use Rattle.fm_discards.proofs.discards_in_any_order.Goals as goal

pub returns : goal.returns
returns c = record { parts = all_shed-swap; any_first = all_shed-past }
