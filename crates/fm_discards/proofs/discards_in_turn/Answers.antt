use Rattle.fm_discards.proofs.Shedding.{all_shed-nil}
use Rattle.fm_discards.proofs.Order.{all_shed-append, all_shed-writer}
use Rattle.fm_discards.proofs.discards_in_turn.Goals as goal

pub returns : goal.returns
returns c = record { nothing = all_shed-nil; parts = all_shed-append; outport = all_shed-writer }
