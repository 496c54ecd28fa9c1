use Rattle.fm_cards.proofs.PhaseZero.{all_of_phase_zero}
use Rattle.fm_cards.proofs.judging.all_of_phase_zero.Goals as goal

pub returns : goal.returns
returns c = all_of_phase_zero
