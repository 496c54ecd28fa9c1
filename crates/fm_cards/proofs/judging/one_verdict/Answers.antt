use Rattle.fm_cards.proofs.PhaseZero.{one_verdict}
use Rattle.fm_cards.proofs.judging.one_verdict.Goals as goal

pub returns : goal.returns
returns c = one_verdict
