use Rattle.fm_code_kinds.proofs.NotStuck.{not_stuck}
use Rattle.fm_code_kinds.proofs.laws.none_is_stuck.Goals as goal

pub returns : goal.returns
returns c = λ shapes b fits. not_stuck shapes b fits
