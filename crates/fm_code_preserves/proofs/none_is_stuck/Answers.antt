use Rattle.fm_code_preserves.proofs.Keeps.{never_stuck}
use Rattle.fm_code_preserves.proofs.none_is_stuck.Goals as goal

pub returns : goal.returns
returns c = λ shapes b. never_stuck shapes b
