use Rattle.fm_code_preserves.proofs.Keeps.{keeps}
use Rattle.fm_code_preserves.proofs.statements_keep.Goals as goal

pub returns : goal.returns
returns c = λ shapes b. keeps shapes b
