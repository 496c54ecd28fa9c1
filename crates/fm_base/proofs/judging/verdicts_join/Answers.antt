use Rattle.std.specs.Prelude.{Contains}
use Rattle.fm_base.proofs.Phases.{verdict_join}
use Rattle.fm_base.proofs.judging.verdicts_join.Goals as goal

pub returns : goal.returns
returns c = λ ps qs. verdict_join (Contains ps) (Contains qs)
