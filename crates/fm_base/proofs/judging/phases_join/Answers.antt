use Rattle.std.specs.Prelude.{Contains}
use Rattle.fm_base.proofs.Phases.{phase_join}
use Rattle.fm_base.proofs.judging.phases_join.Goals as goal

pub returns : goal.returns
returns c = λ ps qs. phase_join (Contains ps) (Contains qs)
