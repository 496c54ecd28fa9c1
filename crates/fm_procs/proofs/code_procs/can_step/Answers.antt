use Rattle.std.proofs.lemmas.Result.{IfOk-weaker}
use Rattle.fm_procs.proofs.code_procs.can_step.Goals as goal

pub returns : goal.returns
returns c = IfOk-weaker c.can_step.result _ _ (λ r can. can tt c.requires.told c.requires.families tt) c.can_step.ensures
