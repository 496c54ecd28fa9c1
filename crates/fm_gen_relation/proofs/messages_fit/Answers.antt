use Rattle.fm_gen_relation.proofs.Targets.{targets_fit}
use Rattle.fm_gen_relation.proofs.messages_fit.Goals as goal

pub returns : goal.returns
returns c = targets_fit
