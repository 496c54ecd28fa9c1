use Rattle.fmc.proofs.OneReplay.{one_answer}
use Rattle.fmc.proofs.laws.replay_has_one_answer.Goals as goal

pub returns : goal.returns
returns c = one_answer c.one_verdict.ensures c.one_program.ensures.program c.one_program.ensures.either
