use Rattle.fmc.proofs.AnswerLaws.{ended_fair, free_fair}
use Rattle.fmc.proofs.playing.may_be_told.Goals as goal

pub returns-then-is_spent : goal.returns-then-is_spent
returns-then-is_spent c = λ told. free_fair c.args.program.now c.args.played.now (c.deterministic.ensures.0 told)

pub returns-else-is_spent : goal.returns-else-is_spent
returns-else-is_spent c = λ told. ended_fair c.args.program.now c.args.played.now c.is_spent.result c.is_spent.ensures c.if-is_spent.false
