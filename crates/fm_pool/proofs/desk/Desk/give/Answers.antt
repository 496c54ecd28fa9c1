use Rattle.fm_pool.proofs.desk.Desk.give.Goals as goal

pub returns-clause-brought : goal.returns-clause-brought
returns-clause-brought g c = rw c.leave.ensures.same at c.given.ensures.brought
