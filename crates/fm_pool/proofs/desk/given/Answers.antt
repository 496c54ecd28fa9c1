use Rattle.std.proofs.Common.{refl}
use Rattle.fm_pool.proofs.desk.given.Goals as goal
use Rattle.fm_pool.proofs.desk.given.Goals.{in-Ok, in-Err}

pub returns-clause-brought : goal.returns-clause-brought
returns-clause-brought g c = elim c.match-give.branch [
  | in-Ok w ↦ rw w.result-is (w.in-Ok.field-0, w.in-Ok.ensures.does)
  | in-Err w ↦ rw w.result-is (c.give.new.self, w.in-Err.field-0, w.in-Err.ensures.does, refl)
]
