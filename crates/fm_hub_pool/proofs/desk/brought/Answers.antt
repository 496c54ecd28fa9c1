use Rattle.fm_hub_pool.proofs.desk.brought.Goals as goal
use Rattle.fm_hub_pool.proofs.desk.brought.Goals.{in-Ok, in-Err}

pub returns-clause-brought : goal.returns-clause-brought
returns-clause-brought g c = elim c.match-give.branch [
  | in-Ok w ↦ rw (w.result-is, w.held-is) (w.in-Ok.field-0, w.in-Ok.ensures.does)
  | in-Err w ↦ rw (w.result-is, w.held-is) (c.give.new.self.table, w.in-Err.field-0, w.in-Err.ensures.does, w.recall.ensures.does)
]
