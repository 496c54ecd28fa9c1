use Rattle.std.proofs.Common.{inl, inr, refl}
use Rattle.fm_hub_pool.proofs.desk.taken_out.Goals as goal

pub returns-in-Ok-Some-clause-taken : goal.returns-in-Ok-Some-clause-taken
returns-in-Ok-Some-clause-taken g c = inl (c.in-Ok-Some.piece, refl, rw c.in-Ok-Some.field-0-is at c.in-Ok-Some.ensures.does)

pub returns-then-load-eq0-clause-taken : goal.returns-then-load-eq0-clause-taken
returns-then-load-eq0-clause-taken g c = inr (inr (inl (refl, tt, rw c.in-Ok-None.field-0-is at c.in-Ok-None.ensures.does)))

pub returns-else-load-eq0-clause-taken : goal.returns-else-load-eq0-clause-taken
returns-else-load-eq0-clause-taken g c = inr (inl (refl, rw c.in-Ok-None.field-0-is at c.in-Ok-None.ensures.does))

pub returns-in-Err-clause-taken : goal.returns-in-Err-clause-taken
returns-in-Err-clause-taken g c = inr (inr (inr (c.take.new.self.table, c.in-Err.field-0, c.stopped.ensures.stops, c.in-Err.ensures.does, c.stopped.ensures.recalled)))
