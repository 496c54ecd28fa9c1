use Rattle.std.proofs.Common.{inl, inr, refl}
use Rattle.fm_pool.proofs.desk.Desk.next_out.Goals as goal

pub returns-in-Ok-Some-clause-taken : goal.returns-in-Ok-Some-clause-taken
returns-in-Ok-Some-clause-taken g c = inl (c.in-Ok-Some.piece, refl, rw c.in-Ok-Some.field-0-is at c.in-Ok-Some.ensures.does)

pub returns-then-self-eq0-clause-taken : goal.returns-then-self-eq0-clause-taken
returns-then-self-eq0-clause-taken g c = inr (inr (inl (refl, c.if-self-eq0.true, rw c.in-Ok-None.field-0-is at c.in-Ok-None.ensures.does)))

pub returns-else-self-eq0-clause-taken : goal.returns-else-self-eq0-clause-taken
returns-else-self-eq0-clause-taken g c = inr (inl (refl, rw c.in-Ok-None.field-0-is at c.in-Ok-None.ensures.does))

pub returns-in-Err-clause-taken : goal.returns-in-Err-clause-taken
returns-in-Err-clause-taken g c = inr (inr (inr (c.take.new.self, c.in-Err.field-0, refl, c.in-Err.ensures.does, refl)))
