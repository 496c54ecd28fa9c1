use Rattle.std.proofs.Common.{inl, inr, refl}
use Rattle.fm_hub_pool.proofs.desk.taken_going.Goals as goal

pub returns-in-Ok-true-clause-going : goal.returns-in-Ok-true-clause-going
returns-in-Ok-true-clause-going g c = inl (refl, rw c.in-Ok-true.field-0-test at c.in-Ok-true.ensures.made)

pub returns-in-Ok-false-clause-going : goal.returns-in-Ok-false-clause-going
returns-in-Ok-false-clause-going g c = inr (inl (c.made.new.held.table, rw c.in-Ok-false.field-0-test at c.in-Ok-false.ensures.made, c.taken_out.ensures.taken))

pub returns-in-Err-clause-going : goal.returns-in-Err-clause-going
returns-in-Err-clause-going g c = inr (inr (c.made.new.held.table, c.in-Err.field-0, c.stopped.ensures.stops, c.in-Err.ensures.made, c.stopped.ensures.recalled))
