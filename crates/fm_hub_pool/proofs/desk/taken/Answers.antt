use Rattle.std.proofs.Common.{inl, inr, refl}
use Rattle.fm_hub_pool.proofs.desk.taken.Goals as goal

pub returns-in-Going-clause-next : goal.returns-in-Going-clause-next
returns-in-Going-clause-next g c = inr (c.in-Going.ensures, c.taken_going.ensures.going)

pub returns-in-Ended-clause-next : goal.returns-in-Ended-clause-next
returns-in-Ended-clause-next g c = inl (refl, inl c.in-Ended.ensures, refl)

pub returns-in-Spent-clause-next : goal.returns-in-Spent-clause-next
returns-in-Spent-clause-next g c = inl (refl, inr c.in-Spent.ensures, refl)
