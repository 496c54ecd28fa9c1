use Rattle.std.proofs.Common.{inl, inr, refl}
use Rattle.fm_steal_pool.proofs.Handing.{hands_then}
use Rattle.fm_steal_pool.proofs.turns.next.Goals as goal

pub returns-in-Some-clause-next : goal.returns-in-Some-clause-next
returns-in-Some-clause-next g c = inl (c.in-Some.piece, refl, ((c.in-Some.ensures.hands, c.reach.ensures.same, tt), tt))

pub returns-in-Some-clause-hands : goal.returns-in-Some-clause-hands
returns-in-Some-clause-hands g c = inl c.in-Some.ensures.hands

pub returns-in-None-clause-next : goal.returns-in-None-clause-next
returns-in-None-clause-next g c =
    let none = c.in-None.ensures in
    inr (c.reach.new.self, ((none.hands, c.reach.ensures.same, none.bare), none.empty), c.next_at.ensures.served)

pub returns-in-None-clause-hands : goal.returns-in-None-clause-hands
returns-in-None-clause-hands g c = hands_then c.args.worker.now c.reach.new.self c.next_at.new.worker c.next_at.result c.in-None.ensures.hands c.next_at.ensures.hands
