use Rattle.std.proofs.Common.{Some, None, inl, inr, refl}
use Rattle.fm_pool.specs.declared.desk.Next.TheVariants.{Runs, Goes, Waits, Stops}
use Rattle.fm_steal_pool.proofs.Handing.{hands_on, same_worker}
use Rattle.fm_steal_pool.proofs.turns.found.Goals as goal

pub returns-in-Runs-clause-turn : goal.returns-in-Runs-clause-turn
returns-in-Runs-clause-turn g c =
    let e = c.fill.ensures in
    (c.fill.new.worker, Runs c.in-Runs.refused, c.in-Runs.ensures.filled, e.hands, e.same, (refl, refl))

pub returns-in-Runs-clause-hands : goal.returns-in-Runs-clause-hands
returns-in-Runs-clause-hands g c = inr c.fill.ensures.hands

pub returns-in-Some-clause-turn : goal.returns-in-Some-clause-turn
returns-in-Some-clause-turn g c =
    let e = c.fill.ensures in
    (c.fill.new.worker, Goes, c.in-Goes.ensures.filled, e.hands, e.same, (Some c.in-Some.piece, (c.in-Some.ensures.hands, c.first.ensures.same, tt), refl))

pub returns-in-Some-clause-hands : goal.returns-in-Some-clause-hands
returns-in-Some-clause-hands g c = inl (hands_on c.args.worker.now c.fill.new.worker c.first.new.self (Some c.in-Some.piece) c.fill.ensures.hands c.in-Some.ensures.hands)

pub returns-in-Some-clause-same : goal.returns-in-Some-clause-same
returns-in-Some-clause-same g c = same_worker c.args.worker.now c.fill.new.worker c.first.new.self c.fill.ensures.same c.first.ensures.same.1

pub returns-in-None-clause-turn : goal.returns-in-None-clause-turn
returns-in-None-clause-turn g c =
    let e = c.fill.ensures in
    (c.fill.new.worker, Goes, c.in-Goes.ensures.filled, e.hands, e.same, (None, (c.in-None.ensures.hands, c.first.ensures.same, c.in-None.ensures.bare), refl))

pub returns-in-None-clause-hands : goal.returns-in-None-clause-hands
returns-in-None-clause-hands g c = inl (hands_on c.args.worker.now c.fill.new.worker c.first.new.self None c.fill.ensures.hands c.in-None.ensures.hands)

pub returns-in-None-clause-same : goal.returns-in-None-clause-same
returns-in-None-clause-same g c = same_worker c.args.worker.now c.fill.new.worker c.first.new.self c.fill.ensures.same c.first.ensures.same.1

pub returns-in-Some-reach-clause-turn : goal.returns-in-Some-reach-clause-turn
returns-in-Some-reach-clause-turn g c =
    let e = c.fill.ensures in
    (c.fill.new.worker, Waits, c.in-Waits.ensures.filled, e.hands, e.same, (Some c.in-Some-reach.piece, ((c.in-Some-reach.ensures.hands, c.reach.ensures.same, tt), tt), refl))

pub returns-in-Some-reach-clause-hands : goal.returns-in-Some-reach-clause-hands
returns-in-Some-reach-clause-hands g c = inl (hands_on c.args.worker.now c.fill.new.worker c.reach.new.self (Some c.in-Some-reach.piece) c.fill.ensures.hands c.in-Some-reach.ensures.hands)

pub returns-in-Some-reach-clause-same : goal.returns-in-Some-reach-clause-same
returns-in-Some-reach-clause-same g c = same_worker c.args.worker.now c.fill.new.worker c.reach.new.self c.fill.ensures.same c.reach.ensures.same.1

pub returns-in-None-reach-clause-turn : goal.returns-in-None-reach-clause-turn
returns-in-None-reach-clause-turn g c =
    let e = c.fill.ensures in
    (c.fill.new.worker, Waits, c.in-Waits.ensures.filled, e.hands, e.same, (None, ((c.in-None-reach.ensures.hands, c.reach.ensures.same, c.in-None-reach.ensures.bare), c.in-None-reach.ensures.empty), refl))

pub returns-in-None-reach-clause-hands : goal.returns-in-None-reach-clause-hands
returns-in-None-reach-clause-hands g c = inl (hands_on c.args.worker.now c.fill.new.worker c.reach.new.self None c.fill.ensures.hands c.in-None-reach.ensures.hands)

pub returns-in-None-reach-clause-same : goal.returns-in-None-reach-clause-same
returns-in-None-reach-clause-same g c = same_worker c.args.worker.now c.fill.new.worker c.reach.new.self c.fill.ensures.same c.reach.ensures.same.1

pub returns-in-Some-first-clause-turn : goal.returns-in-Some-first-clause-turn
returns-in-Some-first-clause-turn g c =
    let e = c.fill.ensures in
    (c.fill.new.worker, Stops, c.in-Stops.ensures.filled, e.hands, e.same, (Some c.in-Some-first.piece, (c.in-Some-first.ensures.hands, c.first-in-Stops.ensures.same, tt), refl))

pub returns-in-Some-first-clause-hands : goal.returns-in-Some-first-clause-hands
returns-in-Some-first-clause-hands g c = inl (hands_on c.args.worker.now c.fill.new.worker c.first-in-Stops.new.self (Some c.in-Some-first.piece) c.fill.ensures.hands c.in-Some-first.ensures.hands)

pub returns-in-Some-first-clause-same : goal.returns-in-Some-first-clause-same
returns-in-Some-first-clause-same g c = same_worker c.args.worker.now c.fill.new.worker c.first-in-Stops.new.self c.fill.ensures.same c.first-in-Stops.ensures.same.1

pub returns-in-None-first-clause-turn : goal.returns-in-None-first-clause-turn
returns-in-None-first-clause-turn g c =
    let e = c.fill.ensures in
    (c.fill.new.worker, Stops, c.in-Stops.ensures.filled, e.hands, e.same, (None, (c.in-None-first.ensures.hands, c.first-in-Stops.ensures.same, c.in-None-first.ensures.bare), refl))

pub returns-in-None-first-clause-hands : goal.returns-in-None-first-clause-hands
returns-in-None-first-clause-hands g c = inl (hands_on c.args.worker.now c.fill.new.worker c.first-in-Stops.new.self None c.fill.ensures.hands c.in-None-first.ensures.hands)

pub returns-in-None-first-clause-same : goal.returns-in-None-first-clause-same
returns-in-None-first-clause-same g c = same_worker c.args.worker.now c.fill.new.worker c.first-in-Stops.new.self c.fill.ensures.same c.first-in-Stops.ensures.same.1
