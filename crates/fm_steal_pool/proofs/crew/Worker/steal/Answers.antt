use Rattle.std.proofs.Common.{Some, None, refl, arith}
use Rattle.fm_steal_pool.proofs.Handing.{hands_on, put_nothing, took_nothing, tried_all, tried_more, tried_none}
use Rattle.fm_steal_pool.proofs.crew.Worker.steal.Goals as goal

pub others-init : goal.others-init
others-init g c = let w = c.args.self.now in (took_nothing w w refl refl, (refl, (refl, refl)), tried_none w.others.items)

pub others-preserved : goal.others-preserved
others-preserved g c =
    let i = c.others.invariant in
    let e = c.steal_at.ensures in
    let w = c.args.self.now in (
      hands_on w c.others.self c.steal_at.new.self None i.0 c.in-None.ensures.hands,
      put_nothing w c.others.self c.steal_at.new.self i.1 e.same,
      tried_more c.others.place w.others.items c.others.self.others.items c.steal_at.new.self.others.items i.2 e.others c.in-None.ensures.empty,
    )

pub returns-in-Some-clause-hands : goal.returns-in-Some-clause-hands
returns-in-Some-clause-hands g c =
    hands_on c.args.self.now c.others.self c.steal_at.new.self (Some c.in-Some.piece) c.others.invariant.0 c.in-Some.ensures.hands

pub returns-in-Some-clause-same : goal.returns-in-Some-clause-same
returns-in-Some-clause-same g c = put_nothing c.args.self.now c.others.self c.steal_at.new.self c.others.invariant.1 c.steal_at.ensures.same

pub returns-clause-empty : goal.returns-clause-empty
returns-clause-empty g c = tried_all c.others.place c.args.self.now.others.items c.others.self.others.items (omega arith) c.others.invariant.2
