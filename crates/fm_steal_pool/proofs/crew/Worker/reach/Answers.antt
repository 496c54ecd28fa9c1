use Rattle.fm_steal_pool.specs.Workers.{IsBare}
use Rattle.fm_steal_pool.proofs.Handing.{hands_on, if_none, put_nothing}
use Rattle.fm_steal_pool.proofs.crew.Worker.reach.Goals as goal

pub returns-in-None-clause-hands : goal.returns-in-None-clause-hands
returns-in-None-clause-hands g c = hands_on c.args.self.now c.first.new.self c.steal.new.self c.steal.result c.in-None.ensures.hands c.steal.ensures.hands

pub returns-in-None-clause-same : goal.returns-in-None-clause-same
returns-in-None-clause-same g c = put_nothing c.args.self.now c.first.new.self c.steal.new.self c.first.ensures.same c.steal.ensures.same

pub returns-in-None-clause-bare : goal.returns-in-None-clause-bare
returns-in-None-clause-bare g c = if_none c.steal.result (IsBare c.args.self.now) c.in-None.ensures.bare

pub returns-in-None-clause-empty : goal.returns-in-None-clause-empty
returns-in-None-clause-empty g c = rw c.first.ensures.others at c.steal.ensures.empty
