use Rattle.std.proofs.Common.{◌≡◌, ap, arith}
use Rattle.fm_steal.specs.Lanes.{got_list}
use Rattle.fm_steal_pool.specs.Workers.{weight}
use Rattle.fm_steal_pool.proofs.Handing.{one_popped}
use Rattle.fm_steal_pool.proofs.crew.Worker.first.Goals as goal

pub returns-in-Some-clause-hands : goal.returns-in-Some-clause-hands
returns-in-Some-clause-hands g c = λ h.
    let more = one_popped h (got_list c.args.self.now.lane) (got_list c.pop.new.self) (c.in-Some.field-0-0, c.in-Some.piece) c.in-Some.ensures.taken.0 in
    omega (arith, more)

pub returns-in-None-clause-hands : goal.returns-in-None-clause-hands
returns-in-None-clause-hands g c = λ h.
    let same : weight h (got_list c.pop.new.self) ≡ weight h (got_list c.args.self.now.lane) = ap (weight h) c.in-None.ensures.taken.0 in
    omega (arith, same)

pub returns-in-None-clause-bare : goal.returns-in-None-clause-bare
returns-in-None-clause-bare g c = c.in-None.ensures.taken.1
