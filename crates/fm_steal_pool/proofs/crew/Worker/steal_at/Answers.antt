use Rattle.std.proofs.Common.{arith}
use Rattle.fm_steal_pool.proofs.Handing.{none_stolen, one_stolen, set_elsewhere, was_empty}
use Rattle.fm_steal_pool.proofs.crew.Worker.steal_at.Goals as goal

pub returns-in-Some-clause-hands : goal.returns-in-Some-clause-hands
returns-in-Some-clause-hands g c = λ h.
    let more = one_stolen h c.args.self.now.others.items c.args.place c.index_mut.result.now c.steal.new.self (c.in-Some.field-0-0, c.in-Some.piece) c.requires c.index_mut.ensures.value c.in-Some.ensures.taken.0 in
    omega (arith, more)

pub returns-in-Some-clause-others : goal.returns-in-Some-clause-others
returns-in-Some-clause-others g c = λ k ne. set_elsewhere c.args.self.now.others.items c.args.place k c.steal.new.self ne

pub returns-in-None-clause-hands : goal.returns-in-None-clause-hands
returns-in-None-clause-hands g c = λ h.
    let same = none_stolen h c.args.self.now.others.items c.args.place c.index_mut.result.now c.steal.new.self c.requires c.index_mut.ensures.value c.in-None.ensures.taken.0 in
    omega (arith, same)

pub returns-in-None-clause-others : goal.returns-in-None-clause-others
returns-in-None-clause-others g c = λ k ne. set_elsewhere c.args.self.now.others.items c.args.place k c.steal.new.self ne

pub returns-in-None-clause-empty : goal.returns-in-None-clause-empty
returns-in-None-clause-empty g c =
    was_empty c.args.self.now.others.items c.args.place c.index_mut.result.now c.requires c.index_mut.ensures.value c.in-None.ensures.taken.1
