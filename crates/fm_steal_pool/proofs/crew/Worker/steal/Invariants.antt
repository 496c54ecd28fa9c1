use Rattle.std.proofs.Common.{None}
use Rattle.fm_steal_pool.specs.Workers.{HandsOn, HasPutNothing}
use Rattle.fm_steal_pool.proofs.Handing.{HaveTried}
use Rattle.fm_steal_pool.proofs.crew.Worker.steal.Given as goal

abbrev pub invariant-others : goal.invariant-others
invariant-others g l =
    HandsOn l.fn.self l.self None × HasPutNothing l.fn.self l.self × HaveTried l.place l.fn.self.others.items l.self.others.items
