use Rattle.std.proofs.Common.{◌<◌, subst, sym}
use Rattle.fm_steal.proofs.Deals.{takes}
use Rattle.fm_steal.specs.declared.hand.Hand.{Hand}
use Rattle.fm_steal.proofs.lanes.stolen.Goals as goal

pub steal_as-requires-clause-takes : goal.steal_as-requires-clause-takes
steal_as-requires-clause-takes g c = takes _ _ (subst (λ (v : Hand g.row.T.Denot). 0 < v.parts) (sym c.tries.invariant.1) c.requires.2)
