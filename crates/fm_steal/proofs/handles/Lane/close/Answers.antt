use Rattle.std.proofs.Common.{◌≡◌, ◌++◌, ap, sym, subst, slice_index_or}
use Rattle.crossbeam_deque.specs.Handles.{worker_view}
use Rattle.fm_steal.specs.declared.hand.Hand.{Hand}
use Rattle.fm_steal.specs.Deals.{AreAll}
use Rattle.fm_steal.specs.Lanes.{put_list, got_list, all_loot_list}
use Rattle.fm_steal.proofs.Keeps.{all_closed}
use Rattle.fm_steal.proofs.handles.Lane.close.Goals as goal

pub returns-clause-all : goal.returns-clause-all
returns-clause-all g c =
    let put = c.gathered.ensures.owner.2 in
    all_closed (put_list c.args.self) (got_list c.args.self ++ all_loot_list c.args.thieves.items) (worker_view c.gathered.result).got c.rest.result.items c.gathered.ensures.got
    (subst (λ l. AreAll l ((worker_view c.gathered.result).got ++ c.rest.result.items)) put c.rest.ensures)

pub returns-clause-rise : goal.returns-clause-rise
returns-clause-rise g c = (c.args.self.rises, λ k d lt. (slice_index_or c.args.thieves.items k d).rises)
