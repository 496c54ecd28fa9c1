use Rattle.fm_same.proofs.SameBodies.{by_reverse}
use Rattle.fm_same.proofs.body.same_pile.Goals as goal

pub returns : goal.returns
returns c =
    by_reverse c.same_items.result c.args.first.now c.args.second.now c.outermost_first-ones.result.now c.outermost_first-others.result.now
    c.outermost_first-ones.ensures c.outermost_first-others.ensures c.same_items.ensures
