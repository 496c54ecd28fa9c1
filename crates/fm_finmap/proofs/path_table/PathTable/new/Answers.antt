use Rattle.fm_finmap.proofs.Kept.{none_kept}
use Rattle.fm_finmap.proofs.path_table.PathTable.new.Goals as goal

pub invariant_of-result : goal.invariant_of-result
invariant_of-result g c = none_kept c.new.result.items c.new-2.result.items c.new.ensures.items c.new-2.ensures.items
