use Rattle.fm_finmap.proofs.Maps.{map_of-nil}
use Rattle.fm_finmap.proofs.map.Map.new.Goals as goal

pub returns : goal.returns
returns g c = map_of-nil g.K.Ord.cmp c.new.result.entries c.new.ensures.empty
