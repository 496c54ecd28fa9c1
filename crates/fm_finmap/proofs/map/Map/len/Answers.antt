use Rattle.std.proofs.Common.{◌∙◌}
use Rattle.fm_finmap.proofs.Maps.{key_order, len-map_of}
use Rattle.fm_finmap.proofs.map.Map.len.Goals as goal

pub returns-clause-count : goal.returns-clause-count
returns-clause-count g c = c.len.ensures.len ∙ len-map_of (key_order g.met.K.Ord.total g.met.K.Key.exact) c.self.inside.tree.entries c.args.self.now c.self.view_is c.len.ensures.ordered
