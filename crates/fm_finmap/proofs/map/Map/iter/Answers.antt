use Rattle.std.proofs.Common.{◌∙◌}
use Rattle.fm_finmap.proofs.Maps.{key_order, entries-map_of}
use Rattle.fm_finmap.proofs.map.Map.iter.Goals as goal

pub returns-clause-rest : goal.returns-clause-rest
returns-clause-rest g c = c.iter.ensures.rest ∙ entries-map_of (key_order g.met.K.Ord.total g.met.K.Key.exact) c.self.inside.tree.entries c.args.self.now c.self.view_is c.iter.ensures.ordered
