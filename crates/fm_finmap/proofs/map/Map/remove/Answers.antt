use Rattle.fm_finmap.proofs.Maps.{key_order, get_at, map_of-remove}
use Rattle.fm_finmap.proofs.map.Map.remove.Goals as goal

pub returns-clause-map : goal.returns-clause-map
returns-clause-map g c = map_of-remove (key_order g.met.K.Ord.total g.met.K.Key.exact) c.self.inside.tree.entries c.args.self.now c.remove.new.self.entries c.args.key.now c.self.view_is (λ q. c.remove.ensures.updates.0 q)

pub returns-clause-value : goal.returns-clause-value
returns-clause-value g c = get_at (key_order g.met.K.Ord.total g.met.K.Key.exact) c.self.inside.tree.entries c.args.self.now c.args.key.now c.remove.result c.self.view_is c.remove.ensures.value
