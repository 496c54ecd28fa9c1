use Rattle.std.specs.Option.{option_copied}
use Rattle.fm_finmap.proofs.Maps.{key_order, get_at}
use Rattle.fm_finmap.proofs.map.Map.get.Goals as goal

pub returns : goal.returns
returns g c = get_at (key_order g.met.K.Ord.total g.met.K.Key.exact) c.self.inside.tree.entries c.args.self.now c.args.key.now (option_copied c.get.result) c.self.view_is c.get.ensures.value
