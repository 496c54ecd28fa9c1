use Rattle.std.proofs.Common.{◌∙◌}
use Rattle.fm_finmap.proofs.Maps.{key_order, some_at}
use Rattle.fm_finmap.proofs.map.Map.contains_key.Goals as goal

pub returns : goal.returns
returns g c = c.contains_key.ensures ∙ some_at (key_order g.met.K.Ord.total g.met.K.Key.exact) c.self.inside.tree.entries c.args.self.now c.args.key.now c.self.view_is
