use Rattle.std.proofs.Common.{◌∙◌}
use Rattle.fm_finmap.proofs.Maps.{key_order, entries-map_of}
use Rattle.fm_finmap.proofs.map.MapIntoIterator.into_iter.Goals as goal

pub returns : goal.returns
returns g c =
    let gives = c.into_iter.ensures.into_iter_gives in
    record { into_iter_gives = (gives.0 ∙ entries-map_of (key_order g.met.K.Ord.total g.met.K.Key.exact) c.self.inside.tree.entries c.args.self c.self.view_is gives.5, gives.2) }
