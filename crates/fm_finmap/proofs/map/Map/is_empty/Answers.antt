use Rattle.std.proofs.Common.{◌∙◌, ap, nat_eq, ℕ}
use Rattle.fm_finmap.proofs.Maps.{key_order, len-map_of}
use Rattle.fm_finmap.proofs.map.Map.is_empty.Goals as goal

pub returns : goal.returns
returns g c = ap (λ (n : ℕ). nat_eq n 0) (c.len.ensures.len ∙ len-map_of (key_order g.met.K.Ord.total g.met.K.Key.exact) c.self.inside.tree.entries c.args.self.now c.self.view_is c.len.ensures.ordered)
