use Rattle.std.proofs.Common.{refl, ap, ◌∙◌}
use Rattle.std.specs.Option.{option_copied_mut}
use Rattle.fm_finmap.proofs.Maps.{key_order, get_at, lent_insert}
use Rattle.fm_finmap.proofs.map.Map.get_mut.Goals as goal

pub returns : goal.returns
returns g c =
    let o = key_order g.met.K.Ord.total g.met.K.Key.exact in
    let es = c.self.inside.tree.entries in
    let old = c.args.self.now in
    let k = c.args.key.now in (
      (refl, (λ w. lent_insert o es old (c.get_mut.follows.lender w).entries k w c.self.view_is (λ is. ((c.get_mut.follows.holds w).3 is).0)), ap (λ t. t.entries) c.get_mut.follows.holds-at-none ∙ c.self.view_is),
      record { writes_back = tt; value = get_at o es old k (option_copied_mut c.get_mut.result) c.self.view_is c.get_mut.ensures.value },
    )
