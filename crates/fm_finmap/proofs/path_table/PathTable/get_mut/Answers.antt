use Rattle.std.proofs.Common.{refl, MutBor}
use Rattle.fm_finmap.proofs.Kept.{changed, value_lent}
use Rattle.fm_finmap.proofs.path_table.PathTable.get_mut.Goals as goal

pub returns : goal.returns
returns g c =
    let paths = c.self.inside.paths.items in
    let values = c.self.inside.values.items in (
      (refl, (λ w p at. changed paths values c.args.self.now c.self.invariant c.self.view_is c.args.number w p at), c.self.view_is),
      record { writes_back = tt; value = value_lent paths values c.args.self.now c.self.invariant c.self.view_is c.args.number (λ (b : MutBor g.row.T.Denot). b.now) c.get_mut.result c.get_mut.ensures.item },
    )
