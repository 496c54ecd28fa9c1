use Rattle.std.proofs.Common.{Bor, subst}
use Rattle.std.specs.List.{ItemBy}
use Rattle.fm_finmap.proofs.Kept.{value_lent}
use Rattle.fm_finmap.proofs.path_table.PathTable.get.Goals as goal

pub returns : goal.returns
returns g c = value_lent c.self.inside.paths.items c.self.inside.values.items c.args.self.now c.self.invariant c.self.view_is c.args.number (λ (b : Bor g.row.T.Denot). b.now) c.get.result
    (subst (λ xs. ItemBy (λ (b : Bor g.row.T.Denot). b.now) xs c.args.number c.args.number c.get.result) c.deref.ensures.value c.get.ensures.lookup)
