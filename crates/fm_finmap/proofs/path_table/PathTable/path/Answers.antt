use Rattle.std.proofs.Common.{Bor, subst}
use Rattle.std.specs.List.{ItemBy}
use Rattle.std.specs.declared.alloc.Global.{Global}
use Rattle.std.specs.declared.sync.Arc.{Arc}
use Rattle.fm_base.specs.declared.path.Path.{Path}
use Rattle.fm_finmap.proofs.Kept.{path_lent}
use Rattle.fm_finmap.proofs.path_table.PathTable.path.Goals as goal

pub returns : goal.returns
returns g c = path_lent c.self.inside.paths.items c.self.inside.values.items c.args.self.now c.self.invariant c.self.view_is c.args.number c.get.result
    (subst (λ xs. ItemBy (λ (b : Bor (Arc Path Global)). b.now) xs c.args.number c.args.number c.get.result) c.deref.ensures.value c.get.ensures.lookup)
