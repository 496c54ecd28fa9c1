use Rattle.std.proofs.Common.{ap, ◌∙◌}
use Rattle.fm_finmap.specs.Rows.{places_in}
use Rattle.fm_finmap.proofs.Kept.{places_are}
use Rattle.fm_finmap.proofs.path_table.PathTable.paths.Goals as goal

pub returns : goal.returns
returns g c = ap places_in c.as_slice.ensures.value ∙ places_are c.self.inside.paths.items c.self.inside.values.items c.args.self.now c.self.invariant c.self.view_is
