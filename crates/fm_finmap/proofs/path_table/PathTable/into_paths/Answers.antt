use Rattle.fm_finmap.proofs.Kept.{places_are}
use Rattle.fm_finmap.proofs.path_table.PathTable.into_paths.Goals as goal

pub returns : goal.returns
returns g c = places_are c.self.inside.paths.items c.self.inside.values.items c.args.self c.self.invariant c.self.view_is
