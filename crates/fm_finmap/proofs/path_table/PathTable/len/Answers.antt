use Rattle.std.proofs.Common.{◌∙◌}
use Rattle.fm_finmap.proofs.Kept.{count_is}
use Rattle.fm_finmap.proofs.path_table.PathTable.len.Goals as goal

pub returns : goal.returns
returns g c = c.len.ensures ∙ c.self.inside.values.ok.0 ∙ count_is c.self.inside.paths.items c.self.inside.values.items c.args.self.now c.self.invariant c.self.view_is
