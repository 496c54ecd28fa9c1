use Rattle.std.proofs.Common.{ap, ◌∙◌}
use Rattle.fm_table.specs.Told.{Told, stand_of}
use Rattle.fm_table.proofs.table.Table.paths.Goals as goal

pub returns : goal.returns
returns c = c.paths.ensures c.self.inside.program.value c.self.invariant.standing ∙ ap (λ (a : Told). (stand_of a).places) c.self.view_is
