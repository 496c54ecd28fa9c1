use Rattle.std.proofs.Common.{ap, ◌∙◌}
use Rattle.fm_table.specs.Told.{cost_of}
use Rattle.fm_table.proofs.table.Table.used.Goals as goal

pub returns : goal.returns
returns c = c.self.invariant.standing.paid_is ∙ ap cost_of c.self.view_is
