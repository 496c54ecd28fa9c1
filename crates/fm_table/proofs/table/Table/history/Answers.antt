use Rattle.std.proofs.Common.{ap}
use Rattle.fm_table.specs.Told.{Told}
use Rattle.fm_table.proofs.table.Table.history.Goals as goal

pub returns : goal.returns
returns c = ap (λ (a : Told). a.history) c.self.view_is
