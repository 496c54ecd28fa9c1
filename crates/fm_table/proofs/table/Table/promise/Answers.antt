use Rattle.std.proofs.Common.{subst}
use Rattle.fm_table.specs.Inside.{outs_of}
use Rattle.fm_table.specs.Told.{IsKept}
use Rattle.fm_table.proofs.Tables.{table_kept}
use Rattle.fm_table.proofs.table.Table.promise.Goals as goal

pub returns : goal.returns
returns c = let t = c.self.inside in subst IsKept c.self.view_is (table_kept t.program.value t.setup t.standing (outs_of t.out.items) t.shares c.self.invariant)
