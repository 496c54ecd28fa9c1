use Rattle.std.proofs.Common.{List, None}
use Rattle.fm_pool.specs.Desks.{IsNextAt}
use Rattle.fm_pool.specs.declared.desk.Next.{Next}
use Rattle.fm_steal_pool.specs.Workers.{HandsOn, HasWaited}
use Rattle.fm_steal_pool.proofs.turns.next_at.Given as goal

abbrev pub invariant-turns : goal.invariant-turns
invariant-turns g l =
    (turns : List (Next g.row.T-Piece.Denot))
    × HasWaited (IsNextAt g.T.SharedTable.take_does g.T.SharedTable.turn_does g.T.SharedTable.phase_tells l.light) turns l.fn.worker l.worker
    × HandsOn l.fn.worker l.worker None
