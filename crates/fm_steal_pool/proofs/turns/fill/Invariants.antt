use Rattle.std.proofs.Common.{◌≡◌, ◌++◌, List, None, length}
use Rattle.fm_pool.specs.Desks.{IsNextAt}
use Rattle.fm_pool.specs.declared.desk.Next.{Next}
use Rattle.fm_steal.specs.Lanes.{put_list}
use Rattle.fm_steal_pool.specs.Workers.{AreAnswers, ArePieces, HandsOn, IsSameWorker, given_out}
use Rattle.fm_steal_pool.proofs.turns.fill.Given as goal

abbrev pub invariant-pieces : goal.invariant-pieces
invariant-pieces g l =
    (answers : List (Next g.row.T-Piece.Denot))
    × AreAnswers (IsNextAt g.T.SharedTable.take_does g.T.SharedTable.turn_does g.T.SharedTable.phase_tells l.light l.fn.worker.number) answers l.fn.desk l.desk
    × (put_list l.worker.lane ≡ put_list l.fn.worker.lane ++ given_out answers)
    × HandsOn l.fn.worker l.worker None
    × IsSameWorker l.fn.worker l.worker
    × ArePieces answers
    × (length answers ≡ l._taken)
