use Rattle.std.proofs.Common.{◌≡◌, ◌+◌, length, take}
use Rattle.fm_table.specs.Inside.{outs_of}
use Rattle.fm_table.specs.Told.{ready_in}
use Rattle.fm_table.proofs.outside.ready_at.Given as goal

-- so many are ready still before the one that is looked for
abbrev pub invariant-queue : goal.invariant-queue
invariant-queue l = l.before + length (ready_in (outs_of l.out) (take l.at l.queue.items)) ≡ l.place
