use Rattle.std.proofs.Common.{◌≡◌, ◌≤◌, length, take}
use Rattle.fm_table.specs.Inside.{outs_of}
use Rattle.fm_table.specs.Told.{ready_in}
use Rattle.fm_table.proofs.outside.ready_count.Given as goal

abbrev pub invariant-queue : goal.invariant-queue
invariant-queue l = record {
  counted : l.count ≡ length (ready_in (outs_of l.out) (take l.place l.queue.items));
  few : l.count ≤ l.place;
}
