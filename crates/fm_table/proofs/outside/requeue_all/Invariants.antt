use Rattle.std.proofs.Common.{◌≡◌, ℕ, take}
use Rattle.fm_run.specs.Orders.{AreMarked}
use Rattle.fm_table.specs.Inside.{outs_of}
use Rattle.fm_table.specs.Outs.{behind}
use Rattle.fm_table.specs.Told.{numbers_out}
use Rattle.fm_table.proofs.outside.requeue_all.Given as goal

abbrev pub invariant-out : goal.invariant-out
invariant-out l = record {
  queue : l.queue.numbers.items ≡ behind (take l.place (numbers_out (outs_of l.out))) l.fn.queue.numbers.items;
  marks : (count : ℕ) → AreMarked count l.fn.queue.marks.items l.fn.queue.numbers.items → AreMarked count l.queue.marks.items l.queue.numbers.items;
}
