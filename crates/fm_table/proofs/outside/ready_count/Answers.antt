use Rattle.std.proofs.Common.{refl, arith}
use Rattle.fm_table.specs.Inside.{outs_of}
use Rattle.fm_table.proofs.Outs.{count_all}
use Rattle.fm_table.proofs.outside.ready_count.Goals as goal

pub queue-init : goal.queue-init
queue-init c = record { counted = refl; few = omega arith }

pub returns : goal.returns
returns c = count_all (outs_of c.args.out.now) c.args.queue.now.items c.queue.place c.queue.count (omega (arith, c.args.queue.now.ok.0)) c.queue.invariant.counted
