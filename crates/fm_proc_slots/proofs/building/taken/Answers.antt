use Rattle.std.proofs.Common.{length, drop, ap, arith}
use Rattle.std.proofs.lemmas.List.{length-take}
use Rattle.fm_proc_slots.proofs.Roomy.{more_left}
use Rattle.fm_proc_slots.proofs.building.taken.Goals as goal

pub returns-clause-slots : goal.returns-clause-slots
returns-clause-slots c =
    more_left c.args.slots.now c.take_all.new.self (length c.words_of.result.now) c.args.span.count
    (omega (arith, ap length c.words_of.ensures, length-take c.args.span.count (drop c.args.span.first c.as_slice.result.now))) c.take_all.ensures.room
