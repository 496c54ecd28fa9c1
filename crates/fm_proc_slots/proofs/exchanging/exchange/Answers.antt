use Rattle.fm_proc_slots.proofs.Roomy.{one_used}
use Rattle.fm_proc_slots.proofs.exchanging.exchange.Goals as goal

pub put_any-word-requires : goal.put_any-word-requires
put_any-word-requires c = c.take-out.ensures.room 1 c.requires

pub returns-then-number-len-clause-room : goal.returns-then-number-len-clause-room
returns-then-number-len-clause-room c = one_used c.args.slots.now c.take-out.new.self c.put_any-word.new.self 1 c.take-out.ensures.room c.put_any-word.ensures.room

pub returns-else-number-len-clause-room : goal.returns-else-number-len-clause-room
returns-else-number-len-clause-room c = one_used c.args.slots.now c.take-out.new.self c.put_any-word.new.self 1 c.take-out.ensures.room c.put_any-word.ensures.room
