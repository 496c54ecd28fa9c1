use Rattle.std.proofs.Common.{subst}
use Rattle.fm_proc_slots.specs.Rooms.{LeavesRoom, span_words}
use Rattle.fm_procs.proofs.beginning.fill.Goals as goal

pub returns-clause-left : goal.returns-clause-left
returns-clause-left c = subst (λ spans. LeavesRoom (span_words spans) c.args.from.now c.move_over.new.from) c.ports_at.ensures c.move_over.ensures.from
