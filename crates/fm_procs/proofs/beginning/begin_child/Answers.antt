use Rattle.std.proofs.Common.{Option, subst, sym}
use Rattle.fm_code.specs.declared.body.Body.{Body}
use Rattle.fm_proc_slots.specs.Rooms.{LeavesRoom}
use Rattle.fm_procs.specs.Drafts.{room_in}
use Rattle.fm_procs.proofs.beginning.begin_child.Goals as goal

pub returns-clause-left : goal.returns-clause-left
returns-clause-left c = subst (λ (b : Option Body). LeavesRoom (room_in b) c.args.slots.now c.fill.new.from) (sym c.in-Some.is) c.fill.ensures.left
