use Rattle.std.proofs.Common.{subst}
use Rattle.fm_proc_slots.specs.Rooms.{LeavesRoom}
use Rattle.fm_proc_events.specs.declared.process.Process.{Process}
use Rattle.fm_procs.specs.Drafts.{room_of}
use Rattle.fm_proc_events.specs.Phases.{proc_of}
use Rattle.fm_procs.proofs.beginning.child.Goals as goal

pub returns-clause-left : goal.returns-clause-left
returns-clause-left c = subst (λ (p : Process). LeavesRoom (room_of (proc_of p)) c.args.slots.now c.begin_child.new.slots) c.deref_mut.ensures.value c.begin_child.ensures.left
