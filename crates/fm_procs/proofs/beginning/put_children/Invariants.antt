use Rattle.std.proofs.Common.{◌≡◌, ◌≤◌, ◌+◌, ◌++◌, length, map, vec_capacity}
use Rattle.std.specs.List.{AllByRecursion}
use Rattle.fm_proc_slots.specs.Rooms.{HasRoom, slots_in}
use Rattle.fm_procs.specs.Drafts.{IsReady, all_begun, child_in, rooms}
use Rattle.fm_proc_events.specs.Phases.{boxed_of}
use Rattle.fm_procs.proofs.beginning.put_children.Given as goal

abbrev pub invariant-drafts : goal.invariant-drafts
invariant-drafts l = record {
  begun : map boxed_of l.children.items ++ (all_begun (slots_in l.slots) (map child_in l.drafts.items) l.starts.items).0 ≡ (all_begun (slots_in l.fn.slots) (map child_in l.fn.drafts.items) l.fn.starts.items).0;
  slots : (all_begun (slots_in l.slots) (map child_in l.drafts.items) l.starts.items).1 ≡ (all_begun (slots_in l.fn.slots) (map child_in l.fn.drafts.items) l.fn.starts.items).1;
  ready : AllByRecursion IsReady l.drafts.items;
  paired : length l.drafts.items ≡ length l.starts.items;
  room : HasRoom l.slots (rooms (map child_in l.drafts.items));
  reserved : length l.children.items + length l.drafts.items ≤ vec_capacity l.children;
}

abbrev pub decreases-drafts : goal.decreases-drafts
decreases-drafts l = length l.drafts.items
