use Rattle.std.proofs.Common.{◌≡◌, ◌+◌, ◌≤◌, ◌++◌, map, length, vec_capacity}
use Rattle.fm_rules.specs.declared.program.Program.{Program}
use Rattle.fm_mean.specs.Calls.{child_of}
use Rattle.fm_plain_frame.specs.Frames.{proc_of, start_of}
use Rattle.fm_plain_replies.proofs.beginning.put_children.Given as goal

-- the children so far, and those that the rest makes
abbrev pub invariant-starts : goal.invariant-starts
invariant-starts l = record {
  made : (p : Program) → map (proc_of p) l.children.items ++ map child_of (map (start_of p) l.waiting.items) ≡ map child_of (map (start_of p) l.fn.starts.items);
  room : length l.children.items + length l.waiting.items ≤ vec_capacity l.children;
}

abbrev pub decreases-starts : goal.decreases-starts
decreases-starts l = length l.waiting.items
