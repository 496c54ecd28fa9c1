use Rattle.std.proofs.Common.{◌≡◌, length}
use Rattle.fm_code.specs.Acts.{span_of}
use Rattle.fm_proc_slots.specs.Rooms.{LeavesRoom, slots_in}
use Rattle.fm_proc_slots.proofs.Moved.{MovesOn}
use Rattle.fm_proc_slots.proofs.moving.move_span.Given as goal

abbrev pub invariant-words : goal.invariant-words
invariant-words l = record {
  there : l.there ≡ length (span_of l.fn.words l.fn.span);
  moved : MovesOn l.fn.words l.fn.span (slots_in l.fn.from) (slots_in l.fn.to) l.index l.words (slots_in l.from) (slots_in l.to);
  from : LeavesRoom l.index l.fn.from l.from;
  to : LeavesRoom l.index l.fn.to l.to;
}
