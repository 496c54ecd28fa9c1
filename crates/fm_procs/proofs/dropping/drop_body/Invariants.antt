use Rattle.std.proofs.Common.{◌≡◌, ◌+◌, ◌≤◌, ◌++◌, ℤ, List, length}
use Rattle.std.specs.Prelude.{vec_len, vec_capacity}
use Rattle.std.specs.List.{flat_map}
use Rattle.fm_proc_language.specs.Slots.{vacated}
use Rattle.fm_proc_language.specs.Processes.{body_words, frame_words}
use Rattle.fm_procs.specs.Rooms.{body_room, frames_room}
use Rattle.fm_procs.proofs.dropping.drop_body.Given as goal

abbrev pub invariant-frames : goal.invariant-frames
invariant-frames l = record {
  sheds : (others : List ℤ) → l.drops.items ++ vacated l.slots (flat_map (frame_words l.fn.body) l.rest.below ++ others) ≡ l.fn.drops.items ++ vacated l.fn.slots (body_words l.fn.body ++ others);
  len : vec_len l.drops + frames_room l.fn.body.code l.rest.below ≤ vec_len l.fn.drops + body_room l.fn.body;
  capacity : vec_capacity l.fn.drops ≤ vec_capacity l.drops;
  code : l.rest.code ≡ l.fn.body.code;
}

abbrev pub decreases-frames : goal.decreases-frames
decreases-frames l = length l.rest.below
