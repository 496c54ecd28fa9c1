use Rattle.std.proofs.Common.{◌≡◌, ◌+◌, ◌≤◌, ◌++◌, ℤ, List, drop}
use Rattle.std.specs.Prelude.{vec_len, vec_capacity}
use Rattle.fm_proc_language.specs.Slots.{vacated}
use Rattle.fm_procs.specs.Rooms.{frame_room, starts_room, starts_words, words_by}
use Rattle.fm_procs.proofs.dropping.drop_frame.Given as goal

abbrev pub invariant-starts : goal.invariant-starts
invariant-starts l = record {
  sheds : (others : List ℤ) → l.drops.items ++ vacated l.slots (starts_words l.code (drop l.start-index l.starts) ++ others) ≡ l.fn.drops.items ++ vacated l.fn.slots (words_by l.code l.frame ++ others);
  len : vec_len l.drops + starts_room l.code (drop l.start-index l.starts) ≤ vec_len l.fn.drops + frame_room l.code l.frame;
  capacity : vec_capacity l.fn.drops ≤ vec_capacity l.drops;
}
