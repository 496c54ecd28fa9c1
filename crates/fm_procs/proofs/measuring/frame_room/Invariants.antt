use Rattle.std.proofs.Common.{◌≡◌, ◌+◌, drop}
use Rattle.fm_procs.specs.Rooms.{frame_room, starts_room}
use Rattle.fm_procs.proofs.measuring.frame_room.Given as goal

abbrev pub invariant-starts : goal.invariant-starts
invariant-starts l = l.room + starts_room l.code (drop l.start-index l.starts) ≡ frame_room l.code l.frame
