use Rattle.std.proofs.Common.{◌≡◌, ◌+◌, drop}
use Rattle.fm_procs.specs.Rooms.{frames_room}
use Rattle.fm_procs.proofs.measuring.frames_room.Given as goal

abbrev pub invariant-frames : goal.invariant-frames
invariant-frames l = l.room + frames_room l.code (drop l.frame-index l.frames) ≡ frames_room l.code l.frames
