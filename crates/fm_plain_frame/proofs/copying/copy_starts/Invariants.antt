use Rattle.std.proofs.Common.{◌≡◌, map, take}
use Rattle.fm_plain_frame.specs.Frames.{start_of}
use Rattle.fm_plain_frame.proofs.copying.copy_starts.Given as goal

abbrev pub invariant-starts : goal.invariant-starts
invariant-starts l = map (start_of l.program) l.all.items ≡ map (start_of l.program) (take l.start-index l.starts)
