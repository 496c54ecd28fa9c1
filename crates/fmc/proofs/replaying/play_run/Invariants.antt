use Rattle.std.proofs.Common.{◌≡◌, ◌+◌, ◌++◌, length, take}
use Rattle.fm_trace.specs.Texts.{each_time}
use Rattle.fmc.specs.Replay.{told_after}
use Rattle.fmc.proofs.replaying.play_run.Given as goal

abbrev pub invariant-times : goal.invariant-times
invariant-times l = l.table ≡ told_after l.fn.table.program l.fn.table.setup (take (length l.fn.table.history + l.made) (l.fn.table.history ++ each_time l.fn.run))
