use Rattle.std.proofs.Common.{◌≡◌, length, take}
use Rattle.fm_trace.specs.Texts.{entries_of}
use Rattle.fmc.specs.Replay.{told_after}
use Rattle.fmc.proofs.replaying.play_entries.Given as goal

abbrev pub invariant-runs : goal.invariant-runs
invariant-runs l = record {
  told : l.table ≡ told_after l.fn.table.program l.fn.table.setup (entries_of (take l.place l.runs));
  counted : l.played ≡ length (entries_of (take l.place l.runs));
}
