use Rattle.std.proofs.Common.{◌≡◌, map, take}
use Rattle.std.specs.List.{flat_map}
use Rattle.std.specs.Map.Iter.{deref_pair}
use Rattle.fm_base.specs.declared.path.Path.{Path}
use Rattle.fm_procs.specs.Readings.{Entry, procs_of}
use Rattle.fm_shown.specs.Outcome.{lines_at, fault_at, wait_at}
use Rattle.fm_shown.proofs.Listed.{entries_of}
use Rattle.fm_shown.proofs.gathering.gather.Given as goal

-- what was gathered is what the processes so far give
abbrev pub invariant-entries : goal.invariant-entries
invariant-entries l = record {
  lines : l.all.lines.items ≡ flat_map lines_at (entries_of (map (deref_pair {K = Path} {X = Entry}) (take l.row-index l.row-items)));
  faults : l.all.faults.items ≡ flat_map fault_at (entries_of (map (deref_pair {K = Path} {X = Entry}) (take l.row-index l.row-items)));
  waits : l.all.waits.items ≡ flat_map (wait_at (procs_of l.processes)) (entries_of (map (deref_pair {K = Path} {X = Entry}) (take l.row-index l.row-items)));
}
