use Rattle.std.proofs.Common.{◌≡◌, map, take}
use Rattle.std.specs.List.{flat_map}
use Rattle.std.specs.Map.Iter.{deref_pair}
use Rattle.fm_base.specs.declared.path.Path.{Path}
use Rattle.fm_mean.specs.Outcome.{lines_at, fault_at, wait_at}
use Rattle.fm_plain_frame.specs.Frames.{proc_of}
use Rattle.fm_plain_frame.specs.declared.process.PlainProc.{PlainProc}
use Rattle.fm_nodes_procs.specs.Processes.{procs_of}
use Rattle.fm_nodes.proofs.Listed.{seen_in}
use Rattle.fm_nodes.proofs.outcome.gathered.Given as goal

-- what was gathered is what the processes so far give
abbrev pub invariant-processes : goal.invariant-processes
invariant-processes l = record {
  lines : l.all.lines.items ≡ flat_map lines_at (seen_in (proc_of l.program) (map (deref_pair {K = Path} {X = PlainProc}) (take l.row-index l.row-items)));
  faults : l.all.faults.items ≡ flat_map fault_at (seen_in (proc_of l.program) (map (deref_pair {K = Path} {X = PlainProc}) (take l.row-index l.row-items)));
  waits : l.all.waits.items ≡ flat_map (wait_at l.program (procs_of (proc_of l.program) l.processes)) (seen_in (proc_of l.program) (map (deref_pair {K = Path} {X = PlainProc}) (take l.row-index l.row-items)));
}
