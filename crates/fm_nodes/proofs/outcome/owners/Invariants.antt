use Rattle.std.proofs.Common.{◌≡◌, map, take}
use Rattle.std.specs.List.{flat_map}
use Rattle.std.specs.FinMap.{empty}
use Rattle.std.specs.Map.Iter.{deref_pair}
use Rattle.fm_base.specs.declared.path.Path.{Path}
use Rattle.fm_finmap.specs.Map.{map_of}
use Rattle.fm_mean.specs.Holders.{holdings_at}
use Rattle.fm_mean.specs.Outports.{outport_cmp}
use Rattle.fm_run.specs.Gathered.{with_holders}
use Rattle.fm_plain_frame.specs.Frames.{proc_of}
use Rattle.fm_plain_frame.specs.declared.process.PlainProc.{PlainProc}
use Rattle.fm_nodes.proofs.Listed.{seen_in}
use Rattle.fm_nodes.proofs.outcome.owners.Given as goal

-- with the processes so far
abbrev pub invariant-processes : goal.invariant-processes
invariant-processes l = map_of outport_cmp l.all ≡ with_holders (empty {R = outport_cmp}) (flat_map holdings_at (seen_in (proc_of l.program) (map (deref_pair {K = Path} {X = PlainProc}) (take l.row-index l.row-items))))
