use Rattle.std.proofs.Common.{◌≡◌, map, take}
use Rattle.std.specs.List.{flat_map}
use Rattle.std.specs.FinMap.{empty}
use Rattle.std.specs.Map.Iter.{deref_pair}
use Rattle.fm_base.specs.declared.path.Path.{Path}
use Rattle.fm_finmap.specs.Map.{map_of}
use Rattle.fm_mean.specs.Outports.{outport_cmp}
use Rattle.fm_shown.specs.Outcome.{holdings_at}
use Rattle.fm_run.specs.Gathered.{with_holders}
use Rattle.fm_shown.proofs.Listed.{entries_of}
use Rattle.fm_procs.specs.Readings.{Entry}
use Rattle.fm_shown.proofs.holders.owners.Given as goal

-- with the processes so far
abbrev pub invariant-entries : goal.invariant-entries
invariant-entries l = map_of outport_cmp l.all ≡ with_holders (empty {R = outport_cmp}) (flat_map holdings_at (entries_of (map (deref_pair {K = Path} {X = Entry}) (take l.row-index l.row-items))))
