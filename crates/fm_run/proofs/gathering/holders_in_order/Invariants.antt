use Rattle.std.proofs.Common.{◌≡◌, ◌++◌, map}
use Rattle.std.specs.FinMap.{entries}
use Rattle.fm_finmap.specs.Map.{map_of}
use Rattle.fm_mean.specs.Holders.{holder_of}
use Rattle.fm_mean.specs.Outports.{outport_cmp}
use Rattle.fm_run.proofs.gathering.holders_in_order.Given as goal

-- what was listed, and what the rest gives, is what the whole gives
abbrev pub invariant-owners : goal.invariant-owners
invariant-owners l = l.holders.items ++ map holder_of l.outport-iterator ≡ map holder_of (entries (map_of outport_cmp l.fn.owners))
