use Rattle.std.proofs.Common.{ap}
use Rattle.std.specs.Ordering.{nat_cmp}
use Rattle.fm_finmap.specs.Map.{map_of, map_values}
use Rattle.fm_plain_frame.specs.Frames.{trips_of}
use Rattle.fm_plain_frame.proofs.Copies.{same_entries}
use Rattle.fm_plain_frame.proofs.copying.copy_loops.Goals as goal

pub returns : goal.returns
returns c = ap (λ es. map_values trips_of (map_of nat_cmp es)) (same_entries c.args.loops.now.entries c.in_ok-clone.field-0.entries c.in_ok-clone.ensures.cases)
