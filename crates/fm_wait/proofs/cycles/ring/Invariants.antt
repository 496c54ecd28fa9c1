use Rattle.std.proofs.Common.{length}
use Rattle.fm_wait.proofs.Rings.{IsPart, rest_of}
use Rattle.fm_wait.specs.Places.{path_at}
use Rattle.fm_wait.proofs.cycles.ring.Given as goal

abbrev pub invariant-places : goal.invariant-places
invariant-places l = IsPart l.outcome (path_at l.outcome l.start) l.ring l.at

abbrev pub decreases-places : goal.decreases-places
decreases-places l = length (rest_of l.outcome (path_at l.outcome l.start) l.at)
