use Rattle.fm_values.proofs.PlaceLaws.{IsDone}
use Rattle.fm_values.proofs.place.held_place.Given as goal

abbrev pub invariant-dimensions : goal.invariant-dimensions
invariant-dimensions l = IsDone l.bounds l.subscripts l.dimension l.place

abbrev pub decreases-dimensions : goal.decreases-dimensions
decreases-dimensions l = l.dimension
