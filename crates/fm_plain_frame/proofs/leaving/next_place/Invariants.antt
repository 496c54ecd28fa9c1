use Rattle.std.proofs.Common.{◌≡◌, length}
use Rattle.fm_mean.specs.Places.{live}
use Rattle.fm_plain_frame.proofs.leaving.next_place.Given as goal

abbrev pub invariant-places : goal.invariant-places
invariant-places l = live l.fn.places.items ≡ live l.places.items

abbrev pub decreases-places : goal.decreases-places
decreases-places l = length l.places.items
