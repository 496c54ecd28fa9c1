use Rattle.std.proofs.Common.{◌≡◌, drop}
use Rattle.fm_mean.specs.Places.{live}
use Rattle.fm_plain_frame.proofs.emptiness.are_null.Given as goal

abbrev pub invariant-places : goal.invariant-places
invariant-places l = live (drop l.place-index l.places) ≡ live l.places
