use Rattle.std.proofs.Common.{◌≡◌, drop}
use Rattle.fm_base.specs.PathOrder.{path_cmp}
use Rattle.fm_finmap.specs.Map.{map_of}
use Rattle.fm_wait.specs.Places.{places_from}
use Rattle.fm_wait.proofs.places.first_places.Given as goal

abbrev pub invariant-waits : goal.invariant-waits
invariant-waits l = map_of path_cmp l.places ≡ places_from (drop l.k l.waits) l.k
