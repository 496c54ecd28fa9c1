use Rattle.std.proofs.Common.{◌≡◌, map, take}
use Rattle.fm_base.specs.PathOrder.{path_cmp}
use Rattle.fm_finmap.specs.Map.{map_of}
use Rattle.fm_wait.specs.Places.{place_of}
use Rattle.fm_wait.proofs.places.all_places.Given as goal

abbrev pub invariant-paths : goal.invariant-paths
invariant-paths l = l.next.items ≡ map (place_of (map_of path_cmp l.places)) (take l.path-index l.paths)
