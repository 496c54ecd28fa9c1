use Rattle.std.proofs.Common.{◌≡◌, map, take}
use Rattle.std.specs.Option.{option_to_list}
use Rattle.fm_wait.proofs.places.graph_of.Given as goal

abbrev pub invariant-places : goal.invariant-places
invariant-places l = l.graph.items ≡ map option_to_list (take l.place-index l.next)
