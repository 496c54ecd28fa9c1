use Rattle.std.proofs.Common.{◌≡◌}
use Rattle.fm_finmap.specs.Rows.{places_in}
use Rattle.fm_net.specs.Starts.{child_places}
use Rattle.fm_nodes_procs.proofs.children.child_paths.Given as goal

abbrev pub invariant-children : goal.invariant-children
invariant-children l = places_in l.paths.items ≡ child_places l.path l.block 1 l.place
