use Rattle.std.proofs.Common.{◌≡◌, ◌++◌}
use Rattle.std.specs.FinMap.{entries}
use Rattle.fm_base.specs.PathOrder.{path_cmp}
use Rattle.fm_finmap.specs.Map.{map_of}
use Rattle.fm_wait.proofs.places.in_order.Given as goal

abbrev pub invariant-entries : goal.invariant-entries
invariant-entries l = l.all.items ++ l.entry-iterator ≡ entries (map_of path_cmp l.fn.places)
