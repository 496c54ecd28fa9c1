use Rattle.std.proofs.Common.{◌≡◌, map, take}
use Rattle.std.specs.Map.Iter.{deref_pair}
use Rattle.fm_base.specs.declared.path.Path.{Path}
use Rattle.fm_nodes_procs.specs.Processes.{rows_in}
use Rattle.fm_nodes_procs.proofs.processes.Processes.in_path_order.Given as goal

abbrev pub invariant-rows : goal.invariant-rows
invariant-rows g l = map (deref_pair {K = Path} {X = g.row.X.Denot}) l.rows.items ≡ take l.number (rows_in l.self.paths.items l.self.values.items)
