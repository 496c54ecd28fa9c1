use Rattle.std.proofs.Common.{◌≡◌, map, take}
use Rattle.std.specs.Map.Iter.{deref_pair}
use Rattle.fm_base.specs.declared.path.Path.{Path}
use Rattle.fm_finmap.proofs.path_table.PathTable.rows.Given as goal

abbrev pub invariant-rows : goal.invariant-rows
invariant-rows g l = map (deref_pair {K = Path} {X = g.row.T.Denot}) l.rows.items ≡ take l.number l.self
