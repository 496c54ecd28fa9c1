use Rattle.fm_table.proofs.Paths.{ArePut}
use Rattle.fm_table.proofs.making.put_paths.Given as goal

abbrev pub invariant-paths : goal.invariant-paths
invariant-paths l = ArePut l.all l.fn.paths.items l.paths.items l.place
