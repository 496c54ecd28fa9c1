use Rattle.std.proofs.Common.{◌≡◌, drop}
use Rattle.fm_nodes_plain.specs.Search.{carriers_in}
use Rattle.fm_nodes_plain.proofs.carriers.carriers_in.Given as goal

abbrev pub invariant-specs : goal.invariant-specs
invariant-specs l = carriers_in l.best (drop l.placed-index l.specs) ≡ carriers_in l.fn.best l.specs
