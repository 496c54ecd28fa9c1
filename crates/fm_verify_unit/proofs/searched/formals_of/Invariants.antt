use Rattle.std.proofs.Common.{drop, length}
use Rattle.fm_verify_unit.proofs.Formals.{AreFilled}
use Rattle.fm_verify_unit.proofs.searched.formals_of.Given as goal

-- the variables behind have their places
abbrev pub invariant-places : goal.invariant-places
invariant-places l = AreFilled l.formals (length l.cells) (drop l.place l.cells)
