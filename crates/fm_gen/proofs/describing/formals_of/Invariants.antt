use Rattle.std.proofs.Common.{◌≡◌, ◌++◌, length}
use Rattle.fm_gen_relation.specs.Sound.{formals_among}
use Rattle.fm_gen_relation.specs.Formals.{formals_from}
use Rattle.fm_gen.proofs.describing.formals_of.Given as goal

abbrev pub decreases-formals : goal.decreases-formals
decreases-formals l = l.left

abbrev pub invariant-formals : goal.invariant-formals
invariant-formals l = l.formals ++ formals_from l.variables l.number l.left ≡ formals_from l.variables 1 (length (formals_among l.variables))
