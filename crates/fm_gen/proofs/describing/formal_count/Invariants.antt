use Rattle.std.proofs.Common.{◌≡◌, ◌+◌, drop, length}
use Rattle.fm_gen_relation.specs.Sound.{formals_among}
use Rattle.fm_gen.proofs.describing.formal_count.Given as goal

abbrev pub invariant-variables : goal.invariant-variables
invariant-variables l = l.count + length (formals_among (drop l.variable-index l.variables)) ≡ length (formals_among l.variables)
