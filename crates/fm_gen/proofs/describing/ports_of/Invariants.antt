use Rattle.std.proofs.Common.{◌≡◌, ◌++◌, drop}
use Rattle.fm_gen_relation.specs.Formals.{ports_of}
use Rattle.fm_gen.proofs.describing.ports_of.Given as goal

abbrev pub invariant-variables : goal.invariant-variables
invariant-variables l = l.ports ++ ports_of (drop l.variable-index l.variables) ≡ ports_of l.variables
