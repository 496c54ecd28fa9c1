use Rattle.std.proofs.Common.{◌≡◌, length}
use Rattle.fm_code.specs.Passing.{all_fit}
use Rattle.fm_machine_calls.proofs.passing.all_fit.Given as goal

abbrev pub invariant-formals : goal.invariant-formals
invariant-formals l = all_fit l.mine l.theirs l.formals l.operands ≡ all_fit l.mine l.theirs l.fn.formals l.fn.operands

abbrev pub decreases-formals : goal.decreases-formals
decreases-formals l = length l.formals
