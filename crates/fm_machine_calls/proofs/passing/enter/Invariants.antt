use Rattle.std.proofs.Common.{◌≡◌, true, length}
use Rattle.fm_code.specs.Passing.{all_fit, pass_all}
use Rattle.fm_machine_calls.specs.Frames.{passed}
use Rattle.fm_machine_calls.proofs.passing.enter.Given as goal

abbrev pub invariant-formals : goal.invariant-formals
invariant-formals l = record {
  gives : pass_all l.formals l.operands (passed l.mine l.theirs l.backs) ≡ pass_all l.fn.formals l.fn.operands (passed l.fn.mine l.fn.theirs l.fn.backs);
  fit : all_fit (length l.mine) (length l.theirs) l.formals l.operands ≡ true;
}

abbrev pub decreases-formals : goal.decreases-formals
decreases-formals l = length l.formals
