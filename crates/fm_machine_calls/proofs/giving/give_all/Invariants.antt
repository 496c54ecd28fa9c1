use Rattle.std.proofs.Common.{◌≡◌, true, length, drop}
use Rattle.fm_code.specs.Passing.{backs_fit, give_all}
use Rattle.fm_machine_calls.specs.Frames.{given}
use Rattle.fm_machine_calls.proofs.giving.give_all.Given as goal

abbrev pub invariant-backs : goal.invariant-backs
invariant-backs l = record {
  gives : give_all (drop l.back-index l.backs) (given l.mine l.theirs l.drops) ≡ give_all l.backs (given l.fn.mine l.fn.theirs l.fn.drops);
  fit : backs_fit (length l.mine) (length l.theirs) (drop l.back-index l.backs) ≡ true;
}
