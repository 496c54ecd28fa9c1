use Rattle.std.proofs.Common.{◌≡◌, drop}
use Rattle.fm_code.specs.Passing.{backs_fit}
use Rattle.fm_machine_calls.proofs.giving.backs_fit.Given as goal

abbrev pub invariant-backs : goal.invariant-backs
invariant-backs l = backs_fit l.mine l.theirs (drop l.back-index l.backs) ≡ backs_fit l.mine l.theirs l.backs
