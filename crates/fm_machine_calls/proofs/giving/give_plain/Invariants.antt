use Rattle.std.proofs.Common.{◌≡◌, true, false, [], length, drop}
use Rattle.std.specs.List.{list_any}
use Rattle.fm_code.specs.declared.body.Back.{Back}
use Rattle.fm_code.specs.Passing.{backs_fit, give_all}
use Rattle.fm_machine_calls.specs.Frames.{given}
use Rattle.fm_machine_calls.proofs.giving.give_plain.Given as goal

abbrev pub invariant-backs : goal.invariant-backs
invariant-backs l = record {
  gives : (give_all (drop l.back-index l.backs) (given l.mine l.theirs [])).mine ≡ (give_all l.backs (given l.fn.mine l.theirs [])).mine;
  fit : backs_fit (length l.mine) (length l.theirs) (drop l.back-index l.backs) ≡ true;
  plain : list_any (λ (b : Back). b.port) (drop l.back-index l.backs) ≡ false;
}
