use Rattle.std.proofs.Common.{◌≡◌, ◌+◌, drop}
use Rattle.std.specs.List.{list_any}
use Rattle.fm_code.specs.declared.body.Back.{Back}
use Rattle.fm_code.specs.Passing.{back_words, backs_fit}
use Rattle.fm_machine_calls.proofs.giving.plain_words.Given as goal

abbrev pub invariant-backs : goal.invariant-backs
invariant-backs l = record {
  fit : backs_fit l.mine l.theirs (drop l.back-index l.backs) ≡ backs_fit l.mine l.theirs l.backs;
  plain : list_any (λ (b : Back). b.port) (drop l.back-index l.backs) ≡ list_any (λ (b : Back). b.port) l.backs;
  count : l.words + back_words (drop l.back-index l.backs) ≡ back_words l.backs;
}
