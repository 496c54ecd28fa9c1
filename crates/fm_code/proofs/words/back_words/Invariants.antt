use Rattle.std.proofs.Common.{◌≡◌, ◌+◌, drop}
use Rattle.fm_code.specs.Passing.{back_words}
use Rattle.fm_code.proofs.words.back_words.Given as goal

abbrev pub invariant-backs : goal.invariant-backs
invariant-backs l = l.words + back_words (drop l.back-index l.backs) ≡ back_words l.backs
