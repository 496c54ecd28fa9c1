use Rattle.std.proofs.Common.{◌≡◌, drop}
use Rattle.fm_flow.specs.Marks.{all_flags}
use Rattle.fm_flow.proofs.marks.all_flags.Given as goal

abbrev pub invariant-numbers : goal.invariant-numbers
invariant-numbers l = all_flags l.flags (drop l.number-index l.numbers) ≡ all_flags l.flags l.numbers
