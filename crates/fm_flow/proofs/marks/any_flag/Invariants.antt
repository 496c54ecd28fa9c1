use Rattle.std.proofs.Common.{◌≡◌, drop}
use Rattle.fm_flow.specs.Marks.{any_flag}
use Rattle.fm_flow.proofs.marks.any_flag.Given as goal

abbrev pub invariant-numbers : goal.invariant-numbers
invariant-numbers l = any_flag l.flags (drop l.number-index l.numbers) ≡ any_flag l.flags l.numbers
