use Rattle.std.proofs.Common.{◌≡◌, drop}
use Rattle.fm_flow.specs.Marks.{marked}
use Rattle.fm_flow.proofs.marks.mark_all.Given as goal

abbrev pub invariant-numbers : goal.invariant-numbers
invariant-numbers l = marked l.flags.items (drop l.number-index l.numbers) ≡ marked l.fn.flags.items l.numbers
