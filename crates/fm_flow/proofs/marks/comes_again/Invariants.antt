use Rattle.std.proofs.Common.{◌≡◌, false, drop}
use Rattle.fm_flow.specs.Marks.{comes_again, marked}
use Rattle.fm_flow.proofs.marks.comes_again.Given as goal

abbrev pub invariant-numbers : goal.invariant-numbers
invariant-numbers l = record {
  found : comes_again l.found l.flags.items (drop l.number-index l.numbers) ≡ comes_again false l.fn.flags.items l.numbers;
  flags : marked l.flags.items (drop l.number-index l.numbers) ≡ marked l.fn.flags.items l.numbers;
}
