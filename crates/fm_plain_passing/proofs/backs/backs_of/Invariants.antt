use Rattle.std.proofs.Common.{◌≡◌, ◌+◌, ◌++◌, drop}
use Rattle.fm_mean.specs.Calls.{backs_from}
use Rattle.fm_plain_frame.specs.Units.{unit_of}
use Rattle.fm_plain_passing.proofs.backs.backs_of.Given as goal

abbrev pub invariant-arguments : goal.invariant-arguments
invariant-arguments l = l.backs ++ backs_from (unit_of l.callee) (l.index + 1) (drop l.index l.arguments) ≡ backs_from (unit_of l.callee) 1 l.arguments
