use Rattle.std.proofs.Common.{◌≡◌, ◌+◌, drop}
use Rattle.fm_plain_passing.specs.Rooms.{all_lost}
use Rattle.fm_plain_passing.proofs.keeping.all_lost.Given as goal

abbrev pub invariant-variables : goal.invariant-variables
invariant-variables l = l.ports + all_lost (drop l.variable-index l.variables) ≡ all_lost l.variables
