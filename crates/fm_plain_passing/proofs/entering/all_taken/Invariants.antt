use Rattle.std.proofs.Common.{◌≡◌, ◌+◌, drop}
use Rattle.fm_plain_passing.specs.Rooms.{all_taken}
use Rattle.fm_plain_passing.proofs.entering.all_taken.Given as goal

abbrev pub invariant-arguments : goal.invariant-arguments
invariant-arguments l = l.ports + all_taken (drop l.argument-index l.arguments) ≡ all_taken l.arguments
