use Rattle.std.proofs.Common.{◌≡◌, ◌+◌, drop}
use Rattle.fm_plain_passing.specs.Rooms.{all_given}
use Rattle.fm_plain_passing.proofs.giving.all_given.Given as goal

abbrev pub invariant-backs : goal.invariant-backs
invariant-backs l = l.ports + all_given l.callee (drop l.back-index l.backs) ≡ all_given l.callee l.backs
