use Rattle.std.proofs.Common.{◌≡◌, map, take}
use Rattle.fm_wait.specs.Waits.{waits_for}
use Rattle.fm_wait.proofs.holders.all_waited_for.Given as goal

abbrev pub invariant-waits : goal.invariant-waits
invariant-waits l = l.on.items ≡ map (waits_for l.outcome) (take l.wait-index l.outcome.waits)
