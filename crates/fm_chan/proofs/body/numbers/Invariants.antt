use Rattle.std.proofs.Common.{◌≡◌, ◌≤◌, ◌-◌}
use Rattle.fm_base.specs.Channels.{numbers_from}
use Rattle.fm_chan.proofs.body.numbers.Given as goal

abbrev pub invariant-numbers : goal.invariant-numbers
invariant-numbers l = (l.numbers.keys ≡ numbers_from 0 l.next) × (l.next ≤ l.fn.count)

abbrev pub decreases-numbers : goal.decreases-numbers
decreases-numbers l = l.fn.count - l.next
