use Rattle.std.proofs.Common.{◌≡◌, ◌≤◌, ◌-◌}
use Rattle.fm_chan.specs.Events.{outports}
use Rattle.fm_chan.proofs.channels.outports.Given as goal

abbrev pub invariant-writers : goal.invariant-writers
invariant-writers l = (l.ports.items ≡ outports l.fn.name l.next) × (l.next ≤ l.fn.writers)

abbrev pub decreases-writers : goal.decreases-writers
decreases-writers l = l.fn.writers - l.next
