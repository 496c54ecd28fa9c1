use Rattle.std.proofs.Common.{◌≡◌, length}
use Rattle.fm_chan.specs.Rest.{ports_in}
use Rattle.fm_chan.proofs.discarding.next_of_ports.Given as goal

abbrev pub invariant-ports : goal.invariant-ports
invariant-ports l = ports_in l.fn.ports.items ≡ ports_in l.ports.items

abbrev pub decreases-ports : goal.decreases-ports
decreases-ports l = length l.ports.items
