use Rattle.std.proofs.Common.{◌≡◌, length}
use Rattle.fm_chan.specs.Rest.{rest_ports}
use Rattle.fm_chan.proofs.discarding.next_of_rest.Given as goal

abbrev pub invariant-messages : goal.invariant-messages
invariant-messages l = rest_ports l.fn.rest ≡ rest_ports l.rest

abbrev pub decreases-messages : goal.decreases-messages
decreases-messages l = length l.rest.queue.items
