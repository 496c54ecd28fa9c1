use Rattle.std.proofs.Common.{◌≡◌}
use Rattle.fm_chan.specs.Rest.{left_ports, levels}
use Rattle.fm_chan.proofs.discarding.Discarding.next.Given as goal

abbrev pub invariant-levels : goal.invariant-levels
invariant-levels l = left_ports l.fn.self ≡ left_ports l.self

abbrev pub decreases-levels : goal.decreases-levels
decreases-levels l = levels l.self.chain
