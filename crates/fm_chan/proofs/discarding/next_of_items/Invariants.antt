use Rattle.std.proofs.Common.{◌≡◌, ◌++◌, length}
use Rattle.fm_chan.specs.Rest.{ports_in, items_ports}
use Rattle.fm_chan.proofs.discarding.next_of_items.Given as goal

abbrev pub invariant-items : goal.invariant-items
invariant-items l = ports_in l.fn.ports.items ++ items_ports l.fn.items.items ≡ ports_in l.ports.items ++ items_ports l.items.items

abbrev pub decreases-items : goal.decreases-items
decreases-items l = length l.items.items
