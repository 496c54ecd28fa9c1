use Rattle.std.proofs.Common.{◌≡◌, ◌++◌, ◌≤◌, length, map}
use Rattle.fm_base.specs.Channels.{message_ports}
use Rattle.fm_base.specs.declared.port.PortValue.{PortValue}
use Rattle.fm_chan.specs.Items.{plain_item}
use Rattle.fm_plain_passing.specs.Items.{message_of}
use Rattle.fm_net.specs.Owned.{count}
use Rattle.fm_plain_net.specs.Held.{AreKept, AreOnce, StayBut}
use Rattle.fm_plain_net.proofs.messages.message_from.Given as goal

abbrev pub invariant-items : goal.invariant-items
invariant-items l = record {
  items : map plain_item l.all.items ++ message_of l.rest.items ≡ message_of l.fn.items;
  kept : AreKept l.ports (message_ports (message_of l.rest.items));
  once : AreOnce (message_ports (message_of l.rest.items));
  others : StayBut (message_ports (message_of l.fn.items)) l.fn.ports l.ports;
  among : (z : PortValue) → count z (message_ports (message_of l.rest.items)) ≤ count z (message_ports (message_of l.fn.items));
}

abbrev pub decreases-items : goal.decreases-items
decreases-items l = length l.rest.items
