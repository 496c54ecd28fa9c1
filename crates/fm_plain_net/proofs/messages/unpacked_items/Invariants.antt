use Rattle.std.proofs.Common.{◌≡◌, map}
use Rattle.fm_base.specs.Channels.{message_ports}
use Rattle.fm_chan.specs.Items.{plain_item}
use Rattle.fm_plain_passing.specs.Items.{message_of}
use Rattle.fm_plain_net.specs.Held.{AreKept, Stay}
use Rattle.fm_plain_net.proofs.messages.unpacked_items.Given as goal

abbrev pub invariant-items : goal.invariant-items
invariant-items l = record {
  items : message_of l.all.items ≡ map plain_item l.yielded;
  came : AreKept l.ports (message_ports (map plain_item l.yielded));
  others : Stay l.fn.ports l.ports;
}
