use Rattle.std.proofs.Common.{◌≡◌, ◌++◌, ◌≤◌, length}
use Rattle.fm_base.specs.declared.port.PortValue.{PortValue}
use Rattle.fm_mean.specs.Places.{live}
use Rattle.fm_net.specs.Owned.{count}
use Rattle.fm_plain_net.specs.Held.{AreKept, AreOnce, StayBut}
use Rattle.fm_plain_net.proofs.messages.take_ports.Given as goal

abbrev pub invariant-values : goal.invariant-values
invariant-values l = record {
  values : l.all.items ++ l.rest.items ≡ l.fn.values;
  kept : AreKept l.ports (live l.rest.items);
  once : AreOnce (live l.rest.items);
  others : StayBut (live l.fn.values) l.fn.ports l.ports;
  among : (z : PortValue) → count z (live l.rest.items) ≤ count z (live l.fn.values);
}

abbrev pub decreases-values : goal.decreases-values
decreases-values l = length l.rest.items
