use Rattle.std.proofs.Common.{◌≡◌}
use Rattle.fm_mean.specs.Places.{live}
use Rattle.fm_plain_net.specs.Held.{AreKept, Stay}
use Rattle.fm_plain_net.proofs.messages.put_all.Given as goal

abbrev pub invariant-ports : goal.invariant-ports
invariant-ports l = record {
  values : l.values.items ≡ l.yielded;
  came : AreKept l.ports (live l.yielded);
  others : Stay l.fn.ports l.ports;
}
