use Rattle.fm_plain_net.specs.Held.{AreKept, Stay}
use Rattle.fm_plain_net.proofs.perform.put_each.Given as goal

abbrev pub invariant-ports : goal.invariant-ports
invariant-ports l = record {
  came : AreKept l.ports l.yielded;
  others : Stay l.fn.ports l.ports;
}
