use Rattle.std.proofs.Common.{◌≡◌, length}
use Rattle.fm_base.specs.Channels.{all_shed}
use Rattle.fm_chan.specs.Bodies.{chans_of}
use Rattle.fm_chan.specs.Woken.{WakesAll}
use Rattle.fm_proc_events.proofs.shedding.shed.Given as goal

abbrev pub invariant-ports : goal.invariant-ports
invariant-ports l = record {
  channels : all_shed l.rest.items (chans_of l.channels) ≡ all_shed l.fn.ports.items (chans_of l.fn.channels);
  waking : WakesAll l.fn.channels l.channels;
}

abbrev pub decreases-ports : goal.decreases-ports
decreases-ports l = length l.rest.items
