use Rattle.std.proofs.Common.{◌≡◌}
use Rattle.fm_base.specs.Channels.{all_shed, weight}
use Rattle.fm_chan.specs.Bodies.{chans_of}
use Rattle.fm_chan.specs.Rooms.{KeepsRoom}
use Rattle.fm_chan.specs.Rest.{left_ports}
use Rattle.fm_chan.specs.Woken.{WakesAtEnd}
use Rattle.fm_chan.proofs.channels.Channels.discard_all.Given as goal

abbrev pub invariant-ports : goal.invariant-ports
invariant-ports l = record {
  sheds : all_shed (left_ports l.discarding) (chans_of l.self) ≡ all_shed (left_ports l.fn.discarding) (chans_of l.fn.self);
  room : KeepsRoom l.fn.self l.self;
  waking : WakesAtEnd l.fn.self l.self;
}

abbrev pub decreases-ports : goal.decreases-ports
decreases-ports l = weight (left_ports l.discarding) (chans_of l.self)
