use Rattle.std.proofs.Common.{◌≡◌, ◌≤◌, length}
use Rattle.fm_base.specs.Channels.{all_shed}
use Rattle.fm_base.specs.declared.port.PortValue.{PortValue}
use Rattle.fm_chan.specs.Bodies.{chans_of}
use Rattle.fm_net.specs.Owned.{count}
use Rattle.fm_plain_frame.specs.LetGo.{let_go_ports}
use Rattle.fm_plain_frame.specs.Leaving.{left_ports}
use Rattle.fm_plain_net.specs.Held.{AreKept, AreOnce, StayBut}
use Rattle.fm_chan.specs.Woken.{WakesAll}
use Rattle.fm_plain_net.proofs.perform.discard_all.Given as goal

abbrev pub invariant-ports : goal.invariant-ports
invariant-ports l = record {
  kept : AreKept l.ports (left_ports l.program l.leaving);
  once : AreOnce (left_ports l.program l.leaving);
  channels : all_shed (left_ports l.program l.leaving) (chans_of l.channels) ≡ all_shed (let_go_ports l.program l.fn.let_go) (chans_of l.fn.channels);
  others : StayBut (let_go_ports l.program l.fn.let_go) l.fn.ports l.ports;
  among : (z : PortValue) → count z (left_ports l.program l.leaving) ≤ count z (let_go_ports l.program l.fn.let_go);
  waking : WakesAll l.fn.channels l.channels;
}

abbrev pub decreases-ports : goal.decreases-ports
decreases-ports l = length (left_ports l.program l.leaving)
