use Rattle.std.proofs.Common.{◌≡◌, ◌≤◌, length}
use Rattle.std.specs.List.{flat_map}
use Rattle.fm_base.specs.Channels.{all_shed}
use Rattle.fm_base.specs.declared.port.PortValue.{PortValue}
use Rattle.fm_chan.specs.Bodies.{chans_of}
use Rattle.fm_net.specs.Owned.{count}
use Rattle.fm_plain_frame.specs.LetGo.{let_go_ports}
use Rattle.fm_plain_net.specs.Held.{AreKept, AreOnce, StayBut}
use Rattle.fm_chan.specs.Woken.{WakesAll}
use Rattle.fm_plain_net.proofs.perform.discard_each.Given as goal

abbrev pub invariant-children : goal.invariant-children
invariant-children l = record {
  kept : AreKept l.ports (flat_map (let_go_ports l.program) l.rest.items);
  once : AreOnce (flat_map (let_go_ports l.program) l.rest.items);
  channels : all_shed (flat_map (let_go_ports l.program) l.rest.items) (chans_of l.channels) ≡ all_shed (flat_map (let_go_ports l.program) l.fn.let_go.items) (chans_of l.fn.channels);
  others : StayBut (flat_map (let_go_ports l.program) l.fn.let_go.items) l.fn.ports l.ports;
  among : (z : PortValue) → count z (flat_map (let_go_ports l.program) l.rest.items) ≤ count z (flat_map (let_go_ports l.program) l.fn.let_go.items);
  waking : WakesAll l.fn.channels l.channels;
}

abbrev pub decreases-children : goal.decreases-children
decreases-children l = length l.rest.items
