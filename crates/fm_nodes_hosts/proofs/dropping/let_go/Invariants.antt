use Rattle.std.proofs.Common.{◌≡◌, length}
use Rattle.fm_link_law.specs.Channels.{shut_ports}
use Rattle.fm_link_law.specs.Steps.{AreOpen}
use Rattle.fm_nodes_network.specs.Channels.{linked_chans_of}
use Rattle.fm_nodes_hosts.proofs.dropping.let_go.Given as goal

abbrev pub invariant-ports : goal.invariant-ports
invariant-ports g l = record {
  left : shut_ports (g.R.Runner.let_go l.runner l.drops) (linked_chans_of l.channels) ≡ shut_ports (g.R.Runner.let_go l.runner l.initial.drops) (linked_chans_of l.initial.channels);
  are_open : AreOpen (linked_chans_of l.channels) (g.R.Runner.let_go l.runner l.drops);
}

abbrev pub decreases-ports : goal.decreases-ports
decreases-ports g l = length (g.R.Runner.let_go l.runner l.drops)
