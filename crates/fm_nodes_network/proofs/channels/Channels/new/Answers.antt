use Rattle.fm_nodes_network.proofs.Named.{linked_chans_in-empty}
use Rattle.fm_nodes_network.proofs.channels.Channels.new.Goals as goal

pub returns : goal.returns
returns c = linked_chans_in-empty _ c.new.ensures
