use Rattle.fm_nodes_network.proofs.Named.{linked_chans_in-remove}
use Rattle.fm_nodes_network.proofs.channels.Channels.unmake.Goals as goal

pub returns : goal.returns
returns c = linked_chans_in-remove c.args.self.now.by_name c.remove.new.self c.args.name.now c.remove.ensures.map
