use Rattle.fm_nodes_network.proofs.Named.{linked_chans_in-insert}
use Rattle.fm_nodes_network.proofs.channels.Channels.make.Goals as goal

pub returns-clause-ok : goal.returns-clause-ok
returns-clause-ok c = linked_chans_in-insert c.args.self.now.by_name c.insert.new.self c.args.name c.in_ok-channel.channel _ c.in_ok-insert.ensures.ok c.in_ok-channel.ensures
