use Rattle.std.specs.Option.{option_copied}
use Rattle.fm_nodes_network.proofs.Named.{found}
use Rattle.fm_nodes_network.proofs.channels.Channels.get.Goals as goal

pub returns : goal.returns
returns c = found c.args.self.now.by_name c.args.name.now (option_copied c.get.result) c.get.ensures
