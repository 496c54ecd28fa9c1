use Rattle.std.proofs.Common.{◌∙◌}
use Rattle.fm_nodes_network.proofs.Leaving.{count_is}
use Rattle.fm_nodes_network.proofs.channels.Channels.len.Goals as goal

pub returns : goal.returns
returns c = c.len.ensures.count ∙ count_is c.args.self.now.by_name
