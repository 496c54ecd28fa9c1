use Rattle.fm_nodes_network.specs.Channel.{linked_of}
use Rattle.fm_nodes_network.proofs.Sending.{sent}
use Rattle.fm_nodes_network.proofs.channel.Channel.send.Goals as goal

pub returns : goal.returns
returns c = sent (linked_of c.args.self.now) _ c.args.words c.push.ensures.load
