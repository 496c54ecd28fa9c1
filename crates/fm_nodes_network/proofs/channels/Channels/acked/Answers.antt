use Rattle.fm_link_law.specs.Channels.{ack_comes}
use Rattle.fm_nodes_network.proofs.Named.{adjusted_at, adjusted_absent}
use Rattle.fm_nodes_network.proofs.channels.Channels.acked.Goals as goal

pub returns-in-Some : goal.returns-in-Some
returns-in-Some c = adjusted_at c.args.self.now.by_name (c.get_mut.follows.lender c.acked.new.self) c.args.name.now c.in-Some.channel.now c.acked.new.self c.in-Some.ensures.value (c.get_mut.follows.holds c.acked.new.self) (ack_comes c.args.ack.next) c.acked.ensures

pub returns-in-None : goal.returns-in-None
returns-in-None c = adjusted_absent c.args.self.now.by_name c.get_mut.follows.lender-at-none c.args.name.now c.get_mut.follows.holds-at-none c.in-None.ensures.value (ack_comes c.args.ack.next)
