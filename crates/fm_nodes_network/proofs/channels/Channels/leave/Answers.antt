use Rattle.fm_link_law.specs.Channels.{gone}
use Rattle.fm_nodes_network.proofs.Named.{adjusted_at, adjusted_absent}
use Rattle.fm_nodes_network.proofs.channels.Channels.leave.Goals as goal

pub returns-in-Some : goal.returns-in-Some
returns-in-Some c = adjusted_at c.args.self.now.by_name (c.get_mut.follows.lender c.leave.new.self) c.args.name.now c.in-Some.channel.now c.leave.new.self c.in-Some.ensures.value (c.get_mut.follows.holds c.leave.new.self) gone c.leave.ensures

pub returns-in-None : goal.returns-in-None
returns-in-None c = adjusted_absent c.args.self.now.by_name c.get_mut.follows.lender-at-none c.args.name.now c.get_mut.follows.holds-at-none c.in-None.ensures.value gone
