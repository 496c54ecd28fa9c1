use Rattle.fm_nodes_network.specs.Channel.{with_first_taken}
use Rattle.fm_nodes_network.proofs.Named.{adjusted_at, adjusted_absent}
use Rattle.fm_nodes_network.proofs.channels.Channels.take.Goals as goal

pub returns-in-Some : goal.returns-in-Some
returns-in-Some c = adjusted_at c.args.self.now.by_name (c.get_mut.follows.lender c.take.new.self) c.args.name.now c.in-Some.channel.now c.take.new.self c.in-Some.ensures.value (c.get_mut.follows.holds c.take.new.self) with_first_taken c.take.ensures

pub returns-in-None : goal.returns-in-None
returns-in-None c = adjusted_absent c.args.self.now.by_name c.get_mut.follows.lender-at-none c.args.name.now c.get_mut.follows.holds-at-none c.in-None.ensures.value with_first_taken
